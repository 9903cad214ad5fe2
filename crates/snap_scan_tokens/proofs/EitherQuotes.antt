-- Scalars in quotes, whichever these are, one step further.
use Rattle.snap_scan_tokens.proofs.Prelude.{◌≡◌, ◌||◌, ◌==◌, ℕ, [], ◌∷◌, Bool, true, false, not, slice_index, refl, sym, subst, both_first, both_second, eqb-true, Gap, is_blank, is_break, past_break, is_document_indicator, with_break, gap_of, Piece, before, EndsIn, Place, skipped, quoted_end, None, Quotes, sign_of, ends_quoted, quoted_at, Mark, Syntax, S29, S30, IsRefusedBy, is_among, explains}
use Rattle.snap_scan_tokens.specs.declared.quoted.Quotes.TheVariants as q
use Rattle.snap_scan_tokens.specs.declared.info.ScanInfo.{ScanInfo}
use Rattle.snap_scan_tokens.proofs.Singles.{single-blank, single-break, single-refused, single-closed}
use Rattle.snap_scan_tokens.proofs.Doubles.{double-blank, double-break, double-refused, double-closed}

-- a blank is passed
pub quoted-blank : (k : Quotes) (t : Piece) (g : Gap) (p r : Place) → EndsIn t.behind p.left → is_blank (slice_index p.left 0) ≡ true → r ≡ skipped p → quoted_at k t g r ≡ quoted_at k t g p
quoted-blank q.Single t g p r ends blank is = single-blank t g p r ends blank is
quoted-blank q.Double t g p r ends blank is = double-blank t g p r ends blank is

-- a line end is passed
pub quoted-break : (k : Quotes) (t : Piece) (g : Gap) (p r : Place) → is_blank (slice_index p.left 0) ≡ false → is_break (slice_index p.left 0) ≡ true → r ≡ past_break p
    → quoted_at k t (with_break g) r ≡ quoted_at k t g p
quoted-break q.Single t g p r blank broken is = single-break t g p r blank broken is
quoted-break q.Double t g p r blank broken is = double-break t g p r blank broken is

-- a document indicator, or the end of the text
pub quoted-refused : (k : Quotes) (t : Piece) (g : Gap) (p : Place) → is_blank (slice_index p.left 0) ≡ false → is_break (slice_index p.left 0) ≡ false
    → (is_document_indicator p || slice_index p.left 0 == 0) ≡ true → quoted_at k t g p ≡ None
quoted-refused q.Single t g p blank broken stop = single-refused t g p blank broken stop
quoted-refused q.Double t g p blank broken stop = double-refused t g p blank broken stop

not-so : (b : Bool) → not b ≡ true → b ≡ false
not-so true is = absurd (cc)
not-so false is = refl

-- the end of the scalar
pub quoted-closed : (k : Quotes) (t : Piece) (g : Gap) (p : Place) → is_document_indicator p ≡ false → ends_quoted k p.left ≡ true
    → quoted_at k t g p ≡ quoted_end (gap_of g (before t.behind p.left)) t.text p
quoted-closed q.Single t g p sign ends =
    let first : (slice_index p.left 0 == 39) ≡ true = both_first (slice_index p.left 0 == 39) (not (slice_index p.left 1 == 39)) ends in
    let alone : (slice_index p.left 1 == 39) ≡ false = not-so (slice_index p.left 1 == 39) (both_second (slice_index p.left 0 == 39) (not (slice_index p.left 1 == 39)) ends) in
    single-closed t g p sign (eqb-true (slice_index p.left 0) 39 first) (λ e. let again : (slice_index p.left 1 == 39) ≡ true = rw e refl in absurd (cc))
quoted-closed q.Double t g p sign ends = double-closed t g p sign (eqb-true (slice_index p.left 0) 34 ends)

-- the sign that begins the scalar explains its refusals
pub among-quotes : (k : Quotes) (c : ℕ) → c ≡ sign_of k → is_among (sign_of k ∷ []) c ≡ true
among-quotes q.Single c is = rw is refl
among-quotes q.Double c is = rw is refl

pub none-quotes : (k : Quotes) → is_among (sign_of k ∷ []) 0 ≡ false
none-quotes q.Single = refl
none-quotes q.Double = refl

only-one : (c n : ℕ) → is_among (n ∷ []) c ≡ true → c ≡ n
only-one c n among = by (c == n) refl
  where
    by : (b : Bool) → (c == n) ≡ b → c ≡ n
    by true is = eqb-true c n is
    by false is = absurd (let none : is_among (n ∷ []) c ≡ false = rw is refl in cc)

explained-by : (c n : ℕ) (info : ScanInfo) → is_among (n ∷ []) c ≡ true → explains n info ≡ true → explains c info ≡ true
explained-by c n info among is = let P : ℕ → Type 0 = λ x. explains x info ≡ true in subst P (sym (only-one c n among)) is

pub quotes-refused : (k : Quotes) (m n : Mark) → m ≡ n → IsRefusedBy (sign_of k ∷ []) n (Syntax m S29)
quotes-refused q.Single m n is = (is, λ c among. explained-by c 39 S29 among refl)
quotes-refused q.Double m n is = (is, λ c among. explained-by c 34 S29 among refl)

pub quotes-unended : (k : Quotes) (m n : Mark) → m ≡ n → IsRefusedBy (sign_of k ∷ []) n (Syntax m S30)
quotes-unended q.Single m n is = (is, λ c among. explained-by c 39 S30 among refl)
quotes-unended q.Double m n is = (is, λ c among. explained-by c 34 S30 among refl)
