-- What begins at the pieces of a printed text.
use Rattle.snap_parse_laws.proofs.Prelude.{◌≡◌, ℕ, List, [], ◌∷◌, ◌++◌, Bool, true, false, refl, ◌∙◌, arith, nat_tests, ◌||◌, ◌&&◌, ◌==◌, slice_index, if◌then◌else◌, is_blank_or_end, is_document_start, not, subst, is_document_end, Place, kind_of, kind_of_sign, TokenKind, is_sign, is_word_start, is_word_character, is_start, is_behind, Brackets, square, curly, open_sign, close_sign, here, or_parts, and_right, and_parts, not_true, and_nothing}
use Rattle.snap_scan.specs.declared.kind.TokenKind.TheVariants as k
use Rattle.snap_parse_laws.proofs.Skips.{stops_at}
use Rattle.snap_parse_laws.proofs.Escapes.{other}
use Rattle.snap_parse_laws.proofs.Words.{word_character}

pub colon-kind : (a : ℕ) (cs : List ℕ) (i l j : ℕ) → is_blank_or_end (slice_index cs 0) ≡ true → kind_of false a (here (58 ∷ cs) i l j) ≡ k.Value
colon-kind a cs i l j blank = rw (and_nothing (j == 0), blank) refl

pub quote-kind : (flow : Bool) (a : ℕ) (cs : List ℕ) (i l j : ℕ) → kind_of flow a (here (34 ∷ cs) i l j) ≡ k.DoubleQuoted
quote-kind flow a cs i l j = rw (and_nothing (j == 0)) refl

abbrev pub open_kind : Brackets → TokenKind
open_kind square = k.FlowSequenceStart
open_kind curly = k.FlowMappingStart

abbrev pub close_kind : Brackets → TokenKind
close_kind square = k.FlowSequenceEnd
close_kind curly = k.FlowMappingEnd

pub opened-kind : (q : Brackets) (flow : Bool) (a : ℕ) (cs : List ℕ) (i l j : ℕ) → kind_of flow a (here (open_sign q ∷ cs) i l j) ≡ open_kind q
opened-kind square flow a cs i l j = rw (and_nothing (j == 0)) refl
opened-kind curly flow a cs i l j = rw (and_nothing (j == 0)) refl

pub closed-kind : (q : Brackets) (flow : Bool) (a : ℕ) (cs : List ℕ) (i l j : ℕ) → kind_of flow a (here (close_sign q ∷ cs) i l j) ≡ close_kind q
closed-kind square flow a cs i l j = rw (and_nothing (j == 0)) refl
closed-kind curly flow a cs i l j = rw (and_nothing (j == 0)) refl

-- a sign that is none of those that begin something else
record IsNoSign (c : ℕ) : Type 0 where
  square : (c == 91) ≡ false
  curly : (c == 123) ≡ false
  square_end : (c == 93) ≡ false
  curly_end : (c == 125) ≡ false
  comma : (c == 44) ≡ false
  dash : (c == 45) ≡ false
  mark : (c == 63) ≡ false
  star : (c == 42) ≡ false
  anchor : (c == 38) ≡ false
  tag : (c == 33) ≡ false
  bar : (c == 124) ≡ false
  greater : (c == 62) ≡ false
  single : (c == 39) ≡ false
  double : (c == 34) ≡ false
  percent : (c == 37) ≡ false
  at_sign : (c == 64) ≡ false
  back : (c == 96) ≡ false

no-sign : (c : ℕ) → is_sign c ≡ false → IsNoSign c
no-sign c h = record {
  square = other is_sign 91 c refl h;
  curly = other is_sign 123 c refl h;
  square_end = other is_sign 93 c refl h;
  curly_end = other is_sign 125 c refl h;
  comma = other is_sign 44 c refl h;
  dash = other is_sign 45 c refl h;
  mark = other is_sign 63 c refl h;
  star = other is_sign 42 c refl h;
  anchor = other is_sign 38 c refl h;
  tag = other is_sign 33 c refl h;
  bar = other is_sign 124 c refl h;
  greater = other is_sign 62 c refl h;
  single = other is_sign 39 c refl h;
  double = other is_sign 34 c refl h;
  percent = other is_sign 37 c refl h;
  at_sign = other is_sign 64 c refl h;
  back = other is_sign 96 c refl h;
}

past : (b : Bool) (x y : TokenKind) → b ≡ false → (if b then x else y) ≡ y
past b x y h = rw h refl

sign-plain : (flow : Bool) (a : ℕ) (p : Place) (c : ℕ) → IsNoSign c → (c == 58) ≡ false → kind_of_sign flow a p c ≡ k.Plain
sign-plain flow a p c is colon =
    past (c == 91) _ _ is.square ∙ past (c == 123) _ _ is.curly ∙ past (c == 93) _ _ is.square_end ∙ past (c == 125) _ _ is.curly_end ∙ past (c == 44) _ _ is.comma
    ∙ past (c == 45) _ _ is.dash ∙ past (c == 63) _ _ is.mark ∙ past (c == 58) _ _ colon ∙ past (c == 42) _ _ is.star ∙ past (c == 38) _ _ is.anchor
    ∙ past (c == 33) _ _ is.tag ∙ past (c == 124) _ _ is.bar ∙ past (c == 62) _ _ is.greater ∙ past (c == 39) _ _ is.single ∙ past (c == 34) _ _ is.double
    ∙ past (c == 37) _ _ is.percent ∙ past (c == 64) _ _ is.at_sign ∙ past (c == 96) _ _ is.back

word-kind : (flow : Bool) (a : ℕ) (cs : List ℕ) (c i l j : ℕ) → is_word_start c ≡ true → kind_of flow a (here (c ∷ cs) i l j) ≡ k.Plain
word-kind flow a cs c i l j h =
    let two = and_parts _ (is_word_character c) h in
    let signs = or_parts (is_sign c) (c == 46) (not_true _ two.0) in
    let is = no-sign c signs.0 in
    let word = word_character c two.1 in
    let p : Place = here (c ∷ cs) i l j in
    let directive : (j == 0 && c == 37) ≡ false = and_right (j == 0) (c == 37) is.percent in
    let start : is_document_start p ≡ false = and_right (j == 0) _ (rw is.dash refl) in
    let end : is_document_end p ≡ false = and_right (j == 0) _ (rw signs.1 refl) in
    past (c == 0) _ _ word.nul ∙ past (j == 0 && c == 37) _ _ directive ∙ past (is_document_start p) _ _ start ∙ past (is_document_end p) _ _ end
    ∙ sign-plain flow a p c is word.colon

-- how a bare text begins
pub record Starts (c : ℕ) (cs : List ℕ) : Type 0 where
  pub stops : stops_at c ≡ false
  pub blank : (c == 32 || c == 9) ≡ false
  pub line_feed : (c == 10) ≡ false
  pub kind : (flow : Bool) (a : ℕ) (tail : List ℕ) (i l j : ℕ) → kind_of flow a (here (c ∷ (cs ++ tail)) i l j) ≡ k.Plain

-- what stands after a `-` or a `.`
record IsBehind (c d : ℕ) : Type 0 where
  alone : is_blank_or_end d ≡ false
  other_sign : (d == c) ≡ false

behind_sign : (c d : ℕ) → is_behind c d ≡ true → IsBehind c d
behind_sign c d h =
    let two = and_parts (is_word_character d) (not (d == c)) h in
    let is = word_character d two.0 in
    record { alone = rw (is.blank, is.line_end, is.nul) refl; other_sign = not_true (d == c) two.1 }

dash-kind : (flow : Bool) (a d : ℕ) (cs : List ℕ) (i l j : ℕ) → IsBehind 45 d → kind_of flow a (here (45 ∷ d ∷ cs) i l j) ≡ k.Plain
dash-kind flow a d cs i l j is = rw (is.other_sign, and_nothing (j == 0), is.alone) refl

dot-kind : (flow : Bool) (a d : ℕ) (cs : List ℕ) (i l j : ℕ) → IsBehind 46 d → kind_of flow a (here (46 ∷ d ∷ cs) i l j) ≡ k.Plain
dot-kind flow a d cs i l j is = rw (is.other_sign, and_nothing (j == 0)) refl

dash-starts : (c : ℕ) (cs : List ℕ) → c ≡ 45 → is_behind 45 (slice_index cs 0) ≡ true → Starts c cs
dash-starts c [] same h = absurd (cc)
dash-starts c (d ∷ cs) same h =
    record { stops = rw same refl; blank = rw same refl; line_feed = rw same refl; kind = λ flow a tail i l j. rw same (dash-kind flow a d (cs ++ tail) i l j (behind_sign 45 d h)) }

dot-starts : (c : ℕ) (cs : List ℕ) → c ≡ 46 → is_behind 46 (slice_index cs 0) ≡ true → Starts c cs
dot-starts c [] same h = absurd (cc)
dot-starts c (d ∷ cs) same h =
    record { stops = rw same refl; blank = rw same refl; line_feed = rw same refl; kind = λ flow a tail i l j. rw same (dot-kind flow a d (cs ++ tail) i l j (behind_sign 46 d h)) }

same-behind : (c a d : ℕ) → c ≡ a → is_behind c d ≡ true → is_behind a d ≡ true
same-behind c a d same h = let P : ℕ → Type 0 = λ x. is_behind x d ≡ true in subst P same h

starts-by : (c : ℕ) (cs : List ℕ) (b d e : Bool) → is_word_start c ≡ b → (c == 45) ≡ d → (c == 46) ≡ e → b || ((d || e) && is_behind c (slice_index cs 0)) ≡ true → Starts c cs
starts-by c cs true d e f g p h =
    let is = word_character c (and_parts _ (is_word_character c) f).1 in
    record { stops = rw (is.blank, is.line_end, is.hash) refl; blank = is.blank; line_feed = is.line_feed; kind = λ flow a tail i l j. word-kind flow a (cs ++ tail) c i l j f }
starts-by c cs false true e f g p h = let same : c ≡ 45 = grind (arith, nat_tests) in dash-starts c cs same (same-behind c 45 (slice_index cs 0) same h)
starts-by c cs false false true f g p h = let same : c ≡ 46 = grind (arith, nat_tests) in dot-starts c cs same (same-behind c 46 (slice_index cs 0) same h)
starts-by c cs false false false f g p h = absurd (cc)

pub starts : (c : ℕ) (cs : List ℕ) → is_start c cs ≡ true → Starts c cs
starts c cs h = starts-by c cs (is_word_start c) (c == 45) (c == 46) refl refl refl h
