-- Scalars in single quotes, one character or one run of characters further.
use Rattle.snap_scan_tokens.proofs.Prelude.{◌≡◌, ◌≢◌, ◌≤◌, ◌==◌, ◌||◌, ℕ, List, [], ◌∷◌, ◌++◌, Bool, true, false, slice_index, refl, sym, ap, ◌∙◌, subst, arith, append-nil, Option, None, or_left, or_right, not_true, both_second, Gap, SingleQuoted, is_blank, is_break, is_pair, is_break_or_end, is_blank_or_end, is_of, past_break, is_document_indicator, with_break, gap_of, no_gap, joined, Piece, before, EndsIn, Place, skipped, passed, skipped_while, Quoted, quoted_end, single, single_at, or_from}
use Rattle.snap_scan_tokens.proofs.Folds.{gap-blank, gap-break, gap-none, mid-line, regroup, no-more}
use Rattle.snap_scan_tokens.proofs.Pieces.{passed-ends}

abbrev at : List ℕ → ℕ → ℕ → ℕ → Place
at cs i l j = record { left = cs; index = i; line = l; col = j }

blank-at : (g : Gap) (all text cs : List ℕ) (i l j : ℕ) → EndsIn all cs → is_blank (slice_index cs 0) ≡ true
    → single (gap_of g (before all (skipped (at cs i l j)).left)) text (skipped (at cs i l j)).left (skipped (at cs i l j)) ≡ single (gap_of g (before all cs)) text cs (at cs i l j)
blank-at g all text [] i l j ends blank = absurd (cc)
blank-at g all text (c ∷ cs) i l j ends blank =
    let f : Gap → Option Quoted = λ h. single h text cs (skipped (at (c ∷ cs) i l j)) in
    rw blank (ap f (gap-blank g all c cs ends))

-- a blank is passed
pub single-blank : (t : Piece) (g : Gap) (p q : Place) → EndsIn t.behind p.left → is_blank (slice_index p.left 0) ≡ true → q ≡ skipped p → single_at t g q ≡ single_at t g p
single-blank t g p q ends blank is =
    let P : Place → Type 0 = λ x. single_at t g x ≡ single_at t g p in
    subst P (sym is) (blank-at g t.behind t.text p.left p.index p.line p.col ends blank)

break-at : (g : Gap) (xs ys text : List ℕ) (c : ℕ) (cs : List ℕ) (i l j : ℕ) (pair : Bool) → is_pair c (slice_index cs 0) ≡ pair → is_blank c ≡ false → is_break c ≡ true
    → single (gap_of (with_break g) ys) text (past_break (at (c ∷ cs) i l j)).left (past_break (at (c ∷ cs) i l j)) ≡ single (gap_of g xs) text (c ∷ cs) (at (c ∷ cs) i l j)
break-at g xs ys text c cs i l j false apart blank broken =
    let f : Gap → Option Quoted = λ h. single h text cs (skipped (at (c ∷ cs) i l j)) in
    rw (blank, broken, apart) (ap f (gap-break g xs ys))
break-at g xs ys text c [] i l j true pair blank broken = absurd (let e : (0 == 10) ≡ true = both_second (c == 13) (0 == 10) pair in cc)
break-at g xs ys text c (d ∷ ds) i l j true pair blank broken =
    let e : d ≡ 10 = let b : (d == 10) ≡ true = both_second (c == 13) (d == 10) pair in grind arith in
    let inner : is_blank d ≡ false = rw e refl in
    let other : is_break d ≡ true = rw e refl in
    let alone : is_pair d (slice_index ds 0) ≡ false = rw e refl in
    let f : Gap → Option Quoted = λ h. single h text ds (skipped (skipped (at (c ∷ d ∷ ds) i l j))) in
    rw (blank, broken, pair, inner, other, alone) (ap f (gap-break g xs ys))

break-any : (g : Gap) (xs ys text cs : List ℕ) (i l j : ℕ) → is_blank (slice_index cs 0) ≡ false → is_break (slice_index cs 0) ≡ true
    → single (gap_of (with_break g) ys) text (past_break (at cs i l j)).left (past_break (at cs i l j)) ≡ single (gap_of g xs) text cs (at cs i l j)
break-any g xs ys text [] i l j blank broken = absurd (cc)
break-any g xs ys text (c ∷ cs) i l j blank broken = break-at g xs ys text c cs i l j (is_pair c (slice_index cs 0)) refl blank broken

-- a line end is passed
pub single-break : (t : Piece) (g : Gap) (p q : Place) → is_blank (slice_index p.left 0) ≡ false → is_break (slice_index p.left 0) ≡ true → q ≡ past_break p
    → single_at t (with_break g) q ≡ single_at t g p
single-break t g p q blank broken is =
    let P : Place → Type 0 = λ x. single (gap_of (with_break g) (before t.behind q.left)) t.text x.left x ≡ single_at t g p in
    subst P (sym is) (break-any g (before t.behind p.left) (before t.behind q.left) t.text p.left p.index p.line p.col blank broken)

refused-at : (g : Gap) (text cs : List ℕ) (i l j : ℕ) → is_blank (slice_index cs 0) ≡ false → is_break (slice_index cs 0) ≡ false
    → (is_document_indicator (at cs i l j) || slice_index cs 0 == 0) ≡ true → single g text cs (at cs i l j) ≡ None
refused-at g text [] i l j blank broken stop = refl
refused-at g text (c ∷ cs) i l j blank broken stop = rw (blank, broken, stop) refl

-- a document indicator, or the end of the text
pub single-refused : (t : Piece) (g : Gap) (p : Place) → is_blank (slice_index p.left 0) ≡ false → is_break (slice_index p.left 0) ≡ false
    → (is_document_indicator p || slice_index p.left 0 == 0) ≡ true → single_at t g p ≡ None
single-refused t g p blank broken stop = refused-at (gap_of g (before t.behind p.left)) t.text p.left p.index p.line p.col blank broken stop

record Ordinary (c : ℕ) : Type 0 where
  blank : is_blank c ≡ false
  broken : is_break c ≡ false
  feed : (c == 10) ≡ false
  end : (c == 0) ≡ false
  sign39 : (c == 39) ≡ false

ordinary : (c : ℕ) → is_of SingleQuoted c ≡ true → Ordinary c
ordinary c word =
    let none : (is_blank_or_end c || c == 39) ≡ false = not_true (is_blank_or_end c || c == 39) word in
    let less1 : (is_blank_or_end c) ≡ false = or_left (is_blank_or_end c) (c == 39) none in
    let ends : is_break_or_end c ≡ false = or_right (is_blank c) (is_break_or_end c) less1 in
    let broken : is_break c ≡ false = or_left (is_break c) (c == 0) ends in
    record {
      blank = or_left (is_blank c) (is_break_or_end c) less1;
      broken = broken;
      feed = or_left (c == 10) (c == 13) broken;
      end = or_right (is_break c) (c == 0) ends;
      sign39 = or_right (is_blank_or_end c) (c == 39) none;
    }

run-of : (text cs : List ℕ) (i l j : ℕ) → 1 ≤ j
    → single no_gap (text ++ before cs (passed (is_of SingleQuoted) cs (at cs i l j)).left) (passed (is_of SingleQuoted) cs (at cs i l j)).left (passed (is_of SingleQuoted) cs (at cs i l j))
    ≡ single no_gap text cs (at cs i l j)
run-of text [] i l j inside = let f : List ℕ → Option Quoted = λ t. single no_gap t [] (at [] i l j) in ap f (no-more text [])
run-of text (c ∷ cs) i l j inside =
    let p : Place = at (c ∷ cs) i l j in
    let s : Place = skipped p in
    let q : Place = passed (is_of SingleQuoted) cs s in
    let end : List ℕ → Option Quoted = λ t. single no_gap t q.left q in
    let rest : List ℕ → Option Quoted = λ t. single no_gap t cs s in
    let add : List ℕ → List ℕ = λ t. t ++ c ∷ [] in
    let here : List ℕ → Option Quoted = λ t. single no_gap t (c ∷ cs) p in
    let step : (b : Bool) → is_of SingleQuoted c ≡ b
    → single no_gap (text ++ before (c ∷ cs) (passed (is_of SingleQuoted) (c ∷ cs) p).left) (passed (is_of SingleQuoted) (c ∷ cs) p).left (passed (is_of SingleQuoted) (c ∷ cs) p) ≡ single no_gap text (c ∷ cs) p
    = λ b. elim b as (λ v. is_of SingleQuoted c ≡ v
    → single no_gap (text ++ before (c ∷ cs) (passed (is_of SingleQuoted) (c ∷ cs) p).left) (passed (is_of SingleQuoted) (c ∷ cs) p).left (passed (is_of SingleQuoted) (c ∷ cs) p) ≡ single no_gap text (c ∷ cs) p) [
      | true ↦ λ e.
          let o : Ordinary c = ordinary c e in
          let stop : (is_document_indicator p || c == 0) ≡ false = or_from (is_document_indicator p) (c == 0) (mid-line p inside) o.end in
          let taken : single no_gap text (c ∷ cs) p ≡ single no_gap ((text ++ []) ++ c ∷ []) cs s = rw (o.blank, o.broken, stop, o.sign39) refl in
          let further : 1 ≤ s.col = rw o.feed (omega arith) in
          rw e (ap end (regroup text c cs q.left (passed-ends (is_of SingleQuoted) cs s refl))
          ∙ run-of (text ++ c ∷ []) cs s.index s.line s.col further ∙ ap rest (ap add (sym (append-nil text))) ∙ sym taken)
      | false ↦ λ e. rw e (ap here (no-more text (c ∷ cs)))
    ] in
    step (is_of SingleQuoted c) refl

word-at : (g : Gap) (text cs : List ℕ) (i l j : ℕ) → is_blank (slice_index cs 0) ≡ false → is_break (slice_index cs 0) ≡ false
    → is_document_indicator (at cs i l j) ≡ false → slice_index cs 0 ≢ 0 → slice_index cs 0 ≢ 39
    → single no_gap ((text ++ joined g) ++ before cs (skipped_while (is_of SingleQuoted) (skipped (at cs i l j))).left) (skipped_while (is_of SingleQuoted) (skipped (at cs i l j))).left (skipped_while (is_of SingleQuoted) (skipped (at cs i l j)))
    ≡ single g text cs (at cs i l j)
word-at g text [] i l j blank broken sign end no39 = absurd (end refl)
word-at g text (c ∷ cs) i l j blank broken sign end no39 =
    let p : Place = at (c ∷ cs) i l j in
    let s : Place = skipped p in
    let q : Place = passed (is_of SingleQuoted) cs s in
    let f : List ℕ → Option Quoted = λ t. single no_gap t q.left q in
    let nul : (c == 0) ≡ false = grind arith in
    let stop : (is_document_indicator p || c == 0) ≡ false = or_from (is_document_indicator p) (c == 0) sign nul in
    let other39 : (c == 39) ≡ false = grind arith in
    let taken : single g text (c ∷ cs) p ≡ single no_gap ((text ++ joined g) ++ c ∷ []) cs s = rw (blank, broken, stop, other39) refl in
    let feed : (c == 10) ≡ false = or_left (c == 10) (c == 13) broken in
    let further : 1 ≤ s.col = rw feed (omega arith) in
    ap f (regroup (text ++ joined g) c cs q.left (passed-ends (is_of SingleQuoted) cs s refl)) ∙ run-of ((text ++ joined g) ++ c ∷ []) cs s.index s.line s.col further ∙ sym taken

-- a character that stands for itself is passed, and those after it
pub single-word : (t u : Piece) (g : Gap) (p q : Place) → is_blank (slice_index p.left 0) ≡ false → is_break (slice_index p.left 0) ≡ false
    → is_document_indicator p ≡ false → slice_index p.left 0 ≢ 0 → slice_index p.left 0 ≢ 39
    → q ≡ skipped_while (is_of SingleQuoted) (skipped p)
    → u ≡ record { text = (t.text ++ joined (gap_of g (before t.behind p.left))) ++ before p.left q.left; behind = q.left }
    → single_at u no_gap q ≡ single_at t g p
single-word t u g p q blank broken sign end no39 is text =
    let h : Gap = gap_of g (before t.behind p.left) in
    let f : Gap → Option Quoted = λ k. single k ((t.text ++ joined h) ++ before p.left q.left) q.left q in
    let P : Place → Type 0 = λ x. single no_gap ((t.text ++ joined h) ++ before p.left x.left) x.left x ≡ single_at t g p in
    let U : Piece → Type 0 = λ x. single_at x no_gap q ≡ single_at t g p in
    subst U (sym text) (ap f (gap-none q.left) ∙ subst P (sym is) (word-at h t.text p.left p.index p.line p.col blank broken sign end no39))

closed-at : (g : Gap) (text cs : List ℕ) (i l j : ℕ) → is_document_indicator (at cs i l j) ≡ false → slice_index cs 0 ≡ 39 → slice_index cs 1 ≢ 39
    → single g text cs (at cs i l j) ≡ quoted_end g text (at cs i l j)
closed-at g text [] i l j sign quote alone = absurd (cc)
closed-at g text (c ∷ cs) i l j sign quote alone =
    let blank : is_blank c ≡ false = rw quote refl in
    let broken : is_break c ≡ false = rw quote refl in
    let nul : (c == 0) ≡ false = rw quote refl in
    let is : (c == 39) ≡ true = rw quote refl in
    let stop : (is_document_indicator (at (c ∷ cs) i l j) || c == 0) ≡ false = or_from (is_document_indicator (at (c ∷ cs) i l j)) (c == 0) sign nul in
    let other : (slice_index cs 0 == 39) ≡ false = grind arith in
    rw (blank, broken, stop, is, other) refl

-- one quote, which ends the scalar
pub single-closed : (t : Piece) (g : Gap) (p : Place) → is_document_indicator p ≡ false → slice_index p.left 0 ≡ 39 → slice_index p.left 1 ≢ 39
    → single_at t g p ≡ quoted_end (gap_of g (before t.behind p.left)) t.text p
single-closed t g p sign quote alone = closed-at (gap_of g (before t.behind p.left)) t.text p.left p.index p.line p.col sign quote alone
