-- Plain scalars, one character or one run of characters further.
use Rattle.snap_scan_tokens.proofs.Prelude.{◌≡◌, ◌==◌, ◌||◌, ℕ, List, [], ◌∷◌, ◌++◌, Bool, true, false, slice_index, refl, sym, ap, ◌∙◌, subst, arith, append-nil, Option, None, or_left, or_right, not_true, both_second, Gap, Word, is_blank, is_break, is_pair, is_break_or_end, is_blank_or_end, is_flow_sign, is_of, past_break, with_break, gap_of, no_gap, joined, before, EndsIn, Place, skipped, passed, skipped_while, Plain, plain, plain_end, ends_plain, is_bad_tab}
use Rattle.snap_scan_tokens.proofs.Folds.{gap-blank, gap-break, gap-none, regroup, no-more}
use Rattle.snap_scan_tokens.proofs.Pieces.{passed-ends}

abbrev at : List ℕ → ℕ → ℕ → ℕ → Place
at cs i l j = record { left = cs; index = i; line = l; col = j }

blank-at : (indent : Option ℕ) (flow : Bool) (g : Gap) (all text cs : List ℕ) (i l j : ℕ) → EndsIn all cs → is_blank (slice_index cs 0) ≡ true
    → is_bad_tab indent g (slice_index cs 0) j ≡ false
    → plain indent flow (gap_of g (before all (skipped (at cs i l j)).left)) text (skipped (at cs i l j)).left (skipped (at cs i l j))
    ≡ plain indent flow (gap_of g (before all cs)) text cs (at cs i l j)
blank-at indent flow g all text [] i l j ends blank bad = absurd (cc)
blank-at indent flow g all text (c ∷ cs) i l j ends blank bad =
    let f : Gap → Option Plain = λ h. plain indent flow h text cs (skipped (at (c ∷ cs) i l j)) in
    rw (blank, bad) (ap f (gap-blank g all c cs ends))

-- a blank is passed
pub plain-blank : (indent : Option ℕ) (flow : Bool) (g : Gap) (all text : List ℕ) (p q : Place) → EndsIn all p.left → is_blank (slice_index p.left 0) ≡ true
    → is_bad_tab indent g (slice_index p.left 0) p.col ≡ false → q ≡ skipped p
    → plain indent flow (gap_of g (before all q.left)) text q.left q ≡ plain indent flow (gap_of g (before all p.left)) text p.left p
plain-blank indent flow g all text p q ends blank bad is =
    let P : Place → Type 0 = λ x. plain indent flow (gap_of g (before all x.left)) text x.left x ≡ plain indent flow (gap_of g (before all p.left)) text p.left p in
    subst P (sym is) (blank-at indent flow g all text p.left p.index p.line p.col ends blank bad)

break-at : (indent : Option ℕ) (flow : Bool) (g : Gap) (xs ys text : List ℕ) (c : ℕ) (cs : List ℕ) (i l j : ℕ) (pair : Bool) → is_pair c (slice_index cs 0) ≡ pair
    → is_blank c ≡ false → is_break c ≡ true
    → plain indent flow (gap_of (with_break g) ys) text (past_break (at (c ∷ cs) i l j)).left (past_break (at (c ∷ cs) i l j))
    ≡ plain indent flow (gap_of g xs) text (c ∷ cs) (at (c ∷ cs) i l j)
break-at indent flow g xs ys text c cs i l j false single blank broken =
    let f : Gap → Option Plain = λ h. plain indent flow h text cs (skipped (at (c ∷ cs) i l j)) in
    rw (blank, broken, single) (ap f (gap-break g xs ys))
break-at indent flow g xs ys text c [] i l j true pair blank broken = absurd (let e : (0 == 10) ≡ true = both_second (c == 13) (0 == 10) pair in cc)
break-at indent flow g xs ys text c (d ∷ ds) i l j true pair blank broken =
    let e : d ≡ 10 = let b : (d == 10) ≡ true = both_second (c == 13) (d == 10) pair in grind arith in
    let inner : is_blank d ≡ false = rw e refl in
    let other : is_break d ≡ true = rw e refl in
    let alone : is_pair d (slice_index ds 0) ≡ false = rw e refl in
    let f : Gap → Option Plain = λ h. plain indent flow h text ds (skipped (skipped (at (c ∷ d ∷ ds) i l j))) in
    rw (blank, broken, pair, inner, other, alone) (ap f (gap-break g xs ys))

break-any : (indent : Option ℕ) (flow : Bool) (g : Gap) (xs ys text cs : List ℕ) (i l j : ℕ) → is_blank (slice_index cs 0) ≡ false → is_break (slice_index cs 0) ≡ true
    → plain indent flow (gap_of (with_break g) ys) text (past_break (at cs i l j)).left (past_break (at cs i l j))
    ≡ plain indent flow (gap_of g xs) text cs (at cs i l j)
break-any indent flow g xs ys text [] i l j blank broken = absurd (cc)
break-any indent flow g xs ys text (c ∷ cs) i l j blank broken = break-at indent flow g xs ys text c cs i l j (is_pair c (slice_index cs 0)) refl blank broken

-- a line end is passed
pub plain-break : (indent : Option ℕ) (flow : Bool) (g : Gap) (xs ys text : List ℕ) (p q : Place) → is_blank (slice_index p.left 0) ≡ false
    → is_break (slice_index p.left 0) ≡ true → q ≡ past_break p
    → plain indent flow (gap_of (with_break g) ys) text q.left q ≡ plain indent flow (gap_of g xs) text p.left p
plain-break indent flow g xs ys text p q blank broken is =
    let P : Place → Type 0 = λ x. plain indent flow (gap_of (with_break g) ys) text x.left x ≡ plain indent flow (gap_of g xs) text p.left p in
    subst P (sym is) (break-any indent flow g xs ys text p.left p.index p.line p.col blank broken)

ended-at : (indent : Option ℕ) (flow : Bool) (g : Gap) (text cs : List ℕ) (i l j : ℕ) → is_blank (slice_index cs 0) ≡ false → is_break (slice_index cs 0) ≡ false
    → ends_plain indent flow g (at cs i l j) ≡ true → plain indent flow g text cs (at cs i l j) ≡ plain_end g text (at cs i l j)
ended-at indent flow g text [] i l j blank broken ended = refl
ended-at indent flow g text (c ∷ cs) i l j blank broken ended = rw (blank, broken, ended) refl

-- the scalar ends
pub plain-ended : (indent : Option ℕ) (flow : Bool) (g : Gap) (text : List ℕ) (p : Place) → is_blank (slice_index p.left 0) ≡ false → is_break (slice_index p.left 0) ≡ false
    → ends_plain indent flow g p ≡ true → plain indent flow g text p.left p ≡ plain_end g text p
plain-ended indent flow g text p blank broken ended = ended-at indent flow g text p.left p.index p.line p.col blank broken ended

-- a character of a word: none of the signs that are tested for
record Ordinary (c : ℕ) : Type 0 where
  blank : is_blank c ≡ false
  broken : is_break c ≡ false
  end : (c == 0) ≡ false
  flow : is_flow_sign c ≡ false
  colon : (c == 58) ≡ false

ordinary : (c : ℕ) → is_of Word c ≡ true → Ordinary c
ordinary c word =
    let none : (is_blank_or_end c || is_flow_sign c || c == 58) ≡ false = not_true (is_blank_or_end c || is_flow_sign c || c == 58) word in
    let two : (is_blank_or_end c || is_flow_sign c) ≡ false = or_left (is_blank_or_end c || is_flow_sign c) (c == 58) none in
    let one : is_blank_or_end c ≡ false = or_left (is_blank_or_end c) (is_flow_sign c) two in
    let ends : is_break_or_end c ≡ false = or_right (is_blank c) (is_break_or_end c) one in
    record {
      blank = or_left (is_blank c) (is_break_or_end c) one;
      broken = or_left (is_break c) (c == 0) ends;
      end = or_right (is_break c) (c == 0) ends;
      flow = or_right (is_blank_or_end c) (is_flow_sign c) two;
      colon = or_right (is_blank_or_end c || is_flow_sign c) (c == 58) none;
    }

goes-on : (indent : Option ℕ) (flow : Bool) (c : ℕ) (cs : List ℕ) (i l j : ℕ) → Ordinary c → ends_plain indent flow no_gap (at (c ∷ cs) i l j) ≡ false
goes-on indent true c cs i l j o = rw (o.end, o.colon, o.flow) refl
goes-on indent false c cs i l j o = rw (o.end, o.colon) refl

run-of : (indent : Option ℕ) (flow : Bool) (text cs : List ℕ) (i l j : ℕ)
    → plain indent flow no_gap (text ++ before cs (passed (is_of Word) cs (at cs i l j)).left) (passed (is_of Word) cs (at cs i l j)).left (passed (is_of Word) cs (at cs i l j))
    ≡ plain indent flow no_gap text cs (at cs i l j)
run-of indent flow text [] i l j = let f : List ℕ → Option Plain = λ t. plain indent flow no_gap t [] (at [] i l j) in ap f (no-more text [])
run-of indent flow text (c ∷ cs) i l j =
    let p : Place = at (c ∷ cs) i l j in
    let s : Place = skipped p in
    let q : Place = passed (is_of Word) cs s in
    let end : List ℕ → Option Plain = λ t. plain indent flow no_gap t q.left q in
    let rest : List ℕ → Option Plain = λ t. plain indent flow no_gap t cs s in
    let add : List ℕ → List ℕ = λ t. t ++ c ∷ [] in
    let here : List ℕ → Option Plain = λ t. plain indent flow no_gap t (c ∷ cs) p in
    let step : (b : Bool) → is_of Word c ≡ b
    → plain indent flow no_gap (text ++ before (c ∷ cs) (passed (is_of Word) (c ∷ cs) p).left) (passed (is_of Word) (c ∷ cs) p).left (passed (is_of Word) (c ∷ cs) p)
    ≡ plain indent flow no_gap text (c ∷ cs) p
    = λ b. elim b as (λ v. is_of Word c ≡ v
    → plain indent flow no_gap (text ++ before (c ∷ cs) (passed (is_of Word) (c ∷ cs) p).left) (passed (is_of Word) (c ∷ cs) p).left (passed (is_of Word) (c ∷ cs) p)
    ≡ plain indent flow no_gap text (c ∷ cs) p) [
      | true ↦ λ e.
          let o : Ordinary c = ordinary c e in
          let taken : plain indent flow no_gap text (c ∷ cs) p ≡ plain indent flow no_gap ((text ++ []) ++ c ∷ []) cs s = rw (o.blank, o.broken, goes-on indent flow c cs i l j o) refl in
          rw e (ap end (regroup text c cs q.left (passed-ends (is_of Word) cs s refl))
          ∙ run-of indent flow (text ++ c ∷ []) cs s.index s.line s.col ∙ ap rest (ap add (sym (append-nil text))) ∙ sym taken)
      | false ↦ λ e. rw e (ap here (no-more text (c ∷ cs)))
    ] in
    step (is_of Word c) refl

word-at : (indent : Option ℕ) (flow : Bool) (g : Gap) (text cs : List ℕ) (i l j : ℕ) → is_blank (slice_index cs 0) ≡ false → is_break (slice_index cs 0) ≡ false
    → ends_plain indent flow g (at cs i l j) ≡ false
    → plain indent flow no_gap ((text ++ joined g) ++ before cs (skipped_while (is_of Word) (skipped (at cs i l j))).left) (skipped_while (is_of Word) (skipped (at cs i l j))).left (skipped_while (is_of Word) (skipped (at cs i l j)))
    ≡ plain indent flow g text cs (at cs i l j)
word-at indent flow g text [] i l j blank broken on = absurd (cc)
word-at indent flow g text (c ∷ cs) i l j blank broken on =
    let s : Place = skipped (at (c ∷ cs) i l j) in
    let q : Place = passed (is_of Word) cs s in
    let end : List ℕ → Option Plain = λ t. plain indent flow no_gap t q.left q in
    let taken : plain indent flow g text (c ∷ cs) (at (c ∷ cs) i l j) ≡ plain indent flow no_gap ((text ++ joined g) ++ c ∷ []) cs s = rw (blank, broken, on) refl in
    ap end (regroup (text ++ joined g) c cs q.left (passed-ends (is_of Word) cs s refl)) ∙ run-of indent flow ((text ++ joined g) ++ c ∷ []) cs s.index s.line s.col ∙ sym taken

-- a character that belongs to the scalar is passed, and the word that it begins
pub plain-word : (indent : Option ℕ) (flow : Bool) (g : Gap) (text : List ℕ) (p q : Place) → is_blank (slice_index p.left 0) ≡ false → is_break (slice_index p.left 0) ≡ false
    → ends_plain indent flow g p ≡ false → q ≡ skipped_while (is_of Word) (skipped p)
    → plain indent flow (gap_of no_gap (before q.left q.left)) ((text ++ joined g) ++ before p.left q.left) q.left q ≡ plain indent flow g text p.left p
plain-word indent flow g text p q blank broken on is =
    let f : Gap → Option Plain = λ h. plain indent flow h ((text ++ joined g) ++ before p.left q.left) q.left q in
    let P : Place → Type 0 = λ x. plain indent flow no_gap ((text ++ joined g) ++ before p.left x.left) x.left x ≡ plain indent flow g text p.left p in
    ap f (gap-none q.left) ∙ subst P (sym is) (word-at indent flow g text p.left p.index p.line p.col blank broken on)

tab-at : (indent : Option ℕ) (flow : Bool) (g : Gap) (text cs : List ℕ) (i l j : ℕ) → is_blank (slice_index cs 0) ≡ true → is_bad_tab indent g (slice_index cs 0) j ≡ true
    → plain indent flow g text cs (at cs i l j) ≡ None
tab-at indent flow g text [] i l j blank bad = absurd (cc)
tab-at indent flow g text (c ∷ cs) i l j blank bad = rw (blank, bad) refl

-- a tab in the indentation is refused
pub plain-tab : (indent : Option ℕ) (flow : Bool) (g : Gap) (text : List ℕ) (p : Place) → is_blank (slice_index p.left 0) ≡ true
    → is_bad_tab indent g (slice_index p.left 0) p.col ≡ true → plain indent flow g text p.left p ≡ None
plain-tab indent flow g text p blank bad = tab-at indent flow g text p.left p.index p.line p.col blank bad
