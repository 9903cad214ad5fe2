-- Lines of a block scalar, one character or one line further.
use Rattle.snap_scan_blocks.proofs.Prelude.{◌≡◌, ◌==◌, ◌||◌, ◌&&◌, nat_lt, not, ℕ, List, [], ◌∷◌, ◌++◌, Bool, true, false, slice_index, refl, sym, ap, ◌∙◌, subst, arith, Option, None, or_left, or_right, not_true, both_second, InLine, is_blank, is_break, is_pair, is_break_or_end, is_of, past_break, Place, skipped, passed, skipped_while, Lines, with_empty, with_line, with_character, ended, joined, Read, between, within, stop, opened, is_open}
use Rattle.snap_scan_tokens.specs.Pieces.{before}
use Rattle.snap_scan_tokens.proofs.Folds.{regroup, no-more}
use Rattle.snap_scan_tokens.proofs.Pieces.{passed-ends}

abbrev pub placed : List ℕ → ℕ → ℕ → ℕ → Place
placed cs i k j = record { left = cs; index = i; line = k; col = j }

abbrev pub between_at : ℕ → Bool → Lines → Place → Option Read
between_at n b l p = between n b l p.left p

abbrev pub within_at : ℕ → Bool → Lines → Place → Option Read
within_at n b l p = within n b l p.left p

abbrev pub opened_at : ℕ → Place → Place
opened_at n p = opened n p.left p

-- a character that ends a line is no blank
pub break-sign : (c s : ℕ) → (s == 10) ≡ false → (s == 13) ≡ false → is_break c ≡ true → (c == s) ≡ false
break-sign c s feed return broken = grind arith

space-at : (n : ℕ) (b : Bool) (l : Lines) (cs : List ℕ) (i k j : ℕ) → slice_index cs 0 ≡ 32 → nat_lt j n ≡ true
    → between_at n b l (skipped (placed cs i k j)) ≡ between_at n b l (placed cs i k j)
space-at n b l [] i k j is inside = absurd (omega arith)
space-at n b l (c ∷ cs) i k j is inside =
    let e : (c == 32) ≡ true = rw is refl in
    rw (e, inside) refl

-- a space of the indentation is passed
pub between-space : (n : ℕ) (b : Bool) (l : Lines) (p q : Place) → slice_index p.left 0 ≡ 32 → nat_lt p.col n ≡ true → q ≡ skipped p
    → between_at n b l q ≡ between_at n b l p
between-space n b l p q is inside next =
    let P : Place → Type 0 = λ x. between_at n b l x ≡ between_at n b l p in
    subst P (sym next) (space-at n b l p.left p.index p.line p.col is inside)

opened-space-at : (n : ℕ) (cs : List ℕ) (i k j : ℕ) → slice_index cs 0 ≡ 32 → nat_lt j n ≡ true
    → opened_at n (skipped (placed cs i k j)) ≡ opened_at n (placed cs i k j)
opened-space-at n [] i k j is inside = absurd (omega arith)
opened-space-at n (c ∷ cs) i k j is inside =
    let e : (c == 32) ≡ true = rw is refl in
    let f : is_break c ≡ false = rw is refl in
    rw (f, e, inside) refl

pub opened-space : (n : ℕ) (p q : Place) → slice_index p.left 0 ≡ 32 → nat_lt p.col n ≡ true → q ≡ skipped p → opened_at n q ≡ opened_at n p
opened-space n p q is inside next =
    let P : Place → Type 0 = λ x. opened_at n x ≡ opened_at n p in
    subst P (sym next) (opened-space-at n p.left p.index p.line p.col is inside)

tab-at : (n : ℕ) (b : Bool) (l : Lines) (cs : List ℕ) (i k j : ℕ) → slice_index cs 0 ≡ 9 → nat_lt j n ≡ true
    → between_at n b l (placed cs i k j) ≡ None
tab-at n b l [] i k j is inside = absurd (omega arith)
tab-at n b l (c ∷ cs) i k j is inside =
    let e : (c == 9) ≡ true = rw is refl in
    let f : (c == 32) ≡ false = rw is refl in
    rw (f, e, inside) refl

-- a tab in the indentation is refused
pub between-tab : (n : ℕ) (b : Bool) (l : Lines) (p : Place) → slice_index p.left 0 ≡ 9 → nat_lt p.col n ≡ true → between_at n b l p ≡ None
between-tab n b l p is inside = tab-at n b l p.left p.index p.line p.col is inside

break-at : (n : ℕ) (b : Bool) (l : Lines) (c : ℕ) (cs : List ℕ) (i k j : ℕ) (pair : Bool) → is_pair c (slice_index cs 0) ≡ pair → is_break c ≡ true
    → between_at n b (with_empty l) (past_break (placed (c ∷ cs) i k j)) ≡ between_at n b l (placed (c ∷ cs) i k j)
break-at n b l c cs i k j false apart broken =
    let space : (c == 32) ≡ false = break-sign c 32 refl refl broken in
    let tab : (c == 9) ≡ false = break-sign c 9 refl refl broken in
    rw (space, tab, broken, apart) refl
break-at n b l c [] i k j true pair broken = absurd (let e : (0 == 10) ≡ true = both_second (c == 13) (0 == 10) pair in cc)
break-at n b l c (d ∷ ds) i k j true pair broken =
    let e : d ≡ 10 = let f : (d == 10) ≡ true = both_second (c == 13) (d == 10) pair in grind arith in
    let space : (c == 32) ≡ false = break-sign c 32 refl refl broken in
    let tab : (c == 9) ≡ false = break-sign c 9 refl refl broken in
    let other-space : (d == 32) ≡ false = rw e refl in
    let other-tab : (d == 9) ≡ false = rw e refl in
    let other : is_break d ≡ true = rw e refl in
    let alone : is_pair d (slice_index ds 0) ≡ false = rw e refl in
    rw (space, tab, broken, pair, other-space, other-tab, other, alone) refl

break-any : (n : ℕ) (b : Bool) (l : Lines) (cs : List ℕ) (i k j : ℕ) → is_break (slice_index cs 0) ≡ true
    → between_at n b (with_empty l) (past_break (placed cs i k j)) ≡ between_at n b l (placed cs i k j)
break-any n b l [] i k j broken = absurd (cc)
break-any n b l (c ∷ cs) i k j broken = break-at n b l c cs i k j (is_pair c (slice_index cs 0)) refl broken

-- an empty line is passed
pub between-break : (n : ℕ) (b : Bool) (l : Lines) (p q : Place) → is_break (slice_index p.left 0) ≡ true → q ≡ past_break p
    → between_at n b (with_empty l) q ≡ between_at n b l p
between-break n b l p q broken next =
    let P : Place → Type 0 = λ x. between_at n b (with_empty l) x ≡ between_at n b l p in
    subst P (sym next) (break-any n b l p.left p.index p.line p.col broken)

opened-break-at : (n c : ℕ) (cs : List ℕ) (i k j : ℕ) (pair : Bool) → is_pair c (slice_index cs 0) ≡ pair → is_break c ≡ true
    → opened_at n (past_break (placed (c ∷ cs) i k j)) ≡ opened_at n (placed (c ∷ cs) i k j)
opened-break-at n c cs i k j false apart broken = rw (broken, apart) refl
opened-break-at n c [] i k j true pair broken = absurd (let e : (0 == 10) ≡ true = both_second (c == 13) (0 == 10) pair in cc)
opened-break-at n c (d ∷ ds) i k j true pair broken =
    let e : d ≡ 10 = let f : (d == 10) ≡ true = both_second (c == 13) (d == 10) pair in grind arith in
    let other : is_break d ≡ true = rw e refl in
    rw (broken, pair, other) refl

opened-break-any : (n : ℕ) (cs : List ℕ) (i k j : ℕ) → is_break (slice_index cs 0) ≡ true → opened_at n (past_break (placed cs i k j)) ≡ opened_at n (placed cs i k j)
opened-break-any n [] i k j broken = absurd (cc)
opened-break-any n (c ∷ cs) i k j broken = opened-break-at n c cs i k j (is_pair c (slice_index cs 0)) refl broken

pub opened-break : (n : ℕ) (p q : Place) → is_break (slice_index p.left 0) ≡ true → q ≡ past_break p → opened_at n q ≡ opened_at n p
opened-break n p q broken next =
    let P : Place → Type 0 = λ x. opened_at n x ≡ opened_at n p in
    subst P (sym next) (opened-break-any n p.left p.index p.line p.col broken)

-- where neither a line ends nor a blank of the indentation stands
pub record Open (n c j : ℕ) : Type 0 where
  pub broken : is_break c ≡ false
  pub space : (c == 32 && nat_lt j n) ≡ false
  pub tab : (c == 9 && nat_lt j n) ≡ false

no-space : (s t i : Bool) → ((s || t) && i) ≡ false → (s && i) ≡ false
no-space true t i h = h
no-space false t i h = refl

no-tab : (s t i : Bool) → ((s || t) && i) ≡ false → (t && i) ≡ false
no-tab true true i h = h
no-tab true false i h = refl
no-tab false t i h = h

pub standing-of : (n c j : ℕ) → not (is_break c || (is_blank c && nat_lt j n)) ≡ true → Open n c j
standing-of n c j is =
    let none : (is_break c || (is_blank c && nat_lt j n)) ≡ false = not_true (is_break c || (is_blank c && nat_lt j n)) is in
    let blank : (is_blank c && nat_lt j n) ≡ false = or_right (is_break c) (is_blank c && nat_lt j n) none in
    record {
      broken = or_left (is_break c) (is_blank c && nat_lt j n) none;
      space = no-space (c == 32) (c == 9) (nat_lt j n) blank;
      tab = no-tab (c == 32) (c == 9) (nat_lt j n) blank;
    }

stop-at : (n : ℕ) (b : Bool) (l : Lines) (cs : List ℕ) (i k j : ℕ) → is_open n (placed cs i k j) ≡ true
    → (slice_index cs 0 == 0 || not (j == n)) ≡ true → between_at n b l (placed cs i k j) ≡ stop l (placed cs i k j)
stop-at n b l [] i k j standing end = refl
stop-at n b l (c ∷ cs) i k j standing end =
    let o : Open n c j = standing-of n c j standing in
    rw (o.space, o.tab, o.broken, end) refl

-- the lines end
pub between-stop : (n : ℕ) (b : Bool) (l : Lines) (p : Place) → is_open n p ≡ true → (slice_index p.left 0 == 0 || not (p.col == n)) ≡ true
    → between_at n b l p ≡ stop l p
between-stop n b l p standing end = stop-at n b l p.left p.index p.line p.col standing end

opened-stop-at : (n : ℕ) (cs : List ℕ) (i k j : ℕ) → is_open n (placed cs i k j) ≡ true → opened_at n (placed cs i k j) ≡ placed cs i k j
opened-stop-at n [] i k j standing = refl
opened-stop-at n (c ∷ cs) i k j standing =
    let o : Open n c j = standing-of n c j standing in
    rw (o.broken, o.space) refl

-- the content begins
pub opened-stop : (n : ℕ) (p : Place) → is_open n p ≡ true → opened_at n p ≡ p
opened-stop n p standing = opened-stop-at n p.left p.index p.line p.col standing

-- a text more in the last line
abbrev longer : List ℕ → Lines → Lines
longer text l = record l { text = l.text ++ text }

record InTheLine (c : ℕ) : Type 0 where
  broken : is_break c ≡ false
  end : (c == 0) ≡ false

in_line : (c : ℕ) → is_of InLine c ≡ true → InTheLine c
in_line c inside =
    let none : is_break_or_end c ≡ false = not_true (is_break_or_end c) inside in
    record { broken = or_left (is_break c) (c == 0) none; end = or_right (is_break c) (c == 0) none }

abbrev text_of : List ℕ → Lines → Lines
text_of text l = record l { text = text }

run-of : (n : ℕ) (b : Bool) (l : Lines) (cs : List ℕ) (i k j : ℕ)
    → within_at n b (longer (before cs (passed (is_of InLine) cs (placed cs i k j)).left) l) (passed (is_of InLine) cs (placed cs i k j)) ≡ within_at n b l (placed cs i k j)
run-of n b l [] i k j = let f : List ℕ → Option Read = λ t. within n b (text_of t l) [] (placed [] i k j) in ap f (no-more l.text [])
run-of n b l (c ∷ cs) i k j =
    let p : Place = placed (c ∷ cs) i k j in
    let s : Place = skipped p in
    let q : Place = passed (is_of InLine) cs s in
    let end : List ℕ → Option Read = λ t. within_at n b (text_of t l) q in
    let here : List ℕ → Option Read = λ t. within_at n b (text_of t l) p in
    let step : (v : Bool) → is_of InLine c ≡ v
    → within_at n b (longer (before (c ∷ cs) (passed (is_of InLine) (c ∷ cs) p).left) l) (passed (is_of InLine) (c ∷ cs) p) ≡ within_at n b l p
    = λ v. elim v as (λ w. is_of InLine c ≡ w
    → within_at n b (longer (before (c ∷ cs) (passed (is_of InLine) (c ∷ cs) p).left) l) (passed (is_of InLine) (c ∷ cs) p) ≡ within_at n b l p) [
      | true ↦ λ e.
          let o : InTheLine c = in_line c e in
          let taken : within_at n b l p ≡ within n b (with_character c l) cs s = rw (o.end, o.broken) refl in
          rw e (ap end (regroup l.text c cs q.left (passed-ends (is_of InLine) cs s refl))
          ∙ run-of n b (with_character c l) cs s.index s.line s.col ∙ sym taken)
      | false ↦ λ e. rw e (ap here (no-more l.text (c ∷ cs)))
    ] in
    step (is_of InLine c) refl

line-at : (n : ℕ) (b : Bool) (l : Lines) (cs : List ℕ) (i k j : ℕ) → is_open n (placed cs i k j) ≡ true → (slice_index cs 0 == 0 || not (j == n)) ≡ false
    → within_at n b (with_line b (is_blank (slice_index cs 0)) (before cs (skipped_while (is_of InLine) (placed cs i k j)).left) l) (skipped_while (is_of InLine) (placed cs i k j))
    ≡ between_at n b l (placed cs i k j)
line-at n b l [] i k j standing begins = absurd (cc)
line-at n b l (c ∷ cs) i k j standing begins =
    let p : Place = placed (c ∷ cs) i k j in
    let s : Place = skipped p in
    let q : Place = passed (is_of InLine) cs s in
    let o : Open n c j = standing-of n c j standing in
    let nul : (c == 0) ≡ false = or_left (c == 0) (not (j == n)) begins in
    let inside : is_of InLine c ≡ true = rw (o.broken, nul) refl in
    let m : Lines = with_line b (is_blank c) (c ∷ []) l in
    let f : List ℕ → Option Read = λ t. within_at n b (text_of t m) q in
    let taken : between_at n b l p ≡ within n b m cs s = rw (o.space, o.tab, o.broken, begins) refl in
    rw inside (ap f (regroup (joined b (is_blank c) l) c cs q.left (passed-ends (is_of InLine) cs s refl)) ∙ run-of n b m cs s.index s.line s.col ∙ sym taken)

-- a line is passed, but for its end
pub between-line : (n : ℕ) (b : Bool) (l m : Lines) (p q : Place) → is_open n p ≡ true → (slice_index p.left 0 == 0 || not (p.col == n)) ≡ false
    → q ≡ skipped_while (is_of InLine) p → m ≡ with_line b (is_blank (slice_index p.left 0)) (before p.left q.left) l
    → within_at n b m q ≡ between_at n b l p
between-line n b l m p q standing begins next is =
    let d : Bool = is_blank (slice_index p.left 0) in
    let M : Lines → Type 0 = λ x. within_at n b x q ≡ between_at n b l p in
    let P : Place → Type 0 = λ x. within_at n b (with_line b d (before p.left x.left) l) x ≡ between_at n b l p in
    subst M (sym is) (subst P (sym next) (line-at n b l p.left p.index p.line p.col standing begins))

end-at : (n : ℕ) (b : Bool) (l : Lines) (cs : List ℕ) (i k j : ℕ) → slice_index cs 0 ≡ 0 → within_at n b l (placed cs i k j) ≡ stop l (placed cs i k j)
end-at n b l [] i k j end = refl
end-at n b l (c ∷ cs) i k j end = let e : (c == 0) ≡ true = rw end refl in rw e refl

-- the text ends in a line
pub within-end : (n : ℕ) (b : Bool) (l : Lines) (p : Place) → slice_index p.left 0 ≡ 0 → within_at n b l p ≡ stop l p
within-end n b l p end = end-at n b l p.left p.index p.line p.col end

line-break-at : (n : ℕ) (b : Bool) (l : Lines) (c : ℕ) (cs : List ℕ) (i k j : ℕ) (pair : Bool) → is_pair c (slice_index cs 0) ≡ pair → is_break c ≡ true
    → between_at n b (ended l) (past_break (placed (c ∷ cs) i k j)) ≡ within_at n b l (placed (c ∷ cs) i k j)
line-break-at n b l c cs i k j false apart broken =
    let nul : (c == 0) ≡ false = break-sign c 0 refl refl broken in
    rw (nul, broken, apart) refl
line-break-at n b l c [] i k j true pair broken = absurd (let e : (0 == 10) ≡ true = both_second (c == 13) (0 == 10) pair in cc)
line-break-at n b l c (d ∷ ds) i k j true pair broken =
    let e : d ≡ 10 = let f : (d == 10) ≡ true = both_second (c == 13) (d == 10) pair in grind arith in
    let nul : (c == 0) ≡ false = break-sign c 0 refl refl broken in
    let other-nul : (d == 0) ≡ false = rw e refl in
    let other : is_break d ≡ true = rw e refl in
    let alone : is_pair d (slice_index ds 0) ≡ false = rw e refl in
    rw (nul, broken, pair, other-nul, other, alone) refl

line-break-any : (n : ℕ) (b : Bool) (l : Lines) (cs : List ℕ) (i k j : ℕ) → is_break (slice_index cs 0) ≡ true
    → between_at n b (ended l) (past_break (placed cs i k j)) ≡ within_at n b l (placed cs i k j)
line-break-any n b l [] i k j broken = absurd (cc)
line-break-any n b l (c ∷ cs) i k j broken = line-break-at n b l c cs i k j (is_pair c (slice_index cs 0)) refl broken

-- the end of a line is passed
pub within-break : (n : ℕ) (b : Bool) (l : Lines) (p q : Place) → is_break (slice_index p.left 0) ≡ true → q ≡ past_break p
    → between_at n b (ended l) q ≡ within_at n b l p
within-break n b l p q broken next =
    let P : Place → Type 0 = λ x. between_at n b (ended l) x ≡ within_at n b l p in
    subst P (sym next) (line-break-any n b l p.left p.index p.line p.col broken)
