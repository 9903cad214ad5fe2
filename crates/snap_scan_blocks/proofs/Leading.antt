-- The first lines of a block scalar whose header gives no indentation.
use Rattle.snap_scan_blocks.proofs.Prelude.{◌≡◌, ◌≤◌, ◌+◌, ◌==◌, max, nat_lt, ℕ, List, [], ◌∷◌, Bool, true, false, slice_index, refl, sym, ap, subst, arith, Option, Space, is_break, is_pair, is_of, past_break, Place, passed, skipped_while, Lines, Read, widest, first_sign, both_second, both_first}
use Rattle.snap_scan_tokens.proofs.Places.{passed-none}
use Rattle.snap_scan_blocks.proofs.Between.{placed, between_at, opened_at, break-sign}

abbrev pub widest_at : Place → ℕ
widest_at p = widest p.left p.col

is-of : (c s : ℕ) → (c == s) ≡ true → c ≡ s
is-of c s e = grind arith

least-by : (c : ℕ) (cs : List ℕ) (j : ℕ) (s b : Bool) → (c == 32) ≡ s → is_break c ≡ b → j + 1 ≤ widest cs (j + 1) → j ≤ widest (c ∷ cs) j
least-by c cs j true b is broken further = rw is (omega arith)
least-by c cs j false true is broken further = rw (is, broken) (omega arith)
least-by c cs j false false is broken further = rw (is, broken) (omega arith)

-- a column is reached where it stands
pub least : (cs : List ℕ) (j : ℕ) → j ≤ widest cs j
least [] j = omega arith
least (c ∷ cs) j = least-by c cs j (c == 32) (is_break c) refl refl (least cs (j + 1))

columns-by : (c : ℕ) (cs : List ℕ) (i k j : ℕ) (s : Bool) → (c == 32) ≡ s
    → widest_at (passed (is_of Space) cs (placed cs (i + 1) k (j + 1))) ≡ widest cs (j + 1)
    → widest_at (passed (is_of Space) (c ∷ cs) (placed (c ∷ cs) i k j)) ≡ widest (c ∷ cs) j
columns-by c cs i k j true is further = rw (is-of c 32 is) further
columns-by c cs i k j false is further =
    let f : Place → ℕ = λ x. widest_at x in
    ap f (passed-none (is_of Space) (c ∷ cs) (placed (c ∷ cs) i k j) is)

columns-run : (cs : List ℕ) (i k j : ℕ) → widest_at (passed (is_of Space) cs (placed cs i k j)) ≡ widest cs j
columns-run [] i k j = refl
columns-run (c ∷ cs) i k j = columns-by c cs i k j (c == 32) refl (columns-run cs (i + 1) k (j + 1))

-- spaces are passed
pub widest-run : (p q : Place) → q ≡ skipped_while (is_of Space) p → widest_at q ≡ widest_at p
widest-run p q next =
    let P : Place → Type 0 = λ x. widest_at x ≡ widest_at p in
    subst P (sym next) (columns-run p.left p.index p.line p.col)

signs-by : (c : ℕ) (cs : List ℕ) (i k j : ℕ) (s : Bool) → (c == 32) ≡ s
    → first_sign (passed (is_of Space) cs (placed cs (i + 1) k (j + 1))).left ≡ first_sign cs
    → first_sign (passed (is_of Space) (c ∷ cs) (placed (c ∷ cs) i k j)).left ≡ first_sign (c ∷ cs)
signs-by c cs i k j true is further = rw (is-of c 32 is) further
signs-by c cs i k j false is further =
    let f : Place → ℕ = λ x. first_sign x.left in
    ap f (passed-none (is_of Space) (c ∷ cs) (placed (c ∷ cs) i k j) is)

signs-run : (cs : List ℕ) (i k j : ℕ) → first_sign (passed (is_of Space) cs (placed cs i k j)).left ≡ first_sign cs
signs-run [] i k j = refl
signs-run (c ∷ cs) i k j = signs-by c cs i k j (c == 32) refl (signs-run cs (i + 1) k (j + 1))

pub first-run : (p q : Place) → q ≡ skipped_while (is_of Space) p → first_sign q.left ≡ first_sign p.left
first-run p q next =
    let P : Place → Type 0 = λ x. first_sign x.left ≡ first_sign p.left in
    subst P (sym next) (signs-run p.left p.index p.line p.col)

below : (j n w : ℕ) → j + 1 ≤ w → w ≤ n → nat_lt j n ≡ true
below j n w least most = grind arith

lines-by : (n : ℕ) (b : Bool) (l : Lines) (c : ℕ) (cs : List ℕ) (i k j : ℕ) (s : Bool) → (c == 32) ≡ s → widest (c ∷ cs) j ≤ n
    → (widest cs (j + 1) ≤ n → between_at n b l (passed (is_of Space) cs (placed cs (i + 1) k (j + 1))) ≡ between_at n b l (placed cs (i + 1) k (j + 1)))
    → between_at n b l (passed (is_of Space) (c ∷ cs) (placed (c ∷ cs) i k j)) ≡ between_at n b l (placed (c ∷ cs) i k j)
lines-by n b l c cs i k j true is most further =
    let within : widest cs (j + 1) ≤ n = rw is at most in
    rw (is-of c 32 is, below j n (widest cs (j + 1)) (least cs (j + 1)) within) (further within)
lines-by n b l c cs i k j false is most further =
    let f : Place → Option Read = λ x. between_at n b l x in
    ap f (passed-none (is_of Space) (c ∷ cs) (placed (c ∷ cs) i k j) is)

lines-run : (n : ℕ) (b : Bool) (l : Lines) (cs : List ℕ) (i k j : ℕ) → widest cs j ≤ n
    → between_at n b l (passed (is_of Space) cs (placed cs i k j)) ≡ between_at n b l (placed cs i k j)
lines-run n b l [] i k j most = refl
lines-run n b l (c ∷ cs) i k j most = lines-by n b l c cs i k j (c == 32) refl most (lines-run n b l cs (i + 1) k (j + 1))

pub between-run : (n : ℕ) (b : Bool) (l : Lines) (p q : Place) → widest_at p ≤ n → q ≡ skipped_while (is_of Space) p → between_at n b l q ≡ between_at n b l p
between-run n b l p q most next =
    let P : Place → Type 0 = λ x. between_at n b l x ≡ between_at n b l p in
    subst P (sym next) (lines-run n b l p.left p.index p.line p.col most)

opened-by : (n c : ℕ) (cs : List ℕ) (i k j : ℕ) (s : Bool) → (c == 32) ≡ s → widest (c ∷ cs) j ≤ n
    → (widest cs (j + 1) ≤ n → opened_at n (passed (is_of Space) cs (placed cs (i + 1) k (j + 1))) ≡ opened_at n (placed cs (i + 1) k (j + 1)))
    → opened_at n (passed (is_of Space) (c ∷ cs) (placed (c ∷ cs) i k j)) ≡ opened_at n (placed (c ∷ cs) i k j)
opened-by n c cs i k j true is most further =
    let within : widest cs (j + 1) ≤ n = rw is at most in
    rw (is-of c 32 is, below j n (widest cs (j + 1)) (least cs (j + 1)) within) (further within)
opened-by n c cs i k j false is most further =
    let f : Place → Place = λ x. opened_at n x in
    ap f (passed-none (is_of Space) (c ∷ cs) (placed (c ∷ cs) i k j) is)

places-run : (n : ℕ) (cs : List ℕ) (i k j : ℕ) → widest cs j ≤ n → opened_at n (passed (is_of Space) cs (placed cs i k j)) ≡ opened_at n (placed cs i k j)
places-run n [] i k j most = refl
places-run n (c ∷ cs) i k j most = opened-by n c cs i k j (c == 32) refl most (places-run n cs (i + 1) k (j + 1))

pub opened-run : (n : ℕ) (p q : Place) → widest_at p ≤ n → q ≡ skipped_while (is_of Space) p → opened_at n q ≡ opened_at n p
opened-run n p q most next =
    let P : Place → Type 0 = λ x. opened_at n x ≡ opened_at n p in
    subst P (sym next) (places-run n p.left p.index p.line p.col most)

widest-past : (c : ℕ) (cs : List ℕ) (i k j : ℕ) (pair feed : Bool) → is_pair c (slice_index cs 0) ≡ pair → (c == 10) ≡ feed → is_break c ≡ true
    → max j (widest_at (past_break (placed (c ∷ cs) i k j))) ≡ widest (c ∷ cs) j
widest-past c cs i k j false true apart fed broken =
    let space : (c == 32) ≡ false = break-sign c 32 refl refl broken in
    rw (space, broken, apart, fed) refl
widest-past c cs i k j false false apart fed broken =
    let space : (c == 32) ≡ false = break-sign c 32 refl refl broken in
    rw (space, broken, apart, fed) refl
widest-past c [] i k j true feed pair fed broken = absurd (let e : (0 == 10) ≡ true = both_second (c == 13) (0 == 10) pair in cc)
widest-past c (d ∷ ds) i k j true feed pair fed broken =
    let e : c ≡ 13 = is-of c 13 (both_first (c == 13) (d == 10) pair) in
    let f : d ≡ 10 = is-of d 10 (both_second (c == 13) (d == 10) pair) in
    rw (e, f) (omega arith)

widest-any : (cs : List ℕ) (i k j : ℕ) → is_break (slice_index cs 0) ≡ true → max j (widest_at (past_break (placed cs i k j))) ≡ widest cs j
widest-any [] i k j broken = absurd (cc)
widest-any (c ∷ cs) i k j broken = widest-past c cs i k j (is_pair c (slice_index cs 0)) (c == 10) refl refl broken

-- the end of a line is passed
pub widest-break : (p q : Place) → is_break (slice_index p.left 0) ≡ true → q ≡ past_break p → max p.col (widest_at q) ≡ widest_at p
widest-break p q broken next =
    let P : Place → Type 0 = λ x. max p.col (widest_at x) ≡ widest_at p in
    subst P (sym next) (widest-any p.left p.index p.line p.col broken)

first-past : (c : ℕ) (cs : List ℕ) (i k j : ℕ) (pair : Bool) → is_pair c (slice_index cs 0) ≡ pair → is_break c ≡ true
    → first_sign (past_break (placed (c ∷ cs) i k j)).left ≡ first_sign (c ∷ cs)
first-past c cs i k j false apart broken =
    let space : (c == 32) ≡ false = break-sign c 32 refl refl broken in
    rw (space, broken, apart) refl
first-past c [] i k j true pair broken = absurd (let e : (0 == 10) ≡ true = both_second (c == 13) (0 == 10) pair in cc)
first-past c (d ∷ ds) i k j true pair broken =
    let e : c ≡ 13 = is-of c 13 (both_first (c == 13) (d == 10) pair) in
    let f : d ≡ 10 = is-of d 10 (both_second (c == 13) (d == 10) pair) in
    rw (e, f) refl

first-any : (cs : List ℕ) (i k j : ℕ) → is_break (slice_index cs 0) ≡ true → first_sign (past_break (placed cs i k j)).left ≡ first_sign cs
first-any [] i k j broken = absurd (cc)
first-any (c ∷ cs) i k j broken = first-past c cs i k j (is_pair c (slice_index cs 0)) refl broken

pub first-break : (p q : Place) → is_break (slice_index p.left 0) ≡ true → q ≡ past_break p → first_sign q.left ≡ first_sign p.left
first-break p q broken next =
    let P : Place → Type 0 = λ x. first_sign x.left ≡ first_sign p.left in
    subst P (sym next) (first-any p.left p.index p.line p.col broken)

-- another character ends what is looked for
pub widest-end : (cs : List ℕ) (j : ℕ) → (slice_index cs 0 == 32) ≡ false → is_break (slice_index cs 0) ≡ false → widest cs j ≡ j
widest-end [] j space broken = refl
widest-end (c ∷ cs) j space broken = rw (space, broken) refl

pub first-end : (cs : List ℕ) → (slice_index cs 0 == 32) ≡ false → is_break (slice_index cs 0) ≡ false → first_sign cs ≡ slice_index cs 0
first-end [] space broken = refl
first-end (c ∷ cs) space broken = rw (space, broken) refl
