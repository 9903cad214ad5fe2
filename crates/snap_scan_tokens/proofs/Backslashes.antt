-- Escapes in double quotes: what their steps say of the scalar.
use Rattle.snap_scan_tokens.proofs.Prelude.{◌≡◌, ◌≤◌, ◌<◌, ◌+◌, ◌*◌, ◌^◌, ◌==◌, ℕ, zero, suc, List, [], ◌∷◌, Bool, true, false, slice_index, Option, Some, None, Err, refl, sym, subst, arith, lit<, pow-suc, ScanError, Syntax, OutOfMemory, escaped_gap, is_break, is_pair, past_break, Place, skipped, Quoted, double, escape, digits, are_digits, hexadecimal, escaped, further_digits, ReadsQuoted, Continues, both_second}
use Rattle.std.proofs.Math.Nat.{pow-le-pow_right}

-- a step that is refused so is a scalar that is refused
pub refused-so : (o n : Option Quoted) (e : ScanError) (p : Place) → Continues {T = Unit {0}} o n (Err e) → ReadsQuoted o (Err e) p
refused-so (Some q) n OutOfMemory p h = refl
refused-so (Some q) n (Syntax m i) p h = absurd (cc)
refused-so None n e p h = tt

abbrev at : List ℕ → ℕ → ℕ → ℕ → Place
at cs i l j = record { left = cs; index = i; line = l; col = j }

-- one digit more
digit-at : (n value d : ℕ) (text cs : List ℕ) (i l j : ℕ) → hexadecimal (slice_index cs 0) ≡ Some d
    → digits (suc n) value text cs (at cs i l j) ≡ digits n (value * 16 + d) text (skipped (at cs i l j)).left (skipped (at cs i l j))
digit-at n value d text [] i l j is = absurd (cc)
digit-at n value d text (c ∷ cs) i l j is = rw is refl

pub digit-more : (m n value d : ℕ) (text : List ℕ) (p q : Place) → m ≡ suc n → hexadecimal (slice_index p.left 0) ≡ Some d → q ≡ skipped p
    → digits n (value * 16 + d) text q.left q ≡ digits m value text p.left p
digit-more m n value d text p q more is place =
    let P : Place → Type 0 = λ x. digits n (value * 16 + d) text x.left x ≡ digits m value text p.left p in
    let Q : ℕ → Type 0 = λ k. digits n (value * 16 + d) text (skipped p).left (skipped p) ≡ digits k value text p.left p in
    subst P (sym place) (subst Q (sym more) (sym (digit-at n value d text p.left p.index p.line p.col is)))

-- whether the digits stand, one further
same-at : (n d : ℕ) (cs : List ℕ) (i l j : ℕ) → hexadecimal (slice_index cs 0) ≡ Some d → are_digits n (skipped (at cs i l j)).left ≡ are_digits (suc n) cs
same-at n d [] i l j is = absurd (cc)
same-at n d (c ∷ cs) i l j is = rw is refl

pub digits-same : (m n d : ℕ) (p q : Place) → m ≡ suc n → hexadecimal (slice_index p.left 0) ≡ Some d → q ≡ skipped p → are_digits n q.left ≡ are_digits m p.left
digits-same m n d p q more is place =
    let P : Place → Type 0 = λ x. are_digits n x.left ≡ are_digits m p.left in
    let Q : ℕ → Type 0 = λ k. are_digits n (skipped p).left ≡ are_digits k p.left in
    subst P (sym place) (subst Q (sym more) (same-at n d p.left p.index p.line p.col is))

-- one is missing
pub digits-missing : (n : ℕ) (cs : List ℕ) → hexadecimal (slice_index cs 0) ≡ None → are_digits n cs ≡ false
digits-missing n [] none = refl
digits-missing zero (c ∷ cs) none = rw none refl
digits-missing (suc n) (c ∷ cs) none = rw none refl

-- the last one stands
pub digits-stand : (n : ℕ) (cs : List ℕ) (d : ℕ) → n ≡ 0 → hexadecimal (slice_index cs 0) ≡ Some d → are_digits n cs ≡ true
digits-stand n [] d last is = absurd (cc)
digits-stand n (c ∷ cs) d last is = rw last (rw is refl)

pub digits-small : (value d n : ℕ) → value < 16 ^ n → d < 16 → value * 16 + d < 16 ^ suc n
digits-small value d n small digit = rw (pow-suc 16 n) (omega (arith, small, digit))

-- a number of few hexadecimal digits is small
pub digits-room : (value d n : ℕ) → value < 16 ^ n → d < 16 → n ≤ 7 → value * 16 + d < 4294967296
digits-room value d n small digit few =
    let eight : suc n ≤ 8 = omega (arith, few) in
    let most : 16 ^ suc n ≤ 16 ^ 8 = pow-le-pow_right {n = 16} (lit< tt) eight in
    omega (arith, digits-small value d n small digit, most)

break-at : (text : List ℕ) (c : ℕ) (cs : List ℕ) (i l j : ℕ) (pair : Bool) → is_pair c (slice_index cs 0) ≡ pair → is_break c ≡ true
    → escape text (c ∷ cs) (at (c ∷ cs) i l j) ≡ double escaped_gap text (past_break (at (c ∷ cs) i l j)).left (past_break (at (c ∷ cs) i l j))
break-at text c cs i l j false single broken = rw (broken, single) refl
break-at text c [] i l j true pair broken = absurd (let e : (0 == 10) ≡ true = both_second (c == 13) (0 == 10) pair in cc)
break-at text c (d ∷ ds) i l j true pair broken =
    let e : d ≡ 10 = let b : (d == 10) ≡ true = both_second (c == 13) (d == 10) pair in grind arith in
    let other : is_break d ≡ true = rw e refl in
    let alone : is_pair d (slice_index ds 0) ≡ false = rw e refl in
    rw (broken, pair, other, alone) refl

break-any : (text cs : List ℕ) (i l j : ℕ) → is_break (slice_index cs 0) ≡ true
    → escape text cs (at cs i l j) ≡ double escaped_gap text (past_break (at cs i l j)).left (past_break (at cs i l j))
break-any text [] i l j broken = absurd (cc)
break-any text (c ∷ cs) i l j broken = break-at text c cs i l j (is_pair c (slice_index cs 0)) refl broken

code-at : (text cs : List ℕ) (i l j n : ℕ) → is_break (slice_index cs 0) ≡ false → escaped (slice_index cs 0) ≡ None → further_digits (slice_index cs 0) ≡ Some n
    → escape text cs (at cs i l j) ≡ digits n 0 text (skipped (at cs i l j)).left (skipped (at cs i l j))
code-at text [] i l j n broken none code = absurd (cc)
code-at text (c ∷ cs) i l j n broken none code = rw (broken, none, code) refl

-- a letter before a code
pub escape-code : (text : List ℕ) (n : ℕ) (p q : Place) → is_break (slice_index p.left 0) ≡ false → escaped (slice_index p.left 0) ≡ None → further_digits (slice_index p.left 0) ≡ Some n → q ≡ skipped p
    → escape text p.left p ≡ digits n 0 text q.left q
escape-code text n p q broken none code place =
    let P : Place → Type 0 = λ x. escape text p.left p ≡ digits n 0 text x.left x in
    subst P (sym place) (code-at text p.left p.index p.line p.col n broken none code)
