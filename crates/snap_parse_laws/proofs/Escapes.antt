-- Codes in double quotes.
use Rattle.snap_parse_laws.proofs.Prelude.{◌≡◌, ◌<◌, ℕ, ◌+◌, ◌-◌, ◌*◌, List, [], ◌∷◌, ◌++◌, Bool, true, false, refl, ap, ◌∙◌, arith, sym, Some, Option, nat_lt, nat_le, nat_tests, ◌==◌, digit_glyph, no_gap, skipped, double, digits, hexadecimal, is_code, here}

apart-by : (P : ℕ → Bool) (a c : ℕ) → P a ≡ false → P c ≡ true → (b : Bool) → (c == a) ≡ b → b ≡ false
apart-by P a c fails passes false e = refl
apart-by P a c fails passes true e = let same : c ≡ a = grind (arith, nat_tests) in let f : P a ≡ true = ap P (sym same) ∙ passes in cc

-- a character that passes a test which another doesn't is not that other
pub apart : (P : ℕ → Bool) (a c : ℕ) → P a ≡ false → P c ≡ true → (c == a) ≡ false
apart P a c fails passes = apart-by P a c fails passes (c == a) refl

other-by : (P : ℕ → Bool) (a c : ℕ) → P a ≡ true → P c ≡ false → (b : Bool) → (c == a) ≡ b → b ≡ false
other-by P a c passes fails false e = refl
other-by P a c passes fails true e = let same : c ≡ a = grind (arith, nat_tests) in let f : P a ≡ false = ap P (sym same) ∙ fails in cc

-- a character that fails a test which another passes is not that other
pub other : (P : ℕ → Bool) (a c : ℕ) → P a ≡ true → P c ≡ false → (c == a) ≡ false
other P a c passes fails = other-by P a c passes fails (c == a) refl

pub passed : (c : ℕ) (cs : List ℕ) (i l j : ℕ) → (c == 10) ≡ false → skipped (here (c ∷ cs) i l j) ≡ here cs (i + 1) l (j + 1)
passed c cs i l j h = rw h refl

-- a hexadecimal digit and its value
pub record IsDigit (c n : ℕ) : Type 0 where
  pub value : hexadecimal c ≡ Some n
  pub line : (c == 10) ≡ false

low-digit : (n c : ℕ) → n < 10 → c ≡ 48 + n → IsDigit c n
low-digit n c small is =
    let above : nat_le 48 c ≡ true = grind (arith, nat_tests) in
    let below : nat_le c 57 ≡ true = grind (arith, nat_tests) in
    let some : ℕ → Option ℕ = λ x. Some x in
    let value : c - 48 ≡ n = omega (arith, is) in
    record { value = rw (above, below) (ap some value); line = grind (arith, nat_tests) }

high-digit : (n c : ℕ) → nat_lt n 10 ≡ false → n < 16 → c ≡ 87 + n → IsDigit c n
high-digit n c large small is =
    let low : nat_le c 57 ≡ false = grind (arith, nat_tests) in
    let capital : nat_le c 70 ≡ false = grind (arith, nat_tests) in
    let above : nat_le 97 c ≡ true = grind (arith, nat_tests) in
    let below : nat_le c 102 ≡ true = grind (arith, nat_tests) in
    let from : nat_le 48 c ≡ true = grind (arith, nat_tests) in
    let from_capital : nat_le 65 c ≡ true = grind (arith, nat_tests) in
    let some : ℕ → Option ℕ = λ x. Some x in
    let value : c - 87 ≡ n = omega (arith, is) in
    record { value = rw (from, low, from_capital, capital, above, below) (ap some value); line = grind (arith, nat_tests) }

glyph-by : (n : ℕ) → n < 16 → (b : Bool) → nat_lt n 10 ≡ b → IsDigit (digit_glyph false n) n
glyph-by n small true e = let low : n < 10 = grind (arith, nat_tests) in rw e (low-digit n (48 + n) low refl)
glyph-by n small false e = rw e (high-digit n (87 + n) e small refl)

pub glyph : (n : ℕ) → n < 16 → IsDigit (digit_glyph false n) n
glyph n small = glyph-by n small (nat_lt n 10) refl

-- the last two digits of a code that begins with zeros
pub coded : (text cs : List ℕ) (a b n m i l j : ℕ) → IsDigit a n → IsDigit b m → is_code ((0 * 16 + n) * 16 + m) ≡ true
    → digits 1 0 text (a ∷ b ∷ cs) (here (a ∷ b ∷ cs) i l j) ≡ double no_gap (text ++ ((0 * 16 + n) * 16 + m) ∷ []) cs (here cs (i + 1 + 1) l (j + 1 + 1))
coded text cs a b n m i l j high low known =
    rw (high.value, low.value, known, high.line, low.line) refl
