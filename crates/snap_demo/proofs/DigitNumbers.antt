-- The number that digits spell, and a limit.
use Rattle.snap_demo.proofs.Prelude.{◌≡◌, ◌+◌, ◌-◌, ◌*◌, ◌<◌, ◌≤◌, ℕ, List, [], ◌∷◌, Bool, true, false, Option, None, Some, refl, sym, ap, ◌∙◌, arith, nat_tests, if◌then◌else◌}
use Rattle.std.specs.Char.{is_ascii_digit}
use Rattle.std.specs.Prelude.{nat_le}
use Rattle.snap_demo.specs.Words.{at_most, digits_number}

not_within : (most n : ℕ) → most < n → nat_le n most ≡ false
not_within most n more = grind (arith, nat_tests)

-- digits behind a number that is above the limit spell none below it
pub beyond : (most n : ℕ) (cs : List ℕ) → most < n → at_most most (digits_number n cs) ≡ None
beyond most n [] more = ap (λ b. if b then Some n else None) (not_within most n more)
beyond most n (c ∷ cs) more = by (is_ascii_digit c) (beyond most (n * 10 + (c - 48)) cs (omega (arith, more)))
  where
    by : (b : Bool) → at_most most (digits_number (n * 10 + (c - 48)) cs) ≡ None → at_most most (if b then digits_number (n * 10 + (c - 48)) cs else None) ≡ None
    by true h = h
    by false h = refl

pub too_large : (most n c : ℕ) (rest next : List ℕ) → rest ≡ c ∷ next → is_ascii_digit c ≡ true → most < n * 10 + (c - 48) → at_most most (digits_number n rest) ≡ None
too_large most n c rest next is digit more =
    ap (λ r. at_most most (digits_number n r)) is ∙ ap (λ b. at_most most (if b then digits_number (n * 10 + (c - 48)) next else None)) digit
    ∙ beyond most (n * 10 + (c - 48)) next more
