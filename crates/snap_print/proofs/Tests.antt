-- Facts on tests.
use Rattle.snap_print.proofs.Prelude.{◌≡◌, ℕ, Bool, true, false, ◌==◌, ◌&&◌, refl, ap, ◌∙◌, arith, nat_tests, false_from_ne_true}

pub absurd_tests : (b : Bool) → b ≡ true → b ≡ false → ⊥
absurd_tests true holds fails = absurd (cc)
absurd_tests false holds fails = absurd (cc)

-- a test of characters that tells two apart
pub apart : (test : ℕ → Bool) (c d : ℕ) → test c ≡ false → test d ≡ true → (c == d) ≡ false
apart test c d fails holds = false_from_ne_true (c == d) (λ same. absurd_tests (test c) (ap test (equal c d same) ∙ holds) fails)
  where
    equal : (c d : ℕ) → (c == d) ≡ true → c ≡ d
    equal c d h = grind (arith, nat_tests)

pub no_and : (a b : Bool) → a ≡ false → (a && b) ≡ false
no_and true b h = absurd (cc)
no_and false b h = refl

pub and_no : (a b : Bool) → b ≡ false → (a && b) ≡ false
and_no true b h = h
and_no false b h = refl

pub by_contrary : (a b : Bool) → (a ≡ true → b ≡ true) → b ≡ false → a ≡ false
by_contrary true b there fails = absurd (absurd_tests b (there refl) fails)
by_contrary false b there fails = refl
