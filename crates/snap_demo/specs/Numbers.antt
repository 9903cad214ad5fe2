-- The numbers of a demonstration.
use Rattle.std.specs.Prelude.{◌+◌, ◌*◌, ◌%◌, ◌^◌, ℕ, zero, suc, List, [], ◌∷◌}

-- the number of the next request, by that of the one before
abbrev pub next_of : ℕ → ℕ
next_of x = (x * 6364136223846793005 + 1442695040888963407) % 2 ^ 64

-- so many numbers, from one on
abbrev pub numbers_from : ℕ → ℕ → List ℕ
numbers_from x zero = []
numbers_from x (suc n) = x ∷ numbers_from (next_of x) n
