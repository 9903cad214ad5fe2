-- A text that stands on a line is read as it was.
use Rattle.std.proofs.Common.{◌≡◌, ℕ, List, [], ◌∷◌, ◌++◌, Bool, true, false, if◌then◌else◌, refl, sym, ap, ◌∙◌, arith, ◌==◌}
use Rattle.std.specs.Prelude.{codes}
use Rattle.std.specs.List.{flat_map}
use Rattle.rows.specs.Line.{shown, meant, read, read_escaped}

-- the tests of `shown`, from the last one on
abbrev from_backslash : ℕ → List ℕ
from_backslash c = if c == 92 then codes "\\\\" else c ∷ []

abbrev from_nul : ℕ → List ℕ
from_nul c = if c == 0 then codes "\\0" else from_backslash c

abbrev from_tab : ℕ → List ℕ
from_tab c = if c == 9 then codes "\\t" else from_nul c

abbrev from_return : ℕ → List ℕ
from_return c = if c == 13 then codes "\\r" else from_tab c

lettered : (b : Bool) (c n m : ℕ) (rest cs : List ℕ) → (b ≡ true → c ≡ n) → meant m ≡ n → read (rest ++ cs) ≡ c ∷ read cs
    → read ((if b then 92 ∷ m ∷ [] else rest) ++ cs) ≡ c ∷ read cs
lettered true c n m rest cs is letter below = ap (λ x. x ∷ read cs) (letter ∙ sym (is refl))
lettered false c n m rest cs is letter below = below

bare : (b : Bool) (c : ℕ) (cs : List ℕ) → (c == 92) ≡ b → (b ≡ true → c ≡ 92) → read ((if b then 92 ∷ 92 ∷ [] else c ∷ []) ++ cs) ≡ c ∷ read cs
bare true c cs e is = ap (λ x. x ∷ read cs) (sym (is refl))
bare false c cs e is = ap (λ x. if x then read_escaped cs else c ∷ read cs) e

same : (c n : ℕ) → (c == n) ≡ true → c ≡ n
same c n e = grind arith

shown_read : (c : ℕ) (cs : List ℕ) → read (shown c ++ cs) ≡ c ∷ read cs
shown_read c cs =
    lettered (c == 10) c 10 110 (from_return c) cs (same c 10) refl (lettered (c == 13) c 13 114 (from_tab c) cs (same c 13) refl
    (lettered (c == 9) c 9 116 (from_nul c) cs (same c 9) refl (lettered (c == 0) c 0 48 (from_backslash c) cs (same c 0) refl
    (bare (c == 92) c cs refl (same c 92)))))

pub read_back : (cs : List ℕ) → read (flat_map shown cs) ≡ cs
read_back [] = refl
read_back (c ∷ cs) = shown_read c (flat_map shown cs) ∙ ap (λ x. c ∷ x) (read_back cs)
