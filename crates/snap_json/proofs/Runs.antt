-- Characters between double quotes, as YAML has them and as JSON has them.
use Rattle.snap_json.proofs.Prelude.{◌≡◌, ℕ, [], ◌∷◌, false, ◌==◌, nat_lt, refl, arith, or_nothing, json_escaped, escaped}
use Rattle.std.proofs.lemmas.Bool.{eqb-true, false_from_ne_true}
use Rattle.std.proofs.lemmas.Bool.Decides.{nat_tests}
use Rattle.snap_print.specs.Bare.{is_escaped}
use Rattle.snap_print.proofs.BareRuns.{escaped-bare}

-- both are the same, but for DEL
same_escape : (c : ℕ) → (c == 127) ≡ false → escaped c ≡ json_escaped c
same_escape c other = rw (other, or_nothing (nat_lt c 32)) refl

pub as_yaml : (c : ℕ) → (c ≡ 127 → ⊥) → escaped c ≡ json_escaped c
as_yaml c other = same_escape c (false_from_ne_true (c == 127) (λ same. other (eqb-true c 127 same)))

-- what stands as it is in YAML does so in JSON
pub json-bare : (c : ℕ) → is_escaped c ≡ false → json_escaped c ≡ c ∷ []
json-bare c h =
    let other : (c == 127) ≡ false = grind (arith, nat_tests) in
    rw (same_escape c other) at (escaped-bare c h)
