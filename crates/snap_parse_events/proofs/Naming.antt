-- Names and their numbers.
use Rattle.snap_parse_events.proofs.Prelude.{◌≡◌, ◌≤◌, ◌+◌, ℕ, List, Option, Some, None, MatchOption, cond, refl, sym, subst, arith, ⊤, Names, id_of, is_same, IsAnchored, IsKnown, Registers}
use Rattle.std.specs.Map.{lookup}

-- a number that is found is that of a name
pub known-is : (o : Option ℕ) (name : List ℕ) (names : Names) → o ≡ id_of name names → MatchOption o ⊤ (λ id. IsKnown id names)
known-is None name names h = tt
known-is (Some id) name names h = record { name = name; has = sym h }

-- a name that was registered has its number
pub registers-named : (id : ℕ) (name : List ℕ) (es fs : List (List ℕ × ℕ)) (next : ℕ) (old : Names) → record { known = es; next = id } ≡ old → next ≡ id + 1
    → ((q : List ℕ) → lookup (is_same q) fs ≡ cond (is_same name q) (Some id) (lookup (is_same q) es)) → Registers name old (record { known = fs; next = next })
registers-named id name es fs next old is up each =
    let new : Names = record { known = fs; next = next } in
    let P : Names → Type 0 = λ v. Registers name v new in
    subst P is (record { known = each; next = up })

pub registers : (id : ℕ) (name : List ℕ) (es fs : List (List ℕ × ℕ)) (next : ℕ) (old : Names) → record { known = es; next = id } ≡ old → 1 ≤ id → next ≡ id + 1
    → ((q : List ℕ) → lookup (is_same q) fs ≡ cond (is_same name q) (Some id) (lookup (is_same q) es))
    → IsAnchored id old (record { known = fs; next = next })
registers id name es fs next old is some up each =
    let new : Names = record { known = fs; next = next } in
    let P : Names → Type 0 = λ v. IsAnchored id v new in
    subst P is (record { bare = λ none. absurd (omega (arith, some, none)); named = λ _. (refl, name, record { known = each; next = up }) })
