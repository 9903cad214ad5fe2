-- Looking for the last pair that passes a test.
use Rattle.snap_fields.proofs.Prelude.{◌≡◌, ℕ, Bool, not, ◌&&◌, List, [], ◌∷◌, ◌++◌, length, arith, Option, None, Some, refl, ap, sym, ◌∙◌, option_or, if◌then◌else◌, tree, pair_trees, Content, Tree, is_key, is_nil, last_by}

abbrev pub named : List ℕ → Tree → Tree → Bool
named name key value = is_key name key

abbrev pub filled : List ℕ → Tree → Tree → Bool
filled name key value = is_key name key && not (is_nil value)

-- the pair alone
abbrev pub value_if : (Tree → Tree → Bool) → Content × Content → Option Tree
value_if passes q = if passes (tree q.0) (tree q.1) then Some (tree q.1) else None

or_or : (a b c : Option Tree) → option_or (option_or a b) c ≡ option_or a (option_or b c)
or_or None b c = refl
or_or (Some t) b c = refl

or_none : (a : Option Tree) → option_or a None ≡ a
or_none None = refl
or_none (Some t) = refl

-- a pair at the end is found before all others
at_end : (passes : Tree → Tree → Bool) (qs : List (Content × Content)) (q : Content × Content)
    → last_by passes (pair_trees (qs ++ q ∷ [])) ≡ option_or (value_if passes q) (last_by passes (pair_trees qs))
at_end passes [] q = sym (or_none (value_if passes q))
at_end passes (r ∷ qs) q = ap (λ o. option_or o (value_if passes r)) (at_end passes qs q) ∙ or_or (value_if passes q) (last_by passes (pair_trees qs)) (value_if passes r)

-- the last of the pairs is the one that is found, or another before it
pub last_pushed : (passes : Tree → Tree → Bool) (all qs : List (Content × Content)) (q : Content × Content) (found : Option Tree) → all ≡ qs ++ q ∷ []
    → found ≡ value_if passes q → last_by passes (pair_trees all) ≡ option_or found (last_by passes (pair_trees qs))
last_pushed passes all qs q found is at_last =
    ap (λ ps. last_by passes (pair_trees ps)) is ∙ at_end passes qs q ∙ ap (λ o. option_or o (last_by passes (pair_trees qs))) (sym at_last)

-- nothing is found where no pair is left
pub none_left : (passes : Tree → Tree → Bool) (left all : List (Content × Content)) → length left ≡ 0
    → last_by passes (pair_trees left) ≡ last_by passes (pair_trees all) → None ≡ last_by passes (pair_trees all)
none_left passes [] all none so_far = so_far
none_left passes (q ∷ qs) all none so_far = absurd (omega (arith, none))
