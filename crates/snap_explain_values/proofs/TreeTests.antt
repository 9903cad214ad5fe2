-- What is asked of a tree, asked of the values that mean it.
use Rattle.snap_explain_values.proofs.Prelude.{◌≡◌, ◌||◌, ℕ, Bool, true, false, List, [], ◌∷◌, Result, IfOk, IfOk-weaker, refl, sym, ap, ◌∙◌, list_any, Content, Map, Struct, StructVariant, Pairs, Fields, tree, tree-Map, tree-Struct, tree-StructVariant, item_trees, pair_list, pair_trees, field_list, field_trees, has_twice, keys_in, has_key_twice, item_has_twice, pair_has_twice, field_has_twice}
use Rattle.snap_content.specs.Tree as t

abbrev pub twice_in : Content → Bool
twice_in x = has_key_twice (tree x)

abbrev pub twice_in_pair : Content × Content → Bool
twice_in_pair p = has_key_twice (tree p.0) || has_key_twice (tree p.1)

abbrev pub twice_in_field : List ℕ × Content → Bool
twice_in_field f = has_key_twice (tree f.1)

pub items_any : (xs : List Content) → item_has_twice (item_trees xs) ≡ list_any twice_in xs
items_any [] = refl
items_any (x ∷ xs) = ap (λ b. twice_in x || b) (items_any xs)

pub pairs_any : (ps : List (Content × Content)) → pair_has_twice (pair_trees ps) ≡ list_any twice_in_pair ps
pairs_any [] = refl
pairs_any (p ∷ ps) = ap (λ b. twice_in_pair p || b) (pairs_any ps)

pub fields_any : (fs : List (List ℕ × Content)) → field_has_twice (field_trees fs) ≡ list_any twice_in_field fs
fields_any [] = refl
fields_any (f ∷ fs) = ap (λ b. twice_in_field f || b) (fields_any fs)

pub either_first : (a b : Bool) → a ≡ true → (a || b) ≡ true
either_first true b e = refl
either_first false b e = absurd (cc e)

pub either_second : (a b : Bool) → b ≡ true → (a || b) ≡ true
either_second true b e = refl
either_second false b e = e

-- the answer for the parts of a node is that for the node
pub map_asked : {E : Type 0} (found : Result Bool E) (whole : Content) (pairs : Pairs) (list : List (Content × Content)) → whole ≡ Map pairs → list ≡ pair_list pairs
    → IfOk found (λ f. f ≡ (has_twice (keys_in (pair_trees list)) || pair_has_twice (pair_trees list))) → IfOk found (λ f. f ≡ has_key_twice (tree whole))
map_asked found whole pairs list is same h =
    let held = ap (λ l. has_key_twice (t.map (pair_trees l))) same ∙ sym (ap has_key_twice (ap tree is ∙ tree-Map pairs)) in
    IfOk-weaker found _ (λ f. f ≡ has_key_twice (tree whole)) (λ f e. e ∙ held) h

pub struct_asked : {E : Type 0} (found : Result Bool E) (whole : Content) (name : List ℕ) (fields : Fields) (list : List (List ℕ × Content)) → whole ≡ Struct name fields → list ≡ field_list fields
    → IfOk found (λ f. f ≡ field_has_twice (field_trees list)) → IfOk found (λ f. f ≡ has_key_twice (tree whole))
struct_asked found whole name fields list is same h =
    let held = ap (λ l. field_has_twice (field_trees l)) same ∙ sym (ap has_key_twice (ap tree is ∙ tree-Struct name fields)) in
    IfOk-weaker found _ (λ f. f ≡ has_key_twice (tree whole)) (λ f e. e ∙ held) h

pub struct_variant_asked : {E : Type 0} (found : Result Bool E) (whole : Content) (name : List ℕ) (index : ℕ) (variant : List ℕ) (fields : Fields) (list : List (List ℕ × Content))
    → whole ≡ StructVariant name index variant fields → list ≡ field_list fields → IfOk found (λ f. f ≡ field_has_twice (field_trees list)) → IfOk found (λ f. f ≡ has_key_twice (tree whole))
struct_variant_asked found whole name index variant fields list is same h =
    let held = ap (λ l. field_has_twice (field_trees l)) same ∙ sym (ap has_key_twice (ap tree is ∙ tree-StructVariant name index variant fields)) in
    IfOk-weaker found _ (λ f. f ≡ has_key_twice (tree whole)) (λ f e. e ∙ held) h
