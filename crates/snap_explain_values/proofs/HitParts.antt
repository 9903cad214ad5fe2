-- What is hit in a tree, asked of the values that mean it.
use Rattle.snap_explain_values.proofs.Prelude.{◌≡◌, ◌||◌, ◌<◌, ◌≤◌, ◌+◌, ℕ, suc, Bool, true, false, List, [], ◌∷◌, ◌++◌, Result, IfOk, IfOk-weaker, codes, drop, drop_all, drop-cons, add-one, get_or, length, map, refl, sym, ap, ◌∙◌, map-append, list_any, Content, Map, Struct, StructVariant, Pairs, Fields, tree, tree-Map, tree-Struct, tree-StructVariant, item_trees, pair_list, pair_trees, field_list, field_trees, PathItem, Step, step_of, into_field, to_item, under_key, Parts, count_of, hits, hits_inside, hits_items, hits_pairs, hits_fields, hits_keys, hits_values}
use Rattle.snap_content.specs.Tree as t

pub count_is : (xs : List Content) → length xs ≡ count_of (item_trees xs)
count_is [] = refl
count_is (x ∷ xs) = ap suc (count_is xs)

either_of_both : (key value rest values keys : Bool) → rest ≡ (values || keys) → (key || (value || rest)) ≡ ((value || values) || (key || keys))
either_of_both true true rest values keys e = refl
either_of_both true false rest true keys e = refl
either_of_both true false rest false keys e = refl
either_of_both false true rest values keys e = refl
either_of_both false false rest values keys e = e

module _ (ss : Parts) (path : List Step) where
  abbrev pub hit_key : Content × Content → Bool
  hit_key p = hits ss path (tree p.0)

  abbrev pub hit_value : Content × Content → Bool
  hit_value p = hits ss (path ++ under_key (tree p.0) ∷ []) (tree p.1)

  abbrev pub hit_field : List ℕ × Content → Bool
  hit_field f = hits ss (path ++ into_field f.0 ∷ []) (tree f.1)

  pub keys_any : (ps : List (Content × Content)) → hits_keys ss path (pair_trees ps) ≡ list_any hit_key ps
  keys_any [] = refl
  keys_any (p ∷ ps) = ap (λ b. hit_key p || b) (keys_any ps)

  pub values_any : (ps : List (Content × Content)) → hits_values ss path (pair_trees ps) ≡ list_any hit_value ps
  values_any [] = refl
  values_any (p ∷ ps) = ap (λ b. hit_value p || b) (values_any ps)

  pub fields_any : (fs : List (List ℕ × Content)) → hits_fields ss path (field_trees fs) ≡ list_any hit_field fs
  fields_any [] = refl
  fields_any (f ∷ fs) = ap (λ b. hit_field f || b) (fields_any fs)

  -- the items from one on
  abbrev pub hit_from : List Content → ℕ → Bool
  hit_from items place = hits_items ss path (count_of (item_trees items)) place (item_trees (drop place items))

  pub item_first : (items : List Content) (i : ℕ) (x : Content) → i < length items → x ≡ get_or items i x
      → hit_from items i ≡ (hits ss (path ++ to_item i (count_of (item_trees items)) ∷ []) (tree x) || hit_from items (i + 1))
  item_first items i x small is =
      let e : drop i items ≡ x ∷ drop (suc i) items = drop-cons items i x small ∙ ap (λ y. y ∷ drop (suc i) items) (sym is) in
      ap (λ l. hits_items ss path (count_of (item_trees items)) i (item_trees l)) e
      ∙ ap (λ k. hits ss (path ++ to_item i (count_of (item_trees items)) ∷ []) (tree x) || hits_items ss path (count_of (item_trees items)) k (item_trees (drop k items))) (sym (add-one i))

  pub item_none : (items : List Content) (i : ℕ) → length items ≤ i → hit_from items i ≡ false
  item_none items i done = ap (λ l. hits_items ss path (count_of (item_trees items)) i (item_trees l)) (drop_all i items done)

  pub item_here : (items : List Content) (i : ℕ) (x : Content) → i < length items → x ≡ get_or items i x
      → hits ss (path ++ to_item i (length items) ∷ []) (tree x) ≡ true → hit_from items i ≡ true
  item_here items i x small is hit =
      item_first items i x small is
      ∙ ap (λ n. hits ss (path ++ to_item i n ∷ []) (tree x) || hit_from items (i + 1)) (sym (count_is items)) ∙ ap (λ b. b || hit_from items (i + 1)) hit

  pub item_passed : (items : List Content) (i : ℕ) (x : Content) → i < length items → x ≡ get_or items i x
      → hits ss (path ++ to_item i (length items) ∷ []) (tree x) ≡ false → hit_from items i ≡ hit_from items (i + 1)
  item_passed items i x small is missed =
      item_first items i x small is
      ∙ ap (λ n. hits ss (path ++ to_item i n ∷ []) (tree x) || hit_from items (i + 1)) (sym (count_is items)) ∙ ap (λ b. b || hit_from items (i + 1)) missed

  -- keys and values apart
  pub pairs_both : (pairs : t.TreePairs) → hits_pairs ss path pairs ≡ (hits_values ss path pairs || hits_keys ss (path ++ into_field (codes "$key") ∷ []) pairs)
  pairs_both t.no_pairs = refl
  pairs_both (t.pair key value rest) =
      let at_key = path ++ into_field (codes "$key") ∷ [] in
      either_of_both (hits ss at_key key) (hits ss (path ++ under_key key ∷ []) value) (hits_pairs ss path rest) (hits_values ss path rest) (hits_keys ss at_key rest) (pairs_both rest)

  pub value_told : (pairs : t.TreePairs) (told : Bool) → told ≡ hits_values ss path pairs → told ≡ true → true ≡ hits_pairs ss path pairs
  value_told pairs told is hit =
      sym (pairs_both pairs ∙ ap (λ b. b || hits_keys ss (path ++ into_field (codes "$key") ∷ []) pairs) (sym is ∙ hit))

  -- the answer for the parts of a node is that for the node
  pub map_hit : {E : Type 0} (found : Result Bool E) (whole : Content) (pairs : Pairs) (list : List (Content × Content)) → whole ≡ Map pairs → list ≡ pair_list pairs
      → IfOk found (λ f. f ≡ hits_pairs ss path (pair_trees list)) → IfOk found (λ f. f ≡ hits_inside ss path (tree whole))
  map_hit found whole pairs list is same h =
      let held = ap (λ l. hits_inside ss path (t.map (pair_trees l))) same ∙ sym (ap (hits_inside ss path) (ap tree is ∙ tree-Map pairs)) in
      IfOk-weaker found _ (λ f. f ≡ hits_inside ss path (tree whole)) (λ f e. e ∙ held) h

  pub struct_hit : {E : Type 0} (found : Result Bool E) (whole : Content) (name : List ℕ) (fields : Fields) (list : List (List ℕ × Content)) → whole ≡ Struct name fields
      → list ≡ field_list fields → IfOk found (λ f. f ≡ hits_fields ss path (field_trees list)) → IfOk found (λ f. f ≡ hits_inside ss path (tree whole))
  struct_hit found whole name fields list is same h =
      let held = ap (λ l. hits_fields ss path (field_trees l)) same ∙ sym (ap (hits_inside ss path) (ap tree is ∙ tree-Struct name fields)) in
      IfOk-weaker found _ (λ f. f ≡ hits_inside ss path (tree whole)) (λ f e. e ∙ held) h

  pub struct_variant_hit : {E : Type 0} (found : Result Bool E) (whole : Content) (name : List ℕ) (index : ℕ) (variant : List ℕ) (fields : Fields) (list : List (List ℕ × Content))
      → whole ≡ StructVariant name index variant fields → list ≡ field_list fields → IfOk found (λ f. f ≡ hits_fields ss path (field_trees list))
      → IfOk found (λ f. f ≡ hits_inside ss path (tree whole))
  struct_variant_hit found whole name index variant fields list is same h =
      let held = ap (λ l. hits_fields ss path (field_trees l)) same ∙ sym (ap (hits_inside ss path) (ap tree is ∙ tree-StructVariant name index variant fields)) in
      IfOk-weaker found _ (λ f. f ≡ hits_inside ss path (tree whole)) (λ f e. e ∙ held) h

-- of pairs of which no value is hit, the keys tell it, behind their step
pub key_told : (ss : Parts) (was now pushed : List PathItem) (step : PathItem) (pairs : t.TreePairs) (value key : Bool) → now ≡ was → pushed ≡ now ++ step ∷ []
    → step_of step ≡ into_field (codes "$key") → value ≡ hits_values ss (map step_of was) pairs → value ≡ false → key ≡ hits_keys ss (map step_of pushed) pairs
    → key ≡ hits_pairs ss (map step_of was) pairs
key_told ss was now pushed step pairs value key same push is values missed keys =
    let at_key : map step_of pushed ≡ map step_of was ++ into_field (codes "$key") ∷ []
    = ap (map step_of) (push ∙ ap (λ p. p ++ step ∷ []) same) ∙ map-append step_of was (step ∷ []) ∙ ap (λ s. map step_of was ++ s ∷ []) is in
    keys ∙ ap (λ p. hits_keys ss p pairs) at_key
    ∙ sym (pairs_both ss (map step_of was) pairs ∙ ap (λ b. b || hits_keys ss (map step_of was ++ into_field (codes "$key") ∷ []) pairs) (sym values ∙ missed))
