-- Turns of the loops that redact lists in place, and one level of a tree.
use Rattle.snap_select.proofs.Prelude.{◌≡◌, ℕ, suc, ◌+◌, ◌<◌, ◌≤◌, List, [], ◌∷◌, ◌++◌, get_or, set, take, drop, length, map, refl, sym, ap, ◌∙◌, subst, arith, add-one, drop-cons, drop-set-lt, take_more_set, take_all, drop_all, codes, tree, item_trees, pair_trees, field_trees, Content, joined, joined-push, joined-end, joined_pairs, joined_pairs-push, joined_pairs-end, joined_fields, joined_fields-push, joined_fields-end, Step, step_of, to_item, into_field, under_key, Parts, count_of, Allowed, ItemsRedacted, PairsRedacted, FieldsRedacted, RedactedAt, IsRedacted, PathItem}
use Rattle.snap_content.specs.Tree as t

pub count_is : (cs : List Content) → length cs ≡ count_of (item_trees cs)
count_is [] = refl
count_is (x ∷ xs) = ap suc (count_is xs)

-- a list that is made anew element by element, the trees of it, and what is to hold of the trees from a place on, before and after
module _ {X T : Type 0} (trees : List X → T) (joins : List X → T → T) (R : ℕ → T → T → Type 0) where
  -- what is still to come makes, after what is done, what the whole list becomes
  abbrev SoFar : List X → ℕ → List X → Type 0
  SoFar all i now = (rest : T) → R i (trees (drop i now)) rest → R 0 (trees all) (joins (take i now) rest)

  turn : (all now : List X) (i : ℕ) (x y : X) (put : T → T) → SoFar all i now → i < length now → x ≡ get_or now i x
      → ((later : List X) (rest : T) → R (suc i) (trees later) rest → R i (trees (x ∷ later)) (put rest))
      → ((xs : List X) (rest : T) → joins (xs ++ y ∷ []) rest ≡ joins xs (put rest)) → SoFar all (i + 1) (set now i y)
  turn all now i x y put so_far small is one push rest later =
      let e : drop i now ≡ x ∷ drop (suc i) now = drop-cons now i x small ∙ ap (λ z. z ∷ drop (suc i) now) (sym is) in
      let left : drop (i + 1) (set now i y) ≡ drop (suc i) now = drop-set-lt (i + 1) now i y (omega arith) ∙ ap (λ k. drop k now) (add-one i) in
      let next : R (suc i) (trees (drop (suc i) now)) rest = subst (λ k. R k (trees (drop (suc i) now)) rest) (add-one i) (subst (λ z. R (i + 1) (trees z) rest) left later) in
      subst (λ z. R 0 (trees all) z) (sym (push (take i now) rest) ∙ ap (λ z. joins z rest) (sym (take_more_set now i y small)))
      (so_far (put rest) (subst (λ z. R i (trees z) (put rest)) (sym e) (one (drop (suc i) now) rest next)))

  end : (all now : List X) (i : ℕ) (none : T) → SoFar all i now → length now ≤ i → R i (trees []) none → R 0 (trees all) (joins now none)
  end all now i none so_far done is =
      subst (λ z. R 0 (trees all) (joins z none)) (take_all i now done) (so_far none (subst (λ z. R i (trees z) none) (sym (drop_all i now done)) is))

module _ (ss : Parts) (allows : Allowed) where
  abbrev pub ItemsSoFar : List Step → List Content → ℕ → List Content → Type 0
  ItemsSoFar path all = SoFar item_trees joined (ItemsRedacted ss allows path (count_of (item_trees all))) all

  abbrev pub PairsSoFar : List Step → List (Content × Content) → ℕ → List (Content × Content) → Type 0
  PairsSoFar path = SoFar pair_trees joined_pairs (λ _. PairsRedacted ss allows path)

  abbrev pub FieldsSoFar : List Step → List (List ℕ × Content) → ℕ → List (List ℕ × Content) → Type 0
  FieldsSoFar path = SoFar field_trees joined_fields (λ _. FieldsRedacted ss allows path)

  pub items_turn : (was path : List PathItem) (all now : List Content) (i total : ℕ) (x y : Content)
      → ItemsSoFar (map step_of was) all i now → path ≡ was → total ≡ length all → i < length now → x ≡ get_or now i x
      → RedactedAt ss allows (map step_of path ++ to_item i total ∷ []) (tree x) (tree y) → ItemsSoFar (map step_of was) all (i + 1) (set now i y)
  items_turn was path all now i total x y so_far same count small is new =
      let here = rw (same, count, count_is all) at new in
      turn item_trees joined (ItemsRedacted ss allows (map step_of was) (count_of (item_trees all))) all now i x y (t.tree (tree y)) so_far small is
      (λ later rest next. (tree y, rest, refl, here, next)) (λ xs rest. joined-push xs y rest)

  pub items_end : (path : List Step) (all now : List Content) (i : ℕ) → ItemsSoFar path all i now → length now ≤ i
      → ItemsRedacted ss allows path (count_of (item_trees all)) 0 (item_trees all) (item_trees now)
  items_end path all now i so_far done =
      let R : ℕ → t.Trees → t.Trees → Type 0 = ItemsRedacted ss allows path (count_of (item_trees all)) in
      subst (R 0 (item_trees all)) (joined-end now) (end item_trees joined R all now i t.no_trees so_far done refl)

  pub pairs_turn : (was path : List PathItem) (all now : List (Content × Content)) (i : ℕ) (x y : Content × Content) (name : List ℕ)
      → PairsSoFar (map step_of was) all i now → path ≡ was → name ≡ codes "$key" → i < length now → x ≡ get_or now i x
      → RedactedAt ss allows (map step_of path ++ into_field name ∷ []) (tree x.0) (tree y.0)
      → RedactedAt ss allows (map step_of path ++ under_key (tree x.0) ∷ []) (tree x.1) (tree y.1) → PairsSoFar (map step_of was) all (i + 1) (set now i y)
  pairs_turn was path all now i x y name so_far same dollar small is new_key new_value =
      let first = rw (same, dollar) at new_key in
      let second = rw same at new_value in
      turn pair_trees joined_pairs (λ _. PairsRedacted ss allows (map step_of was)) all now i x y (t.pair (tree y.0) (tree y.1)) so_far small is
      (λ later rest next. (tree y.0, tree y.1, rest, refl, first, second, next)) (λ xs rest. joined_pairs-push xs y rest)

  pub pairs_end : (path : List Step) (all now : List (Content × Content)) (i : ℕ) → PairsSoFar path all i now → length now ≤ i
      → PairsRedacted ss allows path (pair_trees all) (pair_trees now)
  pairs_end path all now i so_far done =
      subst (PairsRedacted ss allows path (pair_trees all)) (joined_pairs-end now)
      (end pair_trees joined_pairs (λ _. PairsRedacted ss allows path) all now i t.no_pairs so_far done refl)

  pub fields_turn : (was path : List PathItem) (all now : List (List ℕ × Content)) (i : ℕ) (x y : List ℕ × Content)
      → FieldsSoFar (map step_of was) all i now → path ≡ was → i < length now → x ≡ get_or now i x → y.0 ≡ x.0
      → RedactedAt ss allows (map step_of path ++ into_field x.0 ∷ []) (tree x.1) (tree y.1) → FieldsSoFar (map step_of was) all (i + 1) (set now i y)
  fields_turn was path all now i x y so_far same small is name new =
      let here = rw same at new in
      turn field_trees joined_fields (λ _. FieldsRedacted ss allows (map step_of was)) all now i x y (t.field y.0 (tree y.1)) so_far small is
      (λ later rest next. (tree y.1, rest, ap (λ n. t.field n (tree y.1) rest) name, here, next)) (λ xs rest. joined_fields-push xs y rest)

  pub fields_end : (path : List Step) (all now : List (List ℕ × Content)) (i : ℕ) → FieldsSoFar path all i now → length now ≤ i
      → FieldsRedacted ss allows path (field_trees all) (field_trees now)
  fields_end path all now i so_far done =
      subst (FieldsRedacted ss allows path (field_trees all)) (joined_fields-end now)
      (end field_trees joined_fields (λ _. FieldsRedacted ss allows path) all now i t.no_fields so_far done refl)

  -- the path of a whole tree is empty
  pub from_root : (path : List PathItem) (c out : t.Tree) → path ≡ [] → RedactedAt ss allows (map step_of path) c out → IsRedacted ss allows c out
  from_root path c out none p = record { parts = subst (λ x. RedactedAt ss allows (map step_of x) c out) none p }
