-- Turns of the loops that walk over lists.
use Rattle.snap_content.proofs.Prelude.{◌≡◌, ℕ, zero, suc, ◌+◌, ◌<◌, ◌≤◌, Bool, List, [], ◌∷◌, get_or, set, take, drop, length, sym, ap, ◌∙◌, subst, arith, add-one, drop-cons, drop-set-lt, take_more_set, take_all, drop_all, tree, item_trees, pair_trees, field_trees, count, count_items, count_pairs, count_fields, Walked, ItemsWalked, no_items, item, PairsWalked, no_pairs, pair, FieldsWalked, no_fields, field, Content}
use Rattle.snap_content.specs.Tree as t
use Rattle.snap_content.proofs.Joined.{joined, joined-push, joined-end, joined_pairs, joined_pairs-push, joined_pairs-end, joined_fields, joined_fields-push, joined_fields-end}

-- how many nodes there are once an element is another
pub count-set : (xs : List Content) (i : ℕ) (x y : Content) → i < length xs → x ≡ get_or xs i x → count_items (item_trees (set xs i y)) + count (tree x) ≡ count_items (item_trees xs) + count (tree y)
count-set [] i x y h e = absurd (omega arith)
count-set (z ∷ zs) zero x y h e = omega (arith, ap (λ n. count (tree n)) e)
count-set (z ∷ zs) (suc i) x y h e = omega (arith, count-set zs i x y (omega arith) e)

pub count_at : (xs : List Content) (i : ℕ) (x : Content) → i < length xs → x ≡ get_or xs i x → count (tree x) ≤ count_items (item_trees xs)
count_at [] i x h e = absurd (omega arith)
count_at (z ∷ zs) zero x h e = omega (arith, ap (λ n. count (tree n)) e)
count_at (z ∷ zs) (suc i) x h e = omega (arith, count_at zs i x (omega arith) e)

pub count_pairs-set : (xs : List (Content × Content)) (i : ℕ) (x y : Content × Content) → i < length xs → x ≡ get_or xs i x
    → count_pairs (pair_trees (set xs i y)) + (count (tree x.0) + count (tree x.1)) ≡ count_pairs (pair_trees xs) + (count (tree y.0) + count (tree y.1))
count_pairs-set [] i x y h e = absurd (omega arith)
count_pairs-set (z ∷ zs) zero x y h e = omega (arith, ap (λ n. count (tree n.0)) e, ap (λ n. count (tree n.1)) e)
count_pairs-set (z ∷ zs) (suc i) x y h e = omega (arith, count_pairs-set zs i x y (omega arith) e)

pub count_pairs_at : (xs : List (Content × Content)) (i : ℕ) (x : Content × Content) → i < length xs → x ≡ get_or xs i x → count (tree x.0) + count (tree x.1) ≤ count_pairs (pair_trees xs)
count_pairs_at [] i x h e = absurd (omega arith)
count_pairs_at (z ∷ zs) zero x h e = omega (arith, ap (λ n. count (tree n.0)) e, ap (λ n. count (tree n.1)) e)
count_pairs_at (z ∷ zs) (suc i) x h e = omega (arith, count_pairs_at zs i x (omega arith) e)

pub count_fields-set : (xs : List (List ℕ × Content)) (i : ℕ) (x y : List ℕ × Content) → i < length xs → x ≡ get_or xs i x
    → count_fields (field_trees (set xs i y)) + count (tree x.1) ≡ count_fields (field_trees xs) + count (tree y.1)
count_fields-set [] i x y h e = absurd (omega arith)
count_fields-set (z ∷ zs) zero x y h e = omega (arith, ap (λ n. count (tree n.1)) e)
count_fields-set (z ∷ zs) (suc i) x y h e = omega (arith, count_fields-set zs i x y (omega arith) e)

pub count_fields_at : (xs : List (List ℕ × Content)) (i : ℕ) (x : List ℕ × Content) → i < length xs → x ≡ get_or xs i x → count (tree x.1) ≤ count_fields (field_trees xs)
count_fields_at [] i x h e = absurd (omega arith)
count_fields_at (z ∷ zs) zero x h e = omega (arith, ap (λ n. count (tree n.1)) e)
count_fields_at (z ∷ zs) (suc i) x h e = omega (arith, count_fields_at zs i x (omega arith) e)

module _ {F : Type 0} (step : F → t.Tree → Bool → t.Tree → F → Type 0) (was f : F) where
  pub items_turn : (g : F) (all now : List Content) (i : ℕ) (x y : Content)
      → ((rest : t.Trees) (h : F) → ItemsWalked step f (item_trees (drop i now)) rest h → ItemsWalked step was (item_trees all) (joined (take i now) rest) h)
      → i < length now → x ≡ get_or now i x → Walked step f (tree x) (tree y) g
      → (rest : t.Trees) (h : F) → ItemsWalked step g (item_trees (drop (i + 1) (set now i y))) rest h → ItemsWalked step was (item_trees all) (joined (take (i + 1) (set now i y)) rest) h
  items_turn g all now i x y so_far small is w rest h later =
      let e : drop i now ≡ x ∷ drop (suc i) now = drop-cons now i x small ∙ ap (λ z. z ∷ drop (suc i) now) (sym is) in
      let same : drop (i + 1) (set now i y) ≡ drop (suc i) now = drop-set-lt (i + 1) now i y (omega arith) ∙ ap (λ k. drop k now) (add-one i) in
      let next : ItemsWalked step g (item_trees (drop (suc i) now)) rest h = subst (λ z. ItemsWalked step g (item_trees z) rest h) same later in
      let one : ItemsWalked step f (item_trees (drop i now)) (t.tree (tree y) rest) h = subst (λ z. ItemsWalked step f (item_trees z) (t.tree (tree y) rest) h) (sym e) (item w next) in
      subst (λ z. ItemsWalked step was (item_trees all) z h) (sym (joined-push (take i now) y rest) ∙ ap (λ z. joined z rest) (sym (take_more_set now i y small))) (so_far (t.tree (tree y) rest) h one)

  pub items_end : (all now : List Content) (i : ℕ)
      → ((rest : t.Trees) (h : F) → ItemsWalked step f (item_trees (drop i now)) rest h → ItemsWalked step was (item_trees all) (joined (take i now) rest) h)
      → length now ≤ i → ItemsWalked step was (item_trees all) (item_trees now) f
  items_end all now i so_far done =
      let none : ItemsWalked step f (item_trees (drop i now)) t.no_trees f = subst (λ z. ItemsWalked step f (item_trees z) t.no_trees f) (sym (drop_all i now done)) no_items in
      subst (λ z. ItemsWalked step was (item_trees all) z f) (ap (λ z. joined z t.no_trees) (take_all i now done) ∙ joined-end now) (so_far t.no_trees f none)

  pub pairs_turn : (g h : F) (all now : List (Content × Content)) (i : ℕ) (x y : Content × Content)
      → ((rest : t.TreePairs) (k : F) → PairsWalked step f (pair_trees (drop i now)) rest k → PairsWalked step was (pair_trees all) (joined_pairs (take i now) rest) k)
      → i < length now → x ≡ get_or now i x → Walked step f (tree x.0) (tree y.0) g → Walked step g (tree x.1) (tree y.1) h
      → (rest : t.TreePairs) (k : F) → PairsWalked step h (pair_trees (drop (i + 1) (set now i y))) rest k → PairsWalked step was (pair_trees all) (joined_pairs (take (i + 1) (set now i y)) rest) k
  pairs_turn g h all now i x y so_far small is w v rest k later =
      let e : drop i now ≡ x ∷ drop (suc i) now = drop-cons now i x small ∙ ap (λ z. z ∷ drop (suc i) now) (sym is) in
      let same : drop (i + 1) (set now i y) ≡ drop (suc i) now = drop-set-lt (i + 1) now i y (omega arith) ∙ ap (λ j. drop j now) (add-one i) in
      let next : PairsWalked step h (pair_trees (drop (suc i) now)) rest k = subst (λ z. PairsWalked step h (pair_trees z) rest k) same later in
      let one : PairsWalked step f (pair_trees (drop i now)) (t.pair (tree y.0) (tree y.1) rest) k
      = subst (λ z. PairsWalked step f (pair_trees z) (t.pair (tree y.0) (tree y.1) rest) k) (sym e) (pair w v next) in
      subst (λ z. PairsWalked step was (pair_trees all) z k) (sym (joined_pairs-push (take i now) y rest) ∙ ap (λ z. joined_pairs z rest) (sym (take_more_set now i y small)))
      (so_far (t.pair (tree y.0) (tree y.1) rest) k one)

  pub pairs_end : (all now : List (Content × Content)) (i : ℕ)
      → ((rest : t.TreePairs) (h : F) → PairsWalked step f (pair_trees (drop i now)) rest h → PairsWalked step was (pair_trees all) (joined_pairs (take i now) rest) h)
      → length now ≤ i → PairsWalked step was (pair_trees all) (pair_trees now) f
  pairs_end all now i so_far done =
      let none : PairsWalked step f (pair_trees (drop i now)) t.no_pairs f = subst (λ z. PairsWalked step f (pair_trees z) t.no_pairs f) (sym (drop_all i now done)) no_pairs in
      subst (λ z. PairsWalked step was (pair_trees all) z f) (ap (λ z. joined_pairs z t.no_pairs) (take_all i now done) ∙ joined_pairs-end now) (so_far t.no_pairs f none)

  pub fields_turn : (g : F) (all now : List (List ℕ × Content)) (i : ℕ) (x y : List ℕ × Content)
      → ((rest : t.TreeFields) (h : F) → FieldsWalked step f (field_trees (drop i now)) rest h → FieldsWalked step was (field_trees all) (joined_fields (take i now) rest) h)
      → i < length now → x ≡ get_or now i x → Walked step f (tree x.1) (tree y.1) g → y.0 ≡ x.0
      → (rest : t.TreeFields) (h : F) → FieldsWalked step g (field_trees (drop (i + 1) (set now i y))) rest h → FieldsWalked step was (field_trees all) (joined_fields (take (i + 1) (set now i y)) rest) h
  fields_turn g all now i x y so_far small is w name rest h later =
      let e : drop i now ≡ x ∷ drop (suc i) now = drop-cons now i x small ∙ ap (λ z. z ∷ drop (suc i) now) (sym is) in
      let same : drop (i + 1) (set now i y) ≡ drop (suc i) now = drop-set-lt (i + 1) now i y (omega arith) ∙ ap (λ k. drop k now) (add-one i) in
      let next : FieldsWalked step g (field_trees (drop (suc i) now)) rest h = subst (λ z. FieldsWalked step g (field_trees z) rest h) same later in
      let made : FieldsWalked step f (t.field x.0 (tree x.1) (field_trees (drop (suc i) now))) (t.field y.0 (tree y.1) rest) h
      = subst (λ z. FieldsWalked step f (t.field x.0 (tree x.1) (field_trees (drop (suc i) now))) (t.field z (tree y.1) rest) h) (sym name) (field w next) in
      let one : FieldsWalked step f (field_trees (drop i now)) (t.field y.0 (tree y.1) rest) h = subst (λ z. FieldsWalked step f (field_trees z) (t.field y.0 (tree y.1) rest) h) (sym e) made in
      subst (λ z. FieldsWalked step was (field_trees all) z h) (sym (joined_fields-push (take i now) y rest) ∙ ap (λ z. joined_fields z rest) (sym (take_more_set now i y small))) (so_far (t.field y.0 (tree y.1) rest) h one)

  pub fields_end : (all now : List (List ℕ × Content)) (i : ℕ)
      → ((rest : t.TreeFields) (h : F) → FieldsWalked step f (field_trees (drop i now)) rest h → FieldsWalked step was (field_trees all) (joined_fields (take i now) rest) h)
      → length now ≤ i → FieldsWalked step was (field_trees all) (field_trees now) f
  fields_end all now i so_far done =
      let none : FieldsWalked step f (field_trees (drop i now)) t.no_fields f = subst (λ z. FieldsWalked step f (field_trees z) t.no_fields f) (sym (drop_all i now done)) no_fields in
      subst (λ z. FieldsWalked step was (field_trees all) z f) (ap (λ z. joined_fields z t.no_fields) (take_all i now done) ∙ joined_fields-end now) (so_far t.no_fields f none)
