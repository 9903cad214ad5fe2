-- What is set at a path is found there; and the turns of the loops that follow a path.
use Rattle.std.proofs.lemmas.Slice.Eq.{bytes_eq-Decides}
use Rattle.snap_front.proofs.Prelude.{◌≡◌, ℕ, zero, suc, Bool, true, false, cond, List, [], ◌∷◌, ◌++◌, Option, None, Some, option_map, option_and_then, refl, sym, ap, ◌∙◌, slice_get, Bor, option_copied, bytes_eq, append_assoc, tree, item_trees, Content, is_key, value_in, item_at, step_in, get_tree, with_entry, with_item, put_step, set_tree, Step, Key, Index, step_of, steps_in, Segment}
use Rattle.snap_content.specs.Tree as t

same_key : (name : List ℕ) → bytes_eq name name ≡ true
same_key name = (bytes_eq-Decides name name).1 refl

found_entry : (name : List ℕ) (v : t.Tree) (ps : t.TreePairs) → value_in name (with_entry name v ps) ≡ Some v
found_entry name v t.no_pairs = ap (λ b. cond b (Some v) None) (same_key name)
found_entry name v (t.pair k w ps) = by (is_key name k) refl (found_entry name v ps)
  where
    by : (b : Bool) → is_key name k ≡ b → value_in name (with_entry name v ps) ≡ Some v → value_in name (cond b (t.pair k v ps) (t.pair k w (with_entry name v ps))) ≡ Some v
    by true e later = ap (λ b. cond b (Some v) (value_in name ps)) e
    by false e later = ap (λ b. cond b (Some w) (value_in name (with_entry name v ps))) e ∙ later

found_item : (n : ℕ) (v : t.Tree) (ps qs : t.Trees) → with_item n v ps ≡ Some qs → item_at n qs ≡ Some v
found_item zero v t.no_trees qs h = let e : t.tree v t.no_trees ≡ qs = cc in ap (item_at 0) (sym e)
found_item (suc n) v t.no_trees qs h = absurd (cc)
found_item zero v (t.tree p ps) qs h = let e : t.tree v ps ≡ qs = cc in ap (item_at 0) (sym e)
found_item (suc n) v (t.tree p ps) qs h = by (with_item n v ps) refl h (found_item n v ps)
  where
    by : (o : Option t.Trees) → with_item n v ps ≡ o → option_map (t.tree p) o ≡ Some qs → ((rs : t.Trees) → with_item n v ps ≡ Some rs → item_at n rs ≡ Some v) → item_at (suc n) qs ≡ Some v
    by None e k later = absurd (cc)
    by (Some rs) e k later = let same : t.tree p rs ≡ qs = cc in ap (item_at (suc n)) (sym same) ∙ later rs e

found_list : (n : ℕ) (v q : t.Tree) (o : Option t.Trees) → option_map t.seq o ≡ Some q → ((qs : t.Trees) → o ≡ Some qs → item_at n qs ≡ Some v) → step_in (Index n) q ≡ Some v
found_list n v q None h each = absurd (cc)
found_list n v q (Some qs) h each = let same : t.seq qs ≡ q = cc in ap (step_in (Index n)) (sym same) ∙ each qs refl

found_step : (s : Step) (v c q : t.Tree) → put_step s v c ≡ Some q → step_in s q ≡ Some v
found_step (Key name) v (t.map ps) q h = let same : t.map (with_entry name v ps) ≡ q = cc in ap (step_in (Key name)) (sym same) ∙ found_entry name v ps
found_step (Index n) v (t.seq ps) q h = found_list n v q (with_item n v ps) h (found_item n v ps)
found_step s v c q h = absurd (cc)

further : (s : Step) (ss : List Step) (v c q : t.Tree) (o : Option t.Tree) → option_and_then (λ r. put_step s r c) o ≡ Some q → ((r : t.Tree) → o ≡ Some r → get_tree ss r ≡ Some v) → get_tree (s ∷ ss) q ≡ Some v
further s ss v c q None h each = absurd (cc)
further s ss v c q (Some r) h each = ap (option_and_then (get_tree ss)) (found_step s r c q h) ∙ each r refl

below : (s : Step) (ss : List Step) (v c q : t.Tree) (o : Option t.Tree) → option_and_then (λ x. option_and_then (λ r. put_step s r c) (set_tree ss v x)) o ≡ Some q
    → ((x r : t.Tree) → set_tree ss v x ≡ Some r → get_tree ss r ≡ Some v) → get_tree (s ∷ ss) q ≡ Some v
below s ss v c q None h each = absurd (cc)
below s ss v c q (Some x) h each = further s ss v c q (set_tree ss v x) h (λ r e. each x r e)

pub set-found : (path : List Step) (v c q : t.Tree) → set_tree path v c ≡ Some q → get_tree path q ≡ Some v
set-found [] v c q h = sym h
set-found (s ∷ []) v c q h = ap (option_and_then (get_tree [])) (found_step s v c q h)
set-found (s ∷ r ∷ ss) v c q h = below s (r ∷ ss) v c q (step_in s c) h (λ x y e. set-found (r ∷ ss) v x y e)

-- the item of a list of trees
pub item_of : (items : List Content) (n : ℕ) → item_at n (item_trees items) ≡ option_map tree (slice_get items n)
item_of [] zero = refl
item_of [] (suc n) = refl
item_of (x ∷ xs) zero = refl
item_of (x ∷ xs) (suc n) = item_of xs n

pub item_found : (r : Option (Bor Content)) (items : List Content) (n : ℕ) → option_copied r ≡ slice_get items n → option_map (λ item. tree item.now) r ≡ item_at n (item_trees items)
item_found None items n e = ap (option_map tree) e ∙ sym (item_of items n)
item_found (Some item) items n e = ap (option_map tree) e ∙ sym (item_of items n)

-- a segment more, whose step is after the others; and one that has none
pub step_more : (all rest : List Segment) (s : Segment) (step : Step) (done : List Step) → steps_in all ≡ option_map (λ more. done ++ more) (steps_in (s ∷ rest)) → step_of s ≡ Some step
    → steps_in all ≡ option_map (λ more. (done ++ step ∷ []) ++ more) (steps_in rest)
step_more all rest s step done so_far is = so_far ∙ ap (λ o. option_map (λ more. done ++ more) (option_and_then (λ x. option_map (λ more. x ∷ more) (steps_in rest)) o)) is ∙ by (steps_in rest)
  where
    by : (o : Option (List Step)) → option_map (λ more. done ++ more) (option_map (λ more. step ∷ more) o) ≡ option_map (λ more. (done ++ step ∷ []) ++ more) o
    by None = refl
    by (Some more) = ap Some (sym (append_assoc done (step ∷ []) more))

pub no_step : (all rest : List Segment) (s : Segment) (done : List Step) → steps_in all ≡ option_map (λ more. done ++ more) (steps_in (s ∷ rest)) → step_of s ≡ None → steps_in all ≡ None
no_step all rest s done so_far is = so_far ∙ ap (λ o. option_map (λ more. done ++ more) (option_and_then (λ x. option_map (λ more. x ∷ more) (steps_in rest)) o)) is
