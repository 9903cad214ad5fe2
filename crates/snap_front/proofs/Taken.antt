-- Entries and items that are taken out by their places.
use Rattle.snap_front.proofs.Prelude.{◌≡◌, ℕ, zero, suc, ◌<◌, ◌≤◌, Bool, true, false, cond, List, [], ◌∷◌, Option, None, Some, option_map, option_and_then, refl, sym, ap, ◌∙◌, subst, arith, length, get_or, set, position, remove, tree, item_trees, pair_trees, Content, step_in, get_tree, with_entry, with_item, without_entry, without_item, put_step, remove_tree, Step, Key, Index, IsRemoved}
use Rattle.snap_content.specs.Tree as t
use Rattle.snap_front.proofs.Placed.{is_at, placed, absent, first_here, first_later, never_first, same_place, none_later, not_none, item_there, item_put, item_none, same_item, same_entry}

-- the entries without the one at the first place with that key
pub entry_taken : (name : List ℕ) (ps : List (Content × Content)) (i : ℕ) → position (is_at name) ps ≡ Some i → without_entry name (pair_trees ps) ≡ Some (pair_trees (remove ps i))
entry_taken name [] i e = absurd (cc)
entry_taken name (p ∷ ps) zero e = by (is_at name p) refl
  where
    by : (b : Bool) → is_at name p ≡ b → without_entry name (pair_trees (p ∷ ps)) ≡ Some (pair_trees ps)
    by true at = ap (λ b. cond b (Some (pair_trees ps)) (option_map (t.pair (tree p.0) (tree p.1)) (without_entry name (pair_trees ps)))) at
    by false at = absurd (never_first (position (is_at name) ps) (sym (first_later (is_at name) p ps at) ∙ e))
entry_taken name (p ∷ ps) (suc i) e = by (is_at name p) refl (entry_taken name ps i)
  where
    by : (b : Bool) → is_at name p ≡ b → (position (is_at name) ps ≡ Some i → without_entry name (pair_trees ps) ≡ Some (pair_trees (remove ps i)))
        → without_entry name (pair_trees (p ∷ ps)) ≡ Some (pair_trees (p ∷ remove ps i))
    by true at later = let none : Some 0 ≡ Some (suc i) = sym (first_here (is_at name) p ps at) ∙ e in absurd (cc)
    by false at later =
        ap (λ b. cond b (Some (pair_trees ps)) (option_map (t.pair (tree p.0) (tree p.1)) (without_entry name (pair_trees ps)))) at
        ∙ ap (option_map (t.pair (tree p.0) (tree p.1))) (later (same_place (position (is_at name) ps) i (sym (first_later (is_at name) p ps at) ∙ e)))

entry_absent : (name : List ℕ) (ps : List (Content × Content)) → position (is_at name) ps ≡ None → without_entry name (pair_trees ps) ≡ None
entry_absent name [] e = refl
entry_absent name (p ∷ ps) e = by (is_at name p) refl (entry_absent name ps)
  where
    by : (b : Bool) → is_at name p ≡ b → (position (is_at name) ps ≡ None → without_entry name (pair_trees ps) ≡ None) → without_entry name (pair_trees (p ∷ ps)) ≡ None
    by true at later = absurd (not_none (position (is_at name) (p ∷ ps)) (first_here (is_at name) p ps at) e)
    by false at later =
        ap (λ b. cond b (Some (pair_trees ps)) (option_map (t.pair (tree p.0) (tree p.1)) (without_entry name (pair_trees ps)))) at
        ∙ ap (option_map (t.pair (tree p.0) (tree p.1))) (later (none_later (position (is_at name) ps) (sym (first_later (is_at name) p ps at) ∙ e)))

item_taken : (xs : List Content) (n : ℕ) → n < length xs → without_item n (item_trees xs) ≡ Some (item_trees (remove xs n))
item_taken [] n small = absurd (omega arith)
item_taken (x ∷ xs) zero small = refl
item_taken (x ∷ xs) (suc n) small = ap (option_map (t.tree (tree x))) (item_taken xs n (omega arith))

item_gone : (xs : List Content) (n : ℕ) → length xs ≤ n → without_item n (item_trees xs) ≡ None
item_gone [] zero large = refl
item_gone [] (suc n) large = refl
item_gone (x ∷ xs) zero large = absurd (omega arith)
item_gone (x ∷ xs) (suc n) large = ap (option_map (t.tree (tree x))) (item_gone xs n (omega arith))

-- one step further down
remove_below : (s r : Step) (rest : List Step) (c inner : t.Tree) → step_in s c ≡ Some inner → remove_tree (s ∷ r ∷ rest) c ≡ option_and_then (λ new. put_step s new c) (remove_tree (r ∷ rest) inner)
remove_below s r rest c inner e = ap (option_and_then (λ x. option_and_then (λ new. put_step s new c) (remove_tree (r ∷ rest) x))) e

carried_out : (put : t.Tree → Option t.Tree) (asked asked' part part' : Option t.Tree) (r : Option Content) (old new whole changed : t.Tree) → IsRemoved asked part old new r → asked' ≡ option_and_then put asked → part' ≡ part
    → put new ≡ Some changed → (new ≡ old → changed ≡ whole) → IsRemoved asked' part' whole changed r
carried_out put asked asked' part part' (Some x) old new whole changed h is same e kept = (is ∙ ap (option_and_then put) h.0 ∙ e, same ∙ h.1)
carried_out put asked asked' part part' None old new whole changed h is same e kept = (is ∙ ap (option_and_then put) h.0, kept h.1)

pub pairs_removed : (name : List ℕ) (rest : List Step) (ps : List (Content × Content)) (i : ℕ) (x y : Content × Content) (r : Option Content) → (rest ≡ [] → ⊥) → position (is_at name) ps ≡ Some i → x ≡ get_or ps i x → y.0 ≡ x.0
    → IsRemoved (remove_tree rest (tree x.1)) (get_tree rest (tree x.1)) (tree x.1) (tree y.1) r
    → IsRemoved (remove_tree (Key name ∷ rest) (t.map (pair_trees ps))) (get_tree (Key name ∷ rest) (t.map (pair_trees ps))) (t.map (pair_trees ps)) (t.map (pair_trees (set ps i y))) r
pairs_removed name [] ps i x y r more e is key inner = absurd (more refl)
pairs_removed name (s ∷ rest) ps i x y r more e is key inner =
    let at = placed name ps i x e is in
    carried_out (λ new. put_step (Key name) new (t.map (pair_trees ps))) (remove_tree (s ∷ rest) (tree x.1)) (remove_tree (Key name ∷ s ∷ rest) (t.map (pair_trees ps)))
    (get_tree (s ∷ rest) (tree x.1)) (get_tree (Key name ∷ s ∷ rest) (t.map (pair_trees ps))) r (tree x.1) (tree y.1) (t.map (pair_trees ps)) (t.map (pair_trees (set ps i y))) inner
    (remove_below (Key name) s rest (t.map (pair_trees ps)) (tree x.1) at.value)
    (ap (option_and_then (get_tree (s ∷ rest))) at.value)
    (ap (λ es. Some (t.map es)) (at.entries y key))
    (λ same. ap t.map (sym (at.entries y key) ∙ ap (λ z. with_entry name z (pair_trees ps)) same ∙ same_entry name (pair_trees ps) (tree x.1) at.value))

pub pair_taken : (name : List ℕ) (rest : List Step) (ps now : List (Content × Content)) (i : ℕ) (x : Content × Content) → rest ≡ [] → position (is_at name) ps ≡ Some i → x ≡ get_or ps i x → now ≡ remove ps i
    → IsRemoved (remove_tree (Key name ∷ rest) (t.map (pair_trees ps))) (get_tree (Key name ∷ rest) (t.map (pair_trees ps))) (t.map (pair_trees ps)) (t.map (pair_trees now)) (Some x.1)
pair_taken name rest ps now i x last e is left = (
  ap (λ (ss : List Step). remove_tree (Key name ∷ ss) (t.map (pair_trees ps))) last ∙ ap (option_map t.map) (entry_taken name ps i e) ∙ ap (λ qs. Some (t.map (pair_trees qs))) (sym left),
  ap (λ (ss : List Step). get_tree (Key name ∷ ss) (t.map (pair_trees ps))) last ∙ ap (option_and_then (get_tree [])) (placed name ps i x e is).value,
)

pub pairs_gone : (name : List ℕ) (rest : List Step) (ps : List (Content × Content)) → position (is_at name) ps ≡ None → remove_tree (Key name ∷ rest) (t.map (pair_trees ps)) ≡ None
pairs_gone name [] ps none = ap (option_map t.map) (entry_absent name ps none)
pairs_gone name (r ∷ rest) ps none =
    ap (option_and_then (λ x. option_and_then (λ new. put_step (Key name) new (t.map (pair_trees ps))) (remove_tree (r ∷ rest) x))) (absent name ps none).value

pub items_removed : (n : ℕ) (rest : List Step) (xs : List Content) (x y : Content) (r : Option Content) → (rest ≡ [] → ⊥) → n < length xs → x ≡ get_or xs n x
    → IsRemoved (remove_tree rest (tree x)) (get_tree rest (tree x)) (tree x) (tree y) r
    → IsRemoved (remove_tree (Index n ∷ rest) (t.seq (item_trees xs))) (get_tree (Index n ∷ rest) (t.seq (item_trees xs))) (t.seq (item_trees xs)) (t.seq (item_trees (set xs n y))) r
items_removed n [] xs x y r more small is inner = absurd (more refl)
items_removed n (s ∷ rest) xs x y r more small is inner =
    let there = item_there xs n x small is in
    let same_seq : tree y ≡ tree x → t.seq (item_trees (set xs n y)) ≡ t.seq (item_trees xs)
    = (λ same. let both : Some (item_trees (set xs n y)) ≡ Some (item_trees xs) = sym (item_put xs n y small) ∙ ap (λ z. with_item n z (item_trees xs)) same ∙ same_item n (item_trees xs) (tree x) there in
    let one : item_trees (set xs n y) ≡ item_trees xs = cc in ap t.seq one) in
    carried_out (λ new. put_step (Index n) new (t.seq (item_trees xs))) (remove_tree (s ∷ rest) (tree x)) (remove_tree (Index n ∷ s ∷ rest) (t.seq (item_trees xs)))
    (get_tree (s ∷ rest) (tree x)) (get_tree (Index n ∷ s ∷ rest) (t.seq (item_trees xs))) r (tree x) (tree y) (t.seq (item_trees xs)) (t.seq (item_trees (set xs n y))) inner
    (remove_below (Index n) s rest (t.seq (item_trees xs)) (tree x) there)
    (ap (option_and_then (get_tree (s ∷ rest))) there)
    (ap (option_map t.seq) (item_put xs n y small)) same_seq

pub item_removed : (n : ℕ) (rest : List Step) (xs now : List Content) (x : Content) → rest ≡ [] → n < length xs → x ≡ get_or xs n x → now ≡ remove xs n
    → IsRemoved (remove_tree (Index n ∷ rest) (t.seq (item_trees xs))) (get_tree (Index n ∷ rest) (t.seq (item_trees xs))) (t.seq (item_trees xs)) (t.seq (item_trees now)) (Some x)
item_removed n rest xs now x last small is left = (
  ap (λ (ss : List Step). remove_tree (Index n ∷ ss) (t.seq (item_trees xs))) last ∙ ap (option_map t.seq) (item_taken xs n small) ∙ ap (λ ys. Some (t.seq (item_trees ys))) (sym left),
  ap (λ (ss : List Step). get_tree (Index n ∷ ss) (t.seq (item_trees xs))) last ∙ ap (option_and_then (get_tree [])) (item_there xs n x small is),
)

pub items_gone : (n : ℕ) (rest : List Step) (xs : List Content) → length xs ≤ n → remove_tree (Index n ∷ rest) (t.seq (item_trees xs)) ≡ None
items_gone n [] xs large = ap (option_map t.seq) (item_gone xs n large)
items_gone n (r ∷ rest) xs large =
    ap (option_and_then (λ x. option_and_then (λ new. put_step (Index n) new (t.seq (item_trees xs))) (remove_tree (r ∷ rest) x))) (item_none xs n large)

-- a map that is taken apart and put together
pub map_removed : (name : List ℕ) (rest : List Step) (whole out : t.Tree) (ps qs : List (Content × Content)) (r : Option Content) → whole ≡ t.map (pair_trees ps) → out ≡ t.map (pair_trees qs)
    → IsRemoved (remove_tree (Key name ∷ rest) (t.map (pair_trees ps))) (get_tree (Key name ∷ rest) (t.map (pair_trees ps))) (t.map (pair_trees ps)) (t.map (pair_trees qs)) r
    → IsRemoved (remove_tree (Key name ∷ rest) whole) (get_tree (Key name ∷ rest) whole) whole out r
map_removed name rest whole out ps qs r from into was =
    subst (λ w. IsRemoved (remove_tree (Key name ∷ rest) w) (get_tree (Key name ∷ rest) w) w out r) (sym from)
    (subst (λ o. IsRemoved (remove_tree (Key name ∷ rest) (t.map (pair_trees ps))) (get_tree (Key name ∷ rest) (t.map (pair_trees ps))) (t.map (pair_trees ps)) o r) (sym into) was)
