-- Entries and items by their places, and a value that is set in one of them.
use Rattle.std.proofs.lemmas.Bool.Decides.{nat_tests}
use Rattle.snap_front.proofs.Prelude.{◌≡◌, ℕ, zero, suc, ◌<◌, ◌≤◌, ◌⊎◌, inl, inr, Bool, true, false, cond, List, [], ◌∷◌, ◌++◌, Option, None, Some, option_map, option_and_then, refl, sym, ap, ◌∙◌, subst, arith, length, get_or, set, ◌==◌, eqb-true, eqb-false, position, Result, Ok, Err, IfOk, OnErr, tree, item_trees, pair_trees, Content, is_key, value_in, item_at, step_in, with_entry, with_item, put_step, set_tree, Step, Key, Index, IsSet}
use Rattle.snap_content.specs.Tree as t

abbrev pub is_at : List ℕ → Content × Content → Bool
is_at name pair = is_key name (tree pair.0)

pub first_here : {A : Type 0} (p : A → Bool) (x : A) (xs : List A) → p x ≡ true → position p (x ∷ xs) ≡ Some 0
first_here p x xs e = rw e (grind (arith, nat_tests))

pub first_later : {A : Type 0} (p : A → Bool) (x : A) (xs : List A) → p x ≡ false → position p (x ∷ xs) ≡ option_map suc (position p xs)
first_later p x xs e = rw e (grind (arith, nat_tests))

pub none_later : (o : Option ℕ) → option_map suc o ≡ None → o ≡ None
none_later None e = refl
none_later (Some j) e = absurd (cc)

-- the value of the entry at the first place with that key, and the entries with another one there
pub record IsPlaced (name : List ℕ) (ps : List (Content × Content)) (i : ℕ) (x : Content × Content) : Type 0 where
  pub value : value_in name (pair_trees ps) ≡ Some (tree x.1)
  pub entries : (y : Content × Content) → y.0 ≡ x.0 → with_entry name (tree y.1) (pair_trees ps) ≡ pair_trees (set ps i y)

placed_here : (name : List ℕ) (p : Content × Content) (ps : List (Content × Content)) (x : Content × Content) → is_at name p ≡ true → x ≡ p → IsPlaced name (p ∷ ps) 0 x
placed_here name p ps x at is = record {
  value = ap (λ b. cond b (Some (tree p.1)) (value_in name (pair_trees ps))) at ∙ ap (λ (z : Content × Content). Some (tree z.1)) (sym is);
  entries = λ y same.
      ap (λ b. cond b (t.pair (tree p.0) (tree y.1) (pair_trees ps)) (t.pair (tree p.0) (tree p.1) (with_entry name (tree y.1) (pair_trees ps)))) at
      ∙ ap (λ k. t.pair (tree k) (tree y.1) (pair_trees ps)) (sym (same ∙ ap (λ (z : Content × Content). z.0) is));
}

placed_later : (name : List ℕ) (p : Content × Content) (ps : List (Content × Content)) (i : ℕ) (x : Content × Content) → is_at name p ≡ false → IsPlaced name ps i x → IsPlaced name (p ∷ ps) (suc i) x
placed_later name p ps i x at later = record {
  value = ap (λ b. cond b (Some (tree p.1)) (value_in name (pair_trees ps))) at ∙ later.value;
  entries = λ y same.
      ap (λ b. cond b (t.pair (tree p.0) (tree y.1) (pair_trees ps)) (t.pair (tree p.0) (tree p.1) (with_entry name (tree y.1) (pair_trees ps)))) at
      ∙ ap (t.pair (tree p.0) (tree p.1)) (later.entries y same);
}

pub same_place : (o : Option ℕ) (i : ℕ) → option_map suc o ≡ Some (suc i) → o ≡ Some i
same_place None i e = absurd (cc)
same_place (Some j) i e = cc

pub never_first : (o : Option ℕ) → option_map suc o ≡ Some 0 → ⊥
never_first None e = absurd (cc)
never_first (Some j) e = absurd (cc)

pub placed : (name : List ℕ) (ps : List (Content × Content)) (i : ℕ) (x : Content × Content) → position (is_at name) ps ≡ Some i → x ≡ get_or ps i x → IsPlaced name ps i x
placed name [] i x e is = absurd (cc)
placed name (p ∷ ps) zero x e is = by (is_at name p) refl
  where
    by : (b : Bool) → is_at name p ≡ b → IsPlaced name (p ∷ ps) 0 x
    by true at = placed_here name p ps x at is
    by false at = absurd (never_first (position (is_at name) ps) (sym (first_later (is_at name) p ps at) ∙ e))
placed name (p ∷ ps) (suc i) x e is = by (is_at name p) refl (λ f. placed name ps i x f is)
  where
    by : (b : Bool) → is_at name p ≡ b → (position (is_at name) ps ≡ Some i → IsPlaced name ps i x) → IsPlaced name (p ∷ ps) (suc i) x
    by true at later = let none : Some 0 ≡ Some (suc i) = sym (first_here (is_at name) p ps at) ∙ e in absurd (cc)
    by false at later = placed_later name p ps i x at (later (same_place (position (is_at name) ps) i (sym (first_later (is_at name) p ps at) ∙ e)))

pub not_none : (o : Option ℕ) → o ≡ Some 0 → o ≡ None → ⊥
not_none None a b = absurd (cc)
not_none (Some n) a b = absurd (cc)

-- where no entry has the key, one more is added after the others
pub record IsAbsent (name : List ℕ) (ps : List (Content × Content)) : Type 0 where
  pub value : value_in name (pair_trees ps) ≡ None
  pub entries : (key value : Content) → tree key ≡ t.string name → with_entry name (tree value) (pair_trees ps) ≡ pair_trees (ps ++ (key, value) ∷ [])

pub absent : (name : List ℕ) (ps : List (Content × Content)) → position (is_at name) ps ≡ None → IsAbsent name ps
absent name [] e = record { value = refl; entries = λ key value is. ap (λ k. t.pair k (tree value) t.no_pairs) (sym is) }
absent name (p ∷ ps) e = by (is_at name p) refl (absent name ps)
  where
    by : (b : Bool) → is_at name p ≡ b → (position (is_at name) ps ≡ None → IsAbsent name ps) → IsAbsent name (p ∷ ps)
    by true at later = absurd (not_none (position (is_at name) (p ∷ ps)) (first_here (is_at name) p ps at) e)
    by false at later =
        let more = later (none_later (position (is_at name) ps) (sym (first_later (is_at name) p ps at) ∙ e)) in
        record {
          value = ap (λ b. cond b (Some (tree p.1)) (value_in name (pair_trees ps))) at ∙ more.value;
          entries = λ key value is.
              ap (λ b. cond b (t.pair (tree p.0) (tree value) (pair_trees ps)) (t.pair (tree p.0) (tree p.1) (with_entry name (tree value) (pair_trees ps)))) at
              ∙ ap (t.pair (tree p.0) (tree p.1)) (more.entries key value is);
        }

-- what is there, set again, leaves the entries and the items
pub same_entry : (name : List ℕ) (ps : t.TreePairs) (v : t.Tree) → value_in name ps ≡ Some v → with_entry name v ps ≡ ps
same_entry name t.no_pairs v e = absurd (cc)
same_entry name (t.pair k w ps) v e = by (is_key name k) refl (same_entry name ps v)
  where
    by : (b : Bool) → is_key name k ≡ b → (value_in name ps ≡ Some v → with_entry name v ps ≡ ps) → with_entry name v (t.pair k w ps) ≡ t.pair k w ps
    by true at later =
        let here : Some w ≡ Some v = sym (ap (λ b. cond b (Some w) (value_in name ps)) at) ∙ e in
        let same : v ≡ w = cc in ap (λ b. cond b (t.pair k v ps) (t.pair k w (with_entry name v ps))) at ∙ ap (λ x. t.pair k x ps) same
    by false at later =
        ap (λ b. cond b (t.pair k v ps) (t.pair k w (with_entry name v ps))) at
        ∙ ap (t.pair k w) (later (sym (ap (λ b. cond b (Some w) (value_in name ps)) at) ∙ e))

pub item_there : (xs : List Content) (n : ℕ) (x : Content) → n < length xs → x ≡ get_or xs n x → item_at n (item_trees xs) ≡ Some (tree x)
item_there [] n x small is = absurd (omega arith)
item_there (y ∷ xs) zero x small is = ap (λ z. Some (tree z)) (sym is)
item_there (y ∷ xs) (suc n) x small is = item_there xs n x (omega arith) is

pub item_put : (xs : List Content) (n : ℕ) (y : Content) → n < length xs → with_item n (tree y) (item_trees xs) ≡ Some (item_trees (set xs n y))
item_put [] n y small = absurd (omega arith)
item_put (x ∷ xs) zero y small = refl
item_put (x ∷ xs) (suc n) y small = ap (option_map (t.tree (tree x))) (item_put xs n y (omega arith))

pub item_behind : (xs : List Content) (n : ℕ) (y : Content) → n ≡ length xs → with_item n (tree y) (item_trees xs) ≡ Some (item_trees (xs ++ y ∷ []))
item_behind [] zero y is = refl
item_behind [] (suc n) y is = absurd (omega arith)
item_behind (x ∷ xs) zero y is = absurd (omega arith)
item_behind (x ∷ xs) (suc n) y is = ap (option_map (t.tree (tree x))) (item_behind xs n y (omega arith))

item_beyond : (xs : List Content) (n : ℕ) (v : t.Tree) → length xs < n → with_item n v (item_trees xs) ≡ None
item_beyond [] zero v large = absurd (omega arith)
item_beyond [] (suc n) v large = refl
item_beyond (x ∷ xs) zero v large = absurd (omega arith)
item_beyond (x ∷ xs) (suc n) v large = ap (option_map (t.tree (tree x))) (item_beyond xs n v (omega arith))

pub item_none : (xs : List Content) (n : ℕ) → length xs ≤ n → item_at n (item_trees xs) ≡ None
item_none [] zero large = refl
item_none [] (suc n) large = refl
item_none (x ∷ xs) zero large = absurd (omega arith)
item_none (x ∷ xs) (suc n) large = item_none xs n (omega arith)

pub same_item : (n : ℕ) (items : t.Trees) (v : t.Tree) → item_at n items ≡ Some v → with_item n v items ≡ Some items
same_item zero t.no_trees v e = absurd (cc)
same_item (suc n) t.no_trees v e = absurd (cc)
same_item zero (t.tree x xs) v e = let same : v ≡ x = cc in ap (λ z. Some (t.tree z xs)) same
same_item (suc n) (t.tree x xs) v e = ap (option_map (t.tree x)) (same_item n xs v e)

-- one step further down
set_below : (s : Step) (rest : List Step) (v c inner : t.Tree) → step_in s c ≡ Some inner → set_tree (s ∷ rest) v c ≡ option_and_then (λ new. put_step s new c) (set_tree rest v inner)
set_below s [] v c inner e = refl
set_below s (r ∷ rest) v c inner e = ap (option_and_then (λ x. option_and_then (λ new. put_step s new c) (set_tree (r ∷ rest) v x))) e

carried : {E : Type 0} (put : t.Tree → Option t.Tree) (asked : Option t.Tree) (r : Result Bool E) (old new whole changed : t.Tree) → IsSet asked old new r → put new ≡ Some changed → (new ≡ old → changed ≡ whole)
    → IsSet (option_and_then put asked) whole changed r
carried put asked (Ok true) old new whole changed set e same = ap (option_and_then put) set ∙ e
carried put asked (Ok false) old new whole changed set e same = (ap (option_and_then put) set.0, same set.1)
carried put asked (Err x) old new whole changed set e same = same set

pub pairs_set : {E : Type 0} (name : List ℕ) (rest : List Step) (v : t.Tree) (ps : List (Content × Content)) (i : ℕ) (x y : Content × Content) (r : Result Bool E) → position (is_at name) ps ≡ Some i → x ≡ get_or ps i x → y.0 ≡ x.0
    → IsSet (set_tree rest v (tree x.1)) (tree x.1) (tree y.1) r → IsSet (set_tree (Key name ∷ rest) v (t.map (pair_trees ps))) (t.map (pair_trees ps)) (t.map (pair_trees (set ps i y))) r
pairs_set name rest v ps i x y r e is key inner =
    let at = placed name ps i x e is in
    subst (λ o. IsSet o (t.map (pair_trees ps)) (t.map (pair_trees (set ps i y))) r) (sym (set_below (Key name) rest v (t.map (pair_trees ps)) (tree x.1) at.value))
    (carried (λ new. put_step (Key name) new (t.map (pair_trees ps))) (set_tree rest v (tree x.1)) r (tree x.1) (tree y.1) (t.map (pair_trees ps)) (t.map (pair_trees (set ps i y))) inner
    (ap (λ es. Some (t.map es)) (at.entries y key))
    (λ same. ap t.map (sym (at.entries y key) ∙ ap (λ z. with_entry name z (pair_trees ps)) same ∙ same_entry name (pair_trees ps) (tree x.1) at.value)))

pub pairs_pushed : (name : List ℕ) (ps : List (Content × Content)) (key value : Content) → position (is_at name) ps ≡ None → tree key ≡ t.string name
    → set_tree (Key name ∷ []) (tree value) (t.map (pair_trees ps)) ≡ Some (t.map (pair_trees (ps ++ (key, value) ∷ [])))
pairs_pushed name ps key value none is = ap (λ es. Some (t.map es)) ((absent name ps none).entries key value is)

pub pairs_none : (name : List ℕ) (rest : List Step) (v : t.Tree) (ps : List (Content × Content)) → position (is_at name) ps ≡ None → (rest ≡ [] → ⊥) → set_tree (Key name ∷ rest) v (t.map (pair_trees ps)) ≡ None
pairs_none name [] v ps none more = absurd (more refl)
pairs_none name (r ∷ rest) v ps none more =
    ap (option_and_then (λ x. option_and_then (λ new. put_step (Key name) new (t.map (pair_trees ps))) (set_tree (r ∷ rest) v x))) (absent name ps none).value

pub items_set : {E : Type 0} (n : ℕ) (rest : List Step) (v : t.Tree) (xs : List Content) (x y : Content) (r : Result Bool E) → n < length xs → x ≡ get_or xs n x
    → IsSet (set_tree rest v (tree x)) (tree x) (tree y) r → IsSet (set_tree (Index n ∷ rest) v (t.seq (item_trees xs))) (t.seq (item_trees xs)) (t.seq (item_trees (set xs n y))) r
items_set n rest v xs x y r small is inner =
    let there = item_there xs n x small is in
    let same_seq : tree y ≡ tree x → t.seq (item_trees (set xs n y)) ≡ t.seq (item_trees xs)
    = (λ same. let both : Some (item_trees (set xs n y)) ≡ Some (item_trees xs) = sym (item_put xs n y small) ∙ ap (λ z. with_item n z (item_trees xs)) same ∙ same_item n (item_trees xs) (tree x) there in
    let one : item_trees (set xs n y) ≡ item_trees xs = cc in ap t.seq one) in
    subst (λ o. IsSet o (t.seq (item_trees xs)) (t.seq (item_trees (set xs n y))) r) (sym (set_below (Index n) rest v (t.seq (item_trees xs)) (tree x) there))
    (carried (λ new. put_step (Index n) new (t.seq (item_trees xs))) (set_tree rest v (tree x)) r (tree x) (tree y) (t.seq (item_trees xs)) (t.seq (item_trees (set xs n y))) inner
    (ap (option_map t.seq) (item_put xs n y small)) same_seq)

pub items_pushed : (n : ℕ) (xs : List Content) (value : Content) → n ≡ length xs → set_tree (Index n ∷ []) (tree value) (t.seq (item_trees xs)) ≡ Some (t.seq (item_trees (xs ++ value ∷ [])))
items_pushed n xs value is = ap (option_map t.seq) (item_behind xs n value is)

pub items_none : (n : ℕ) (rest : List Step) (v : t.Tree) (xs : List Content) → length xs ≤ n → (length xs < n) ⊎ (rest ≡ [] → ⊥) → set_tree (Index n ∷ rest) v (t.seq (item_trees xs)) ≡ None
items_none n [] v xs large (inl beyond) = ap (option_map t.seq) (item_beyond xs n v beyond)
items_none n [] v xs large (inr more) = absurd (more refl)
items_none n (r ∷ rest) v xs large more =
    ap (option_and_then (λ x. option_and_then (λ new. put_step (Index n) new (t.seq (item_trees xs))) (set_tree (r ∷ rest) v x))) (item_none xs n large)

pub pair_pushed : {E : Type 0} (name : List ℕ) (rest : List Step) (ps now : List (Content × Content)) (value : Content) (r : Result Bool E) → position (is_at name) ps ≡ None → rest ≡ []
    → IfOk r (λ done. (done ≡ true) × (key : Content) × (tree key ≡ t.string name) × (now ≡ ps ++ (key, value) ∷ [])) → OnErr r (now ≡ ps)
    → IsSet (set_tree (Key name ∷ rest) (tree value) (t.map (pair_trees ps))) (t.map (pair_trees ps)) (t.map (pair_trees now)) r
pair_pushed name rest ps now value (Ok true) none last ok err =
    ap (λ (ss : List Step). set_tree (Key name ∷ ss) (tree value) (t.map (pair_trees ps))) last ∙ pairs_pushed name ps ok.1 value none ok.2 ∙ ap (λ xs. Some (t.map (pair_trees xs))) (sym ok.3)
pair_pushed name rest ps now value (Ok false) none last ok err = let no : false ≡ true = ok.0 in absurd (cc)
pair_pushed name rest ps now value (Err e) none last ok err = ap (λ xs. t.map (pair_trees xs)) err

pub item_pushed : {E : Type 0} (n : ℕ) (rest : List Step) (xs now : List Content) (value : Content) (r : Result Bool E) → n ≡ length xs → rest ≡ []
    → IfOk r (λ done. (done ≡ true) × (now ≡ xs ++ value ∷ [])) → OnErr r (now ≡ xs)
    → IsSet (set_tree (Index n ∷ rest) (tree value) (t.seq (item_trees xs))) (t.seq (item_trees xs)) (t.seq (item_trees now)) r
item_pushed n rest xs now value (Ok true) is last ok err =
    ap (λ (ss : List Step). set_tree (Index n ∷ ss) (tree value) (t.seq (item_trees xs))) last ∙ items_pushed n xs value is ∙ ap (λ ys. Some (t.seq (item_trees ys))) (sym ok.1)
item_pushed n rest xs now value (Ok false) is last ok err = let no : false ≡ true = ok.0 in absurd (cc)
item_pushed n rest xs now value (Err e) is last ok err = ap (λ ys. t.seq (item_trees ys)) err

no_steps : (rest : List Step) → length rest ≡ 0 → rest ≡ []
no_steps [] e = refl
no_steps (r ∷ rest) e = absurd (omega arith)

-- what the test says that no step is left
pub nil_of : (rest : List Step) → (length rest == 0) ≡ true → rest ≡ []
nil_of rest e = no_steps rest (eqb-true (length rest) 0 e)

pub not_nil : (rest : List Step) → (length rest == 0) ≡ false → rest ≡ [] → ⊥
not_nil rest e none = eqb-false (length rest) 0 e (ap length none)

-- a map that is taken apart and put together
pub map_set : {E : Type 0} (name : List ℕ) (rest : List Step) (v whole out : t.Tree) (ps qs : List (Content × Content)) (r : Result Bool E) → whole ≡ t.map (pair_trees ps) → out ≡ t.map (pair_trees qs)
    → IsSet (set_tree (Key name ∷ rest) v (t.map (pair_trees ps))) (t.map (pair_trees ps)) (t.map (pair_trees qs)) r → IsSet (set_tree (Key name ∷ rest) v whole) whole out r
map_set name rest v whole out ps qs r from into was =
    subst (λ w. IsSet (set_tree (Key name ∷ rest) v w) w out r) (sym from) (subst (λ o. IsSet (set_tree (Key name ∷ rest) v (t.map (pair_trees ps))) (t.map (pair_trees ps)) o r) (sym into) was)
