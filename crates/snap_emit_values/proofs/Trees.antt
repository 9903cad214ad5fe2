-- One level of what is printed: a list, a dict, and a `Yaml` that holds one.
use Rattle.snap_emit_values.proofs.Prelude.{◌≡◌, ℕ, ◌+◌, ◌++◌, List, [], ◌∷◌, map, length, false, eqb, refl, sym, ap, ◌∙◌, append_assoc, append-nil, rules, arith, nat_tests, value_of, array_list, array_values, hash_list, hash_values, Array, Hash, Yaml, the_lemmas, Blocks, before_more, break_at, text_at, items_at, pairs_at, child_of, item_of, on_lines, list_text, key_of, pair_of, dict_text, shape_of, pair_shapes}
use Rattle.snap_print.specs.Blocks as blocks
use Rattle.snap_yaml.specs.Value as v
use Rattle.snap_yaml.specs.declared.yaml.Yaml.{Array as array, Hash as hash}
use Rattle.snap_emit_values.specs.Document.{ends_child, ends_in_block, items_end, pairs_end}
use Rattle.snap_emit_values.specs.Shape as s

values : (ts : List Yaml) → s.value_shapes (array_values ts) ≡ s.shapes_of (map shape_of ts)
values [] = refl
values (t ∷ ts) = ap (s.shape (shape_of t)) (values ts)

value_pairs : (es : List (Yaml × Yaml)) → s.value_pairs (hash_values es) ≡ s.shape_pairs_of (map pair_shapes es)
value_pairs [] = refl
value_pairs (e ∷ es) = ap (s.pair (shape_of e.0) (shape_of e.1)) (value_pairs es)

value-array : (a : Array) → value_of (array a) ≡ v.array (array_values (array_list a))
value-array a = search (rules, the_lemmas)

value-hash : (h : Hash) → value_of (hash h) ≡ v.hash (hash_values (hash_list h))
value-hash h = search (rules, the_lemmas)

pub shape-array : (a : Array) → shape_of (array a) ≡ s.list (s.shapes_of (map shape_of (array_list a)))
shape-array a = ap s.value_shape (value-array a) ∙ ap s.list (values (array_list a))

pub shape-hash : (h : Hash) → shape_of (hash h) ≡ s.dict (s.shape_pairs_of (map pair_shapes (hash_list h)))
shape-hash h = ap s.value_shape (value-hash h) ∙ ap s.dict (value_pairs (hash_list h))

-- what an array and a hash are seen as
pub array_seen : (whole : Yaml) (a : Array) (items : List Yaml) → whole ≡ array a → items ≡ array_list a
    → s.list (s.shapes_of (map shape_of items)) ≡ shape_of whole
array_seen whole a items is same = ap (λ ts. s.list (s.shapes_of (map shape_of ts))) same ∙ sym (ap shape_of is ∙ shape-array a)

pub hash_seen : (whole : Yaml) (h : Hash) (pairs : List (Yaml × Yaml)) → whole ≡ hash h → pairs ≡ hash_list h
    → s.dict (s.shape_pairs_of (map pair_shapes pairs)) ≡ shape_of whole
hash_seen whole h pairs is same = ap (λ ps. s.dict (s.shape_pairs_of (map pair_shapes ps))) same ∙ sym (ap shape_of is ∙ shape-hash h)

pub flat_list : (ts : List s.Shape) → s.is_flat (s.list (s.shapes_of ts)) ≡ eqb (length ts) 0
flat_list [] = refl
flat_list (t ∷ ts) = grind (arith, nat_tests)

pub flat_dict : (es : List (s.Shape × s.Shape)) → s.is_flat (s.dict (s.shape_pairs_of es)) ≡ eqb (length es) 0
flat_dict [] = refl
flat_dict (e ∷ es) = grind (arith, nat_tests)

-- pieces after a line that ends, and pieces as a shape holds them: each after the end of a line
abbrev further : {X : Type 0} → ℕ → (X → List ℕ) → (X → List ℕ) → X → List X → List ℕ
further k before last x [] = break_at k ++ last x ++ []
further k before last x (y ∷ ys) = (break_at k ++ before x) ++ further k before last y ys

further-lines : {X : Type 0} (k : ℕ) (before last : X → List ℕ) (x : X) (xs : List X)
    → break_at k ++ on_lines k before last (x ∷ xs) ≡ further k before last x xs
further-lines k before last x [] = sym (append-nil (break_at k ++ last x))
further-lines k before last x (y ∷ ys) =
    ap (λ (t : List ℕ). break_at k ++ t) (append_assoc (before x) (break_at k) (on_lines k before last (y ∷ ys)))
    ∙ sym (append_assoc (break_at k) (before x) (break_at k ++ on_lines k before last (y ∷ ys)))
    ∙ ap (λ (t : List ℕ). (break_at k ++ before x) ++ t) (further-lines k before last y ys)

lines-further : {X : Type 0} (k : ℕ) (before last : X → List ℕ) (x y : X) (ys : List X)
    → on_lines k before last (x ∷ y ∷ ys) ≡ before x ++ further k before last y ys
lines-further k before last x y ys =
    append_assoc (before x) (break_at k) (on_lines k before last (y ∷ ys)) ∙ ap (λ (t : List ℕ). before x ++ t) (further-lines k before last y ys)

further_items : (k : ℕ) (w : Blocks) (t : s.Shape) (ts : List s.Shape)
    → further k (item_of k (before_more w)) (item_of k w) t ts ≡ items_at k w (s.shapes_of (t ∷ ts))
further_items k w t [] = refl
further_items k w t (u ∷ ts) = ap (λ (x : List ℕ). (break_at k ++ item_of k (before_more w) t) ++ x) (further_items k w u ts)

pub list_at : (k : ℕ) (w : Blocks) (ts : List s.Shape) → list_text k w ts ≡ text_at k w (s.list (s.shapes_of ts))
list_at k w [] = refl
list_at k w (t ∷ []) = sym (append-nil (item_of k w t))
list_at k w (t ∷ u ∷ ts) =
    lines-further k (item_of k (before_more w)) (item_of k w) t u ts ∙ ap (λ (x : List ℕ). item_of k (before_more w) t ++ x) (further_items k w u ts)

-- a key stands before more, wherever its value stands
twice : (w : Blocks) → before_more (before_more w) ≡ before_more w
twice blocks.off = refl
twice blocks.inside = refl
twice blocks.end = refl
twice blocks.last = refl

-- a pair that something follows, with its key's place as that of the whole
abbrev pair_inside : ℕ → Blocks → s.Shape × s.Shape → List ℕ
pair_inside k w p = key_of k (before_more w) p.0 (s.is_flat p.1) ++ child_of (k + 2) (before_more w) p.1

pair-same : (k : ℕ) (w : Blocks) (p : s.Shape × s.Shape) → pair_of k (before_more w) p ≡ pair_inside k w p
pair-same k w p =
    let at : Blocks → List ℕ = λ x. key_of k x p.0 (s.is_flat p.1) ++ child_of (k + 2) (before_more w) p.1 in
    ap at (twice w)

further_pairs : (k : ℕ) (w : Blocks) (p : s.Shape × s.Shape) (ps : List (s.Shape × s.Shape))
    → further k (pair_of k (before_more w)) (pair_of k w) p ps ≡ pairs_at k w (s.shape_pairs_of (p ∷ ps))
further_pairs k w p [] = refl
further_pairs k w p (q ∷ ps) =
    ap (λ (x : List ℕ). (break_at k ++ pair_of k (before_more w) p) ++ x) (further_pairs k w q ps)
    ∙ ap (λ (x : List ℕ). (break_at k ++ x) ++ pairs_at k w (s.shape_pairs_of (q ∷ ps))) (pair-same k w p)

pub dict_at : (k : ℕ) (w : Blocks) (ps : List (s.Shape × s.Shape)) → dict_text k w ps ≡ text_at k w (s.dict (s.shape_pairs_of ps))
dict_at k w [] = refl
dict_at k w (p ∷ []) = sym (append-nil (pair_of k w p))
dict_at k w (p ∷ q ∷ ps) =
    lines-further k (pair_of k (before_more w)) (pair_of k w) p q ps
    ∙ ap (λ (x : List ℕ). pair_of k (before_more w) p ++ x) (further_pairs k w q ps)
    ∙ ap (λ (x : List ℕ). x ++ pairs_at k w (s.shape_pairs_of (q ∷ ps))) (pair-same k w p)

-- the last item or value tells whether a block ends a collection
items-last : (w : Blocks) (front : List Yaml) (t : Yaml)
    → items_end w (s.shapes_of (map shape_of (front ++ t ∷ []))) ≡ ends_child (s.block_in w (shape_of t)) (ends_in_block w (shape_of t))
items-last w [] t = refl
items-last w (u ∷ []) t = refl
items-last w (u ∷ v ∷ vs) t = items-last w (v ∷ vs) t

pairs-last : (w : Blocks) (front : List (Yaml × Yaml)) (p : Yaml × Yaml)
    → pairs_end w (s.shape_pairs_of (map pair_shapes (front ++ p ∷ []))) ≡ ends_child (s.block_in w (shape_of p.1)) (ends_in_block w (shape_of p.1))
pairs-last w [] p = refl
pairs-last w (q ∷ []) p = refl
pairs-last w (q ∷ r ∷ rs) p = pairs-last w (r ∷ rs) p

array-end : (w : Blocks) (whole : Yaml) (a : Array) (items : List Yaml) → whole ≡ array a → items ≡ array_list a
    → items_end w (s.shapes_of (map shape_of items)) ≡ ends_in_block w (shape_of whole)
array-end w whole a items is same =
    ap (λ ts. items_end w (s.shapes_of (map shape_of ts))) same ∙ sym (ap (ends_in_block w) (ap shape_of is ∙ shape-array a))

hash-end : (w : Blocks) (whole : Yaml) (h : Hash) (pairs : List (Yaml × Yaml)) → whole ≡ hash h → pairs ≡ hash_list h
    → pairs_end w (s.shape_pairs_of (map pair_shapes pairs)) ≡ ends_in_block w (shape_of whole)
hash-end w whole h pairs is same =
    ap (λ ps. pairs_end w (s.shape_pairs_of (map pair_shapes ps))) same ∙ sym (ap (ends_in_block w) (ap shape_of is ∙ shape-hash h))

pub array_ends : (w : Blocks) (whole : Yaml) (a : Array) (items front : List Yaml) (t : Yaml) → whole ≡ array a → items ≡ array_list a
    → items ≡ front ++ t ∷ [] → ends_child (s.block_in w (shape_of t)) (ends_in_block w (shape_of t)) ≡ ends_in_block w (shape_of whole)
array_ends w whole a items front t is same cut =
    sym (items-last w front t) ∙ ap (λ ts. items_end w (s.shapes_of (map shape_of ts))) (sym cut) ∙ array-end w whole a items is same

pub hash_ends : (w : Blocks) (whole : Yaml) (h : Hash) (pairs front : List (Yaml × Yaml)) (p : Yaml × Yaml) → whole ≡ hash h → pairs ≡ hash_list h
    → pairs ≡ front ++ p ∷ [] → ends_child (s.block_in w (shape_of p.1)) (ends_in_block w (shape_of p.1)) ≡ ends_in_block w (shape_of whole)
hash_ends w whole h pairs front p is same cut =
    sym (pairs-last w front p) ∙ ap (λ ps. pairs_end w (s.shape_pairs_of (map pair_shapes ps))) (sym cut) ∙ hash-end w whole h pairs is same

pub hash_empty : (w : Blocks) (whole : Yaml) (h : Hash) (pairs : List (Yaml × Yaml)) → whole ≡ hash h → pairs ≡ hash_list h → length pairs ≡ 0
    → false ≡ ends_in_block w (shape_of whole)
hash_empty w whole h [] is same none = hash-end w whole h [] is same
hash_empty w whole h (p ∷ ps) is same none = absurd (omega (arith, none))
