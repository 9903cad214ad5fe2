-- What is printed of each kind of `Content` that holds a list.
use Rattle.snap_emit_values.proofs.Prelude.{◌≡◌, ℕ, List, [], ◌∷◌, map, refl, sym, ap, ◌∙◌, rules, tree, item_list, item_trees, pair_list, pair_trees, field_list, field_trees, Items, Pairs, Fields, Content, content_shape, pair_shape, field_shape, byte_shape}
use Rattle.snap_content.specs.Tree as t
use Rattle.snap_content.specs.Plain as p
use Rattle.snap_content.specs.declared.content.Content as content
use Rattle.snap_emit_values.specs.Shape as s

items_shapes : (cs : List Content) → s.plain_shapes (p.plains (item_trees cs)) ≡ s.shapes_of (map content_shape cs)
items_shapes [] = refl
items_shapes (c ∷ cs) = ap (s.shape (content_shape c)) (items_shapes cs)

pairs_shapes : (ps : List (Content × Content)) → s.plain_pairs (p.pair_entries (pair_trees ps)) ≡ s.shape_pairs_of (map pair_shape ps)
pairs_shapes [] = refl
pairs_shapes (q ∷ ps) = ap (s.pair (content_shape q.0) (content_shape q.1)) (pairs_shapes ps)

fields_shapes : (fs : List (List ℕ × Content)) → s.plain_pairs (p.field_entries (field_trees fs)) ≡ s.shape_pairs_of (map field_shape fs)
fields_shapes [] = refl
fields_shapes (f ∷ fs) = ap (s.pair (s.text f.0) (content_shape f.1)) (fields_shapes fs)

bytes_shapes : (bs : List ℕ) → s.plain_shapes (p.bytes_plain bs) ≡ s.shapes_of (map byte_shape bs)
bytes_shapes [] = refl
bytes_shapes (b ∷ bs) = ap (s.shape (byte_shape b)) (bytes_shapes bs)

level : (whole made : Content) (seen : t.Tree) → whole ≡ made → tree made ≡ seen → s.plain_shape (p.plain seen) ≡ content_shape whole
level whole made seen is same = ap (λ x. s.plain_shape (p.plain x)) (sym (ap tree is ∙ same))

-- what a list and a dict are seen as
abbrev pub list_of : List Content → s.Shape
list_of cs = s.list (s.shapes_of (map content_shape cs))

abbrev pub dict_of : List (List ℕ × Content) → s.Shape
dict_of fs = s.dict (s.shape_pairs_of (map field_shape fs))

items_seen : (items : Items) (cs : List Content) → cs ≡ item_list items → list_of cs ≡ s.list (s.plain_shapes (p.plains (item_trees (item_list items))))
items_seen items cs same = ap list_of same ∙ ap s.list (sym (items_shapes (item_list items)))

fields_seen : (fields : Fields) (fs : List (List ℕ × Content)) → fs ≡ field_list fields
    → dict_of fs ≡ s.dict (s.plain_pairs (p.field_entries (field_trees (field_list fields))))
fields_seen fields fs same = ap dict_of same ∙ ap s.dict (sym (fields_shapes (field_list fields)))

pub seq_seen : (whole : Content) (items : Items) (cs : List Content) → whole ≡ content.Seq items → cs ≡ item_list items → list_of cs ≡ content_shape whole
seq_seen whole items cs is same =
    items_seen items cs same ∙ level whole (content.Seq items) (t.seq (item_trees (item_list items))) is (search (rules, content.the_lemmas))

pub tuple_seen : (whole : Content) (items : Items) (cs : List Content) → whole ≡ content.Tuple items → cs ≡ item_list items
    → list_of cs ≡ content_shape whole
tuple_seen whole items cs is same =
    items_seen items cs same ∙ level whole (content.Tuple items) (t.tuple (item_trees (item_list items))) is (search (rules, content.the_lemmas))

pub tuple_struct_seen : (whole : Content) (name : List ℕ) (items : Items) (cs : List Content) → whole ≡ content.TupleStruct name items
    → cs ≡ item_list items → list_of cs ≡ content_shape whole
tuple_struct_seen whole name items cs is same =
    items_seen items cs same
    ∙ level whole (content.TupleStruct name items) (t.tuple_struct name (item_trees (item_list items))) is (search (rules, content.the_lemmas))

pub bytes_seen : (whole : Content) (bs seen : List ℕ) → whole ≡ content.Bytes bs → seen ≡ bs
    → s.list (s.shapes_of (map byte_shape seen)) ≡ content_shape whole
bytes_seen whole bs seen is same =
    ap (λ (x : List ℕ). s.list (s.shapes_of (map byte_shape x))) same ∙ ap s.list (sym (bytes_shapes bs))
    ∙ level whole (content.Bytes bs) (t.bytes bs) is (search (rules, content.the_lemmas))

pub map_seen : (whole : Content) (pairs : Pairs) (ps : List (Content × Content)) → whole ≡ content.Map pairs → ps ≡ pair_list pairs
    → s.dict (s.shape_pairs_of (map pair_shape ps)) ≡ content_shape whole
map_seen whole pairs ps is same =
    ap (λ (x : List (Content × Content)). s.dict (s.shape_pairs_of (map pair_shape x))) same ∙ ap s.dict (sym (pairs_shapes (pair_list pairs)))
    ∙ level whole (content.Map pairs) (t.map (pair_trees (pair_list pairs))) is (search (rules, content.the_lemmas))

pub struct_seen : (whole : Content) (name : List ℕ) (fields : Fields) (fs : List (List ℕ × Content)) → whole ≡ content.Struct name fields
    → fs ≡ field_list fields → dict_of fs ≡ content_shape whole
struct_seen whole name fields fs is same =
    fields_seen fields fs same
    ∙ level whole (content.Struct name fields) (t.struct name (field_trees (field_list fields))) is (search (rules, content.the_lemmas))

-- the one pair of a variant
abbrev pub one_pair : List ℕ → s.Shape → s.Shape
one_pair name inner = s.dict (s.pair (s.text name) inner s.no_pairs)

pub tuple_variant_seen : (whole : Content) (name : List ℕ) (index : ℕ) (variant : List ℕ) (items : Items) (cs : List Content)
    → whole ≡ content.TupleVariant name index variant items → cs ≡ item_list items → one_pair variant (list_of cs) ≡ content_shape whole
tuple_variant_seen whole name index variant items cs is same =
    ap (one_pair variant) (items_seen items cs same)
    ∙ level whole (content.TupleVariant name index variant items) (t.tuple_variant name index variant (item_trees (item_list items))) is
    (search (rules, content.the_lemmas))

pub struct_variant_seen : (whole : Content) (name : List ℕ) (index : ℕ) (variant : List ℕ) (fields : Fields) (fs : List (List ℕ × Content))
    → whole ≡ content.StructVariant name index variant fields → fs ≡ field_list fields → one_pair variant (dict_of fs) ≡ content_shape whole
struct_variant_seen whole name index variant fields fs is same =
    ap (one_pair variant) (fields_seen fields fs same)
    ∙ level whole (content.StructVariant name index variant fields) (t.struct_variant name index variant (field_trees (field_list fields))) is
    (search (rules, content.the_lemmas))
