-- What is written of each kind of `Content` that holds others.
use Rattle.snap_json.proofs.Prelude.{◌≡◌, ℕ, ◌+◌, List, [], ◌∷◌, refl, sym, ap, ◌∙◌, rules, tree, item_list, item_trees, pair_list, pair_trees, field_list, field_trees, Items, Pairs, Fields, opening, closing, json_plain, json_plains, json_pairs, json_fields, Written, whole, behind, written, items_written, entries_written, member_written, all_written, further, value_written, byte_written, pair_written, field_written, bytes_written, item_list_written, pair_list_written, field_list_written, variant_written, Format}
use Rattle.snap_content.specs.Tree as t
use Rattle.snap_content.specs.Plain as p
use Rattle.snap_content.specs.declared.content.Content as content
use Rattle.snap_content.specs.declared.content.Content.{Content}
use Rattle.std.specs.declared.boxed.Box.{Box}
use Rattle.std.specs.declared.alloc.Global.{Global}
use Rattle.snap_json.proofs.Behind.{behind-assoc}

further_items : (f : Format) (n : ℕ) (cs : List Content) → all_written (further f n (value_written f n)) cs ≡ items_written f n (json_plains (item_trees cs))
further_items f n [] = refl
further_items f n (c ∷ cs) = ap (behind (further f n (value_written f n) c)) (further_items f n cs)

further_bytes : (f : Format) (n : ℕ) (bs : List ℕ) → all_written (further f n (byte_written f n)) bs ≡ items_written f n (p.bytes_plain bs)
further_bytes f n [] = refl
further_bytes f n (b ∷ bs) = ap (behind (further f n (byte_written f n) b)) (further_bytes f n bs)

further_pairs : (f : Format) (n : ℕ) (ps : List (Content × Content))
    → all_written (further f n (pair_written f n)) ps ≡ entries_written f n (json_pairs (pair_trees ps))
further_pairs f n [] = refl
further_pairs f n (q ∷ ps) = ap (behind (further f n (pair_written f n) q)) (further_pairs f n ps)

further_fields : (f : Format) (n : ℕ) (fs : List (List ℕ × Content))
    → all_written (further f n (field_written f n)) fs ≡ entries_written f n (json_fields (field_trees fs))
further_fields f n [] = refl
further_fields f n (q ∷ fs) = ap (behind (further f n (field_written f n) q)) (further_fields f n fs)

list_written : (f : Format) (k : ℕ) (cs : List Content) → item_list_written f k cs ≡ written f k (p.list (json_plains (item_trees cs)))
list_written f k [] = refl
list_written f k (c ∷ cs) =
    ap (λ rest. behind (whole (opening f (k + 2) 91)) (behind (value_written f (k + 2) c) (behind rest (whole (closing f k 93)))))
    (further_items f (k + 2) cs)

blob_written : (f : Format) (k : ℕ) (bs : List ℕ) → bytes_written f k bs ≡ written f k (p.list (p.bytes_plain bs))
blob_written f k [] = refl
blob_written f k (b ∷ bs) =
    ap (λ rest. behind (whole (opening f (k + 2) 91)) (behind (byte_written f (k + 2) b) (behind rest (whole (closing f k 93)))))
    (further_bytes f (k + 2) bs)

map_written : (f : Format) (k : ℕ) (ps : List (Content × Content)) → pair_list_written f k ps ≡ written f k (p.dict (json_pairs (pair_trees ps)))
map_written f k [] = refl
map_written f k (q ∷ ps) =
    ap (λ rest. behind (whole (opening f (k + 2) 123)) (behind (pair_written f (k + 2) q) (behind rest (whole (closing f k 125)))))
    (further_pairs f (k + 2) ps)

struct_written : (f : Format) (k : ℕ) (fs : List (List ℕ × Content)) → field_list_written f k fs ≡ written f k (p.dict (json_fields (field_trees fs)))
struct_written f k [] = refl
struct_written f k (q ∷ fs) =
    ap (λ rest. behind (whole (opening f (k + 2) 123)) (behind (field_written f (k + 2) q) (behind rest (whole (closing f k 125)))))
    (further_fields f (k + 2) fs)

named_written : (f : Format) (k : ℕ) (name : List ℕ) (v : Written) (q : p.Plain) → v ≡ written f (k + 2) q
    → variant_written f k (k + 2) name v ≡ written f k (p.named name q)
named_written f k name v q same =
    let open_part = whole (opening f (k + 2) 123) in
    let key = member_written f (p.text name) in
    ap (variant_written f k (k + 2) name) same
    ∙ behind-assoc open_part key (behind (written f (k + 2) q) (whole (closing f k 125)))
    ∙ ap (behind open_part) (sym (behind-assoc key (written f (k + 2) q) (whole (closing f k 125))))

level : (f : Format) (k : ℕ) (value made : Content) (shape : t.Tree) → value ≡ made → tree made ≡ shape
    → written f k (json_plain shape) ≡ value_written f k value
level f k value made shape is seen = ap (λ x. written f k (json_plain x)) (sym (ap tree is ∙ seen))

pub of_seq : (f : Format) (k : ℕ) (value : Content) (items : Items) (slice : List Content) → value ≡ content.Seq items → slice ≡ item_list items
    → item_list_written f k slice ≡ value_written f k value
of_seq f k value items slice is same =
    ap (item_list_written f k) same ∙ list_written f k (item_list items)
    ∙ level f k value (content.Seq items) (t.seq (item_trees (item_list items))) is (search (rules, content.the_lemmas))

pub of_tuple : (f : Format) (k : ℕ) (value : Content) (items : Items) (slice : List Content) → value ≡ content.Tuple items → slice ≡ item_list items
    → item_list_written f k slice ≡ value_written f k value
of_tuple f k value items slice is same =
    ap (item_list_written f k) same ∙ list_written f k (item_list items)
    ∙ level f k value (content.Tuple items) (t.tuple (item_trees (item_list items))) is (search (rules, content.the_lemmas))

pub of_tuple_struct : (f : Format) (k : ℕ) (value : Content) (name : List ℕ) (items : Items) (slice : List Content) → value ≡ content.TupleStruct name items
    → slice ≡ item_list items → item_list_written f k slice ≡ value_written f k value
of_tuple_struct f k value name items slice is same =
    ap (item_list_written f k) same ∙ list_written f k (item_list items)
    ∙ level f k value (content.TupleStruct name items) (t.tuple_struct name (item_trees (item_list items))) is (search (rules, content.the_lemmas))

pub of_map : (f : Format) (k : ℕ) (value : Content) (pairs : Pairs) (slice : List (Content × Content)) → value ≡ content.Map pairs
    → slice ≡ pair_list pairs → pair_list_written f k slice ≡ value_written f k value
of_map f k value pairs slice is same =
    ap (pair_list_written f k) same ∙ map_written f k (pair_list pairs)
    ∙ level f k value (content.Map pairs) (t.map (pair_trees (pair_list pairs))) is (search (rules, content.the_lemmas))

pub of_struct : (f : Format) (k : ℕ) (value : Content) (name : List ℕ) (fields : Fields) (slice : List (List ℕ × Content))
    → value ≡ content.Struct name fields → slice ≡ field_list fields → field_list_written f k slice ≡ value_written f k value
of_struct f k value name fields slice is same =
    ap (field_list_written f k) same ∙ struct_written f k (field_list fields)
    ∙ level f k value (content.Struct name fields) (t.struct name (field_trees (field_list fields))) is (search (rules, content.the_lemmas))

pub of_bytes : (f : Format) (k : ℕ) (value : Content) (bs slice : List ℕ) → value ≡ content.Bytes bs → slice ≡ bs
    → bytes_written f k slice ≡ value_written f k value
of_bytes f k value bs slice is same =
    ap (bytes_written f k) same ∙ blob_written f k bs ∙ level f k value (content.Bytes bs) (t.bytes bs) is (search (rules, content.the_lemmas))

pub of_newtype_variant : (f : Format) (k : ℕ) (value : Content) (name : List ℕ) (index : ℕ) (variant : List ℕ) (inner : Box Content Global)
    (held : Content) → value ≡ content.NewtypeVariant name index variant inner → held ≡ inner.value
    → variant_written f k (k + 2) variant (value_written f (k + 2) held) ≡ value_written f k value
of_newtype_variant f k value name index variant inner held is same =
    named_written f k variant (value_written f (k + 2) held) (json_plain (tree inner.value)) (ap (value_written f (k + 2)) same)
    ∙ level f k value (content.NewtypeVariant name index variant inner) (t.newtype_variant name index variant (tree inner.value)) is
    (search (rules, content.the_lemmas))

pub of_tuple_variant : (f : Format) (k : ℕ) (value : Content) (name : List ℕ) (index : ℕ) (variant : List ℕ) (items : Items) (slice : List Content)
    → value ≡ content.TupleVariant name index variant items → slice ≡ item_list items
    → variant_written f k (k + 2) variant (item_list_written f (k + 2) slice) ≡ value_written f k value
of_tuple_variant f k value name index variant items slice is same =
    named_written f k variant (item_list_written f (k + 2) slice) (p.list (json_plains (item_trees (item_list items))))
    (ap (item_list_written f (k + 2)) same ∙ list_written f (k + 2) (item_list items))
    ∙ level f k value (content.TupleVariant name index variant items) (t.tuple_variant name index variant (item_trees (item_list items))) is
    (search (rules, content.the_lemmas))

pub of_struct_variant : (f : Format) (k : ℕ) (value : Content) (name : List ℕ) (index : ℕ) (variant : List ℕ) (fields : Fields)
    (slice : List (List ℕ × Content)) → value ≡ content.StructVariant name index variant fields → slice ≡ field_list fields
    → variant_written f k (k + 2) variant (field_list_written f (k + 2) slice) ≡ value_written f k value
of_struct_variant f k value name index variant fields slice is same =
    named_written f k variant (field_list_written f (k + 2) slice) (p.dict (json_fields (field_trees (field_list fields))))
    (ap (field_list_written f (k + 2)) same ∙ struct_written f (k + 2) (field_list fields))
    ∙ level f k value (content.StructVariant name index variant fields) (t.struct_variant name index variant (field_trees (field_list fields))) is
    (search (rules, content.the_lemmas))
