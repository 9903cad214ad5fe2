-- Numbers of 128 bits: of what a tree holds, and of the tree.
use Rattle.snap_json.proofs.Prelude.{◌≡◌, ℕ, ◌+◌, ◌<◌, List, [], ◌∷◌, length, take, get_or, sym, ap, ◌∙◌, subst, rules, Option, None, Some, All, Result, Ok, Err, OnOk, on_ok_weaker, key_plain, json_key, json_plain, json_plains, json_pairs, json_fields, tree, item_list, item_trees, pair_list, pair_trees, field_list, field_trees, Items, Pairs, Fields, IsWithin, AreWithin, AreEntriesWithin, IsKeptWithin, IsPairWithin, IsFieldWithin, IsByteWithin, JsonError}
use Rattle.std.proofs.lemmas.List.Elements.{All-cons, All-more, All-head, All-tail}
use Rattle.snap_content.specs.Tree as t
use Rattle.snap_content.specs.Plain as p
use Rattle.snap_content.specs.declared.content.Content as content
use Rattle.snap_content.specs.declared.content.Content.{Content}
use Rattle.std.specs.declared.boxed.Box.{Box}
use Rattle.std.specs.declared.alloc.Global.{Global}

-- one more of the further elements
pub all_more : {X : Type 0} (P : X → Type 0) (xs : List X) (i : ℕ) (x : X) → i < length xs → x ≡ get_or xs i x → All P (take i xs) → P x
    → All P (take (i + 1) xs)
all_more P xs i x below at so_far h = All-more P xs i x below so_far (subst P at h)

-- the first element and all further ones
pub all_in : {X : Type 0} (P : X → Type 0) (items xs : List X) (x : X) (i : ℕ) → items ≡ x ∷ xs → P x → All P (take i xs) → take i xs ≡ xs → All P items
all_in P items xs x i is first further all = subst (All P) (sym is) (All-cons P x xs first (subst (All P) all further))

items_within : (cs : List Content) → All IsKeptWithin cs → AreWithin (json_plains (item_trees cs))
items_within [] h = tt
items_within (c ∷ cs) h = (All-head IsKeptWithin c cs h, items_within cs (All-tail IsKeptWithin c cs h))

bytes_within : (bs : List ℕ) → All IsByteWithin bs → AreWithin (p.bytes_plain bs)
bytes_within [] h = tt
bytes_within (b ∷ bs) h = (All-head IsByteWithin b bs h, bytes_within bs (All-tail IsByteWithin b bs h))

key_within : (key : Option (List ℕ)) → IsWithin (key_plain key)
key_within None = tt
key_within (Some s) = tt

pairs_within : (qs : List (Content × Content)) → All IsPairWithin qs → AreEntriesWithin (json_pairs (pair_trees qs))
pairs_within [] h = tt
pairs_within (q ∷ qs) h = (key_within (json_key (tree q.0)), (All-head IsPairWithin q qs h, pairs_within qs (All-tail IsPairWithin q qs h)))

fields_within : (fs : List (List ℕ × Content)) → All IsFieldWithin fs → AreEntriesWithin (json_fields (field_trees fs))
fields_within [] h = tt
fields_within (f ∷ fs) h = (tt, (All-head IsFieldWithin f fs h, fields_within fs (All-tail IsFieldWithin f fs h)))

-- a value, from the tree that it is
level : (value made : Content) (shape : t.Tree) → value ≡ made → tree made ≡ shape → IsWithin (json_plain shape) → IsKeptWithin value
level value made shape is seen h = subst (λ x. IsWithin (json_plain x)) (sym (ap tree is ∙ seen)) h

pub within_bytes : (r : Result (Unit {0}) JsonError) (value : Content) (bs slice : List ℕ) → value ≡ content.Bytes bs → slice ≡ bs
    → OnOk r (All IsByteWithin slice) → OnOk r (IsKeptWithin value)
within_bytes r value bs slice is same h =
    on_ok_weaker r
    (λ k. level value (content.Bytes bs) (t.bytes bs) is (search (rules, content.the_lemmas)) (bytes_within bs (subst (All IsByteWithin) same k))) h

pub within_seq : (r : Result (Unit {0}) JsonError) (value : Content) (items : Items) (slice : List Content) → value ≡ content.Seq items
    → slice ≡ item_list items → OnOk r (All IsKeptWithin slice) → OnOk r (IsKeptWithin value)
within_seq r value items slice is same h =
    on_ok_weaker r
    (λ k. level value (content.Seq items) (t.seq (item_trees (item_list items))) is (search (rules, content.the_lemmas)) (items_within (item_list items) (subst (All IsKeptWithin) same k))) h

pub within_tuple : (r : Result (Unit {0}) JsonError) (value : Content) (items : Items) (slice : List Content) → value ≡ content.Tuple items
    → slice ≡ item_list items → OnOk r (All IsKeptWithin slice) → OnOk r (IsKeptWithin value)
within_tuple r value items slice is same h =
    on_ok_weaker r
    (λ k. level value (content.Tuple items) (t.tuple (item_trees (item_list items))) is (search (rules, content.the_lemmas)) (items_within (item_list items) (subst (All IsKeptWithin) same k))) h

pub within_tuple_struct : (r : Result (Unit {0}) JsonError) (value : Content) (name : List ℕ) (items : Items) (slice : List Content)
    → value ≡ content.TupleStruct name items → slice ≡ item_list items → OnOk r (All IsKeptWithin slice) → OnOk r (IsKeptWithin value)
within_tuple_struct r value name items slice is same h =
    on_ok_weaker r
    (λ k. level value (content.TupleStruct name items) (t.tuple_struct name (item_trees (item_list items))) is (search (rules, content.the_lemmas)) (items_within (item_list items) (subst (All IsKeptWithin) same k))) h

pub within_map : (r : Result (Unit {0}) JsonError) (value : Content) (pairs : Pairs) (slice : List (Content × Content)) → value ≡ content.Map pairs
    → slice ≡ pair_list pairs → OnOk r (All IsPairWithin slice) → OnOk r (IsKeptWithin value)
within_map r value pairs slice is same h =
    on_ok_weaker r
    (λ k. level value (content.Map pairs) (t.map (pair_trees (pair_list pairs))) is (search (rules, content.the_lemmas)) (pairs_within (pair_list pairs) (subst (All IsPairWithin) same k))) h

pub within_struct : (r : Result (Unit {0}) JsonError) (value : Content) (name : List ℕ) (fields : Fields) (slice : List (List ℕ × Content))
    → value ≡ content.Struct name fields → slice ≡ field_list fields → OnOk r (All IsFieldWithin slice) → OnOk r (IsKeptWithin value)
within_struct r value name fields slice is same h =
    on_ok_weaker r
    (λ k. level value (content.Struct name fields) (t.struct name (field_trees (field_list fields))) is (search (rules, content.the_lemmas)) (fields_within (field_list fields) (subst (All IsFieldWithin) same k))) h

pub within_newtype_variant : (r : Result (Unit {0}) JsonError) (value : Content) (name : List ℕ) (index : ℕ) (variant : List ℕ)
    (inner : Box Content Global) (held : Content) → value ≡ content.NewtypeVariant name index variant inner → held ≡ inner.value
    → OnOk r (IsKeptWithin held) → OnOk r (IsKeptWithin value)
within_newtype_variant r value name index variant inner held is same h =
    on_ok_weaker r
    (λ k. level value (content.NewtypeVariant name index variant inner) (t.newtype_variant name index variant (tree inner.value)) is (search (rules, content.the_lemmas)) (tt, (subst IsKeptWithin same k, tt))) h

pub within_tuple_variant : (r : Result (Unit {0}) JsonError) (value : Content) (name : List ℕ) (index : ℕ) (variant : List ℕ) (items : Items)
    (slice : List Content) → value ≡ content.TupleVariant name index variant items → slice ≡ item_list items
    → OnOk r (All IsKeptWithin slice) → OnOk r (IsKeptWithin value)
within_tuple_variant r value name index variant items slice is same h =
    on_ok_weaker r
    (λ k. level value (content.TupleVariant name index variant items) (t.tuple_variant name index variant (item_trees (item_list items))) is (search (rules, content.the_lemmas)) (tt, (items_within (item_list items) (subst (All IsKeptWithin) same k), tt))) h

pub within_struct_variant : (r : Result (Unit {0}) JsonError) (value : Content) (name : List ℕ) (index : ℕ) (variant : List ℕ) (fields : Fields)
    (slice : List (List ℕ × Content)) → value ≡ content.StructVariant name index variant fields → slice ≡ field_list fields
    → OnOk r (All IsFieldWithin slice) → OnOk r (IsKeptWithin value)
within_struct_variant r value name index variant fields slice is same h =
    on_ok_weaker r
    (λ k. level value (content.StructVariant name index variant fields) (t.struct_variant name index variant (field_trees (field_list fields))) is (search (rules, content.the_lemmas)) (tt, (fields_within (field_list fields) (subst (All IsFieldWithin) same k), tt))) h

-- what holds whatever is answered
pub on_ok_with : {Q : Type 0} (r : Result (Unit {0}) JsonError) → Q → OnOk r Q
on_ok_with (Ok x) q = q
on_ok_with (Err e) q = tt
