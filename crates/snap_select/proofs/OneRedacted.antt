-- Where the tree that is put follows from the value alone, one tree is redacted, and it is named; and what one relation allows, a weaker one allows.
use Rattle.snap_select.proofs.Prelude.{◌≡◌, ℕ, suc, Bool, true, false, MatchBool, List, [], ◌∷◌, ◌++◌, cond, refl, sym, ap, ◌∙◌, codes, Step, path_match, to_item, into_field, under_key, Parts, count_of, Allowed, redacted, redacted_items, redacted_pairs, redacted_fields, Inside, ItemsRedacted, PairsRedacted, FieldsRedacted, RedactedAt, IsRedacted, only}
use Rattle.snap_content.specs.Tree as t
use Rattle.snap_select.specs.Redacted.{inside}

-- where what two relations allow is one tree, the trees that they redact are one
module _ (ss : Parts) (a b : Allowed) (one : (c : t.Tree) (steps : List Step) (x y : t.Tree) → a c steps x → b c steps y → x ≡ y) where
  one_at : (path : List Step) (c x y : t.Tree) → (Inside ss a path c x → Inside ss b path c y → x ≡ y) → RedactedAt ss a path c x → RedactedAt ss b path c y → x ≡ y
  one_at path c x y inside = by (path_match ss path)
    where
      by : (m : Bool) → MatchBool m (a c path x) (Inside ss a path c x) → MatchBool m (b c path y) (Inside ss b path c y) → x ≡ y
      by true p q = one c path x y p q
      by false p q = inside p q

  mutual
    one_inside : (path : List Step) (c x y : t.Tree) → Inside ss a path c x → Inside ss b path c y → x ≡ y
    one_inside path (t.some inner) x y p q = p.1 ∙ ap t.some (one_at path inner p.0 q.0 (one_inside path inner p.0 q.0) p.2 q.2) ∙ sym q.1
    one_inside path (t.newtype_struct name inner) x y p q =
        p.1 ∙ ap (λ v. t.newtype_struct name v) (one_at path inner p.0 q.0 (one_inside path inner p.0 q.0) p.2 q.2) ∙ sym q.1
    one_inside path (t.newtype_variant name index variant inner) x y p q =
        p.1 ∙ ap (λ v. t.newtype_variant name index variant v) (one_at path inner p.0 q.0 (one_inside path inner p.0 q.0) p.2 q.2) ∙ sym q.1
    one_inside path (t.seq items) x y p q = p.1 ∙ ap t.seq (one_items path (count_of items) 0 items p.0 q.0 p.2 q.2) ∙ sym q.1
    one_inside path (t.tuple items) x y p q = p.1 ∙ ap t.tuple (one_items path (count_of items) 0 items p.0 q.0 p.2 q.2) ∙ sym q.1
    one_inside path (t.tuple_struct name items) x y p q =
        p.1 ∙ ap (λ v. t.tuple_struct name v) (one_items path (count_of items) 0 items p.0 q.0 p.2 q.2) ∙ sym q.1
    one_inside path (t.tuple_variant name index variant items) x y p q =
        p.1 ∙ ap (λ v. t.tuple_variant name index variant v) (one_items path (count_of items) 0 items p.0 q.0 p.2 q.2) ∙ sym q.1
    one_inside path (t.map pairs) x y p q = p.1 ∙ ap t.map (one_pairs path pairs p.0 q.0 p.2 q.2) ∙ sym q.1
    one_inside path (t.struct name fields) x y p q = p.1 ∙ ap (λ v. t.struct name v) (one_fields path fields p.0 q.0 p.2 q.2) ∙ sym q.1
    one_inside path (t.struct_variant name index variant fields) x y p q =
        p.1 ∙ ap (λ v. t.struct_variant name index variant v) (one_fields path fields p.0 q.0 p.2 q.2) ∙ sym q.1
    one_inside path other x y p q = p ∙ sym q

    one_items : (path : List Step) (total index : ℕ) (items x y : t.Trees) → ItemsRedacted ss a path total index items x → ItemsRedacted ss b path total index items y → x ≡ y
    one_items path total index t.no_trees x y p q = p ∙ sym q
    one_items path total index (t.tree first rest) x y p q =
        let here = path ++ to_item index total ∷ [] in
        p.2 ∙ ap (λ v. t.tree v p.1) (one_at here first p.0 q.0 (one_inside here first p.0 q.0) p.3 q.3)
        ∙ ap (λ v. t.tree q.0 v) (one_items path total (suc index) rest p.1 q.1 p.4 q.4) ∙ sym q.2

    one_pairs : (path : List Step) (pairs x y : t.TreePairs) → PairsRedacted ss a path pairs x → PairsRedacted ss b path pairs y → x ≡ y
    one_pairs path t.no_pairs x y p q = p ∙ sym q
    one_pairs path (t.pair key value rest) x y p q =
        let at_key = path ++ into_field (codes "$key") ∷ [] in
        let at_value = path ++ under_key key ∷ [] in
        p.3 ∙ ap (λ v. t.pair v p.1 p.2) (one_at at_key key p.0 q.0 (one_inside at_key key p.0 q.0) p.4 q.4)
        ∙ ap (λ v. t.pair q.0 v p.2) (one_at at_value value p.1 q.1 (one_inside at_value value p.1 q.1) p.5 q.5)
        ∙ ap (λ v. t.pair q.0 q.1 v) (one_pairs path rest p.2 q.2 p.6 q.6) ∙ sym q.3

    one_fields : (path : List Step) (fields x y : t.TreeFields) → FieldsRedacted ss a path fields x → FieldsRedacted ss b path fields y → x ≡ y
    one_fields path t.no_fields x y p q = p ∙ sym q
    one_fields path (t.field name value rest) x y p q =
        let here = path ++ into_field name ∷ [] in
        p.2 ∙ ap (λ v. t.field name v p.1) (one_at here value p.0 q.0 (one_inside here value p.0 q.0) p.3 q.3)
        ∙ ap (λ v. t.field name q.0 v) (one_fields path rest p.1 q.1 p.4 q.4) ∙ sym q.2

  pub agree : (c x y : t.Tree) → IsRedacted ss a c x → IsRedacted ss b c y → x ≡ y
  agree c x y p q = one_at [] c x y (one_inside [] c x y) p.parts q.parts

-- the named tree is redacted
named_cases : (b : Bool) (now other : t.Tree) (Else : t.Tree → Type 0) → Else other → MatchBool b (cond b now other ≡ now) (Else (cond b now other))
named_cases true now other Else p = refl
named_cases false now other Else p = p

module _ (ss : Parts) (put : t.Tree → t.Tree) where
  named_at : (path : List Step) (c : t.Tree) → Inside ss (only put) path c (inside ss put path c) → RedactedAt ss (only put) path c (redacted ss put path c)
  named_at path c = named_cases (path_match ss path) (put c) (inside ss put path c) (Inside ss (only put) path c)

  mutual
    named_inside : (path : List Step) (c : t.Tree) → Inside ss (only put) path c (inside ss put path c)
    named_inside path (t.some inner) = (redacted ss put path inner, refl, named_at path inner (named_inside path inner))
    named_inside path (t.newtype_struct name inner) = (redacted ss put path inner, refl, named_at path inner (named_inside path inner))
    named_inside path (t.newtype_variant name index variant inner) = (redacted ss put path inner, refl, named_at path inner (named_inside path inner))
    named_inside path (t.seq items) = (redacted_items ss put path (count_of items) 0 items, refl, named_items path (count_of items) 0 items)
    named_inside path (t.tuple items) = (redacted_items ss put path (count_of items) 0 items, refl, named_items path (count_of items) 0 items)
    named_inside path (t.tuple_struct name items) = (redacted_items ss put path (count_of items) 0 items, refl, named_items path (count_of items) 0 items)
    named_inside path (t.tuple_variant name index variant items) = (redacted_items ss put path (count_of items) 0 items, refl, named_items path (count_of items) 0 items)
    named_inside path (t.map pairs) = (redacted_pairs ss put path pairs, refl, named_pairs path pairs)
    named_inside path (t.struct name fields) = (redacted_fields ss put path fields, refl, named_fields path fields)
    named_inside path (t.struct_variant name index variant fields) = (redacted_fields ss put path fields, refl, named_fields path fields)
    named_inside path other = refl

    named_items : (path : List Step) (total index : ℕ) (items : t.Trees) → ItemsRedacted ss (only put) path total index items (redacted_items ss put path total index items)
    named_items path total index t.no_trees = refl
    named_items path total index (t.tree first rest) =
        let here = path ++ to_item index total ∷ [] in
        (redacted ss put here first, redacted_items ss put path total (suc index) rest, refl, named_at here first (named_inside here first), named_items path total (suc index) rest)

    named_pairs : (path : List Step) (pairs : t.TreePairs) → PairsRedacted ss (only put) path pairs (redacted_pairs ss put path pairs)
    named_pairs path t.no_pairs = refl
    named_pairs path (t.pair key value rest) =
        let at_key = path ++ into_field (codes "$key") ∷ [] in
        let at_value = path ++ under_key key ∷ [] in
        (_, _, _, refl, named_at at_key key (named_inside at_key key), named_at at_value value (named_inside at_value value), named_pairs path rest)

    named_fields : (path : List Step) (fields : t.TreeFields) → FieldsRedacted ss (only put) path fields (redacted_fields ss put path fields)
    named_fields path t.no_fields = refl
    named_fields path (t.field name value rest) =
        let here = path ++ into_field name ∷ [] in
        (redacted ss put here value, redacted_fields ss put path rest, refl, named_at here value (named_inside here value), named_fields path rest)

  pub named_redacted : (c : t.Tree) → IsRedacted ss (only put) c (redacted ss put [] c)
  named_redacted c = record { parts = named_at [] c (named_inside [] c) }

pub one_redacted : (ss : Parts) (put : t.Tree → t.Tree) (c out : t.Tree) → IsRedacted ss (only put) c out → out ≡ redacted ss put [] c
one_redacted ss put c out p = agree ss (only put) (only put) (λ c steps x y e f. e ∙ sym f) c out (redacted ss put [] c) p (named_redacted ss put c)

put_weaker : (m : Bool) (P Q R S : Type 0) → (P → Q) → (R → S) → MatchBool m P R → MatchBool m Q S
put_weaker true P Q R S f g p = f p
put_weaker false P Q R S f g r = g r

module _ (ss : Parts) (a b : Allowed) (weaker : (c : t.Tree) (steps : List Step) (out : t.Tree) → a c steps out → b c steps out) where
  at_weaker : (path : List Step) (c out : t.Tree) → (Inside ss a path c out → Inside ss b path c out) → RedactedAt ss a path c out → RedactedAt ss b path c out
  at_weaker path c out =
      put_weaker (path_match ss path) (a c path out) (b c path out) (Inside ss a path c out) (Inside ss b path c out) (weaker c path out)

  mutual
    inside_weaker : (path : List Step) (c out : t.Tree) → Inside ss a path c out → Inside ss b path c out
    inside_weaker path (t.some inner) out p = (p.0, p.1, at_weaker path inner p.0 (inside_weaker path inner p.0) p.2)
    inside_weaker path (t.newtype_struct name inner) out p = (p.0, p.1, at_weaker path inner p.0 (inside_weaker path inner p.0) p.2)
    inside_weaker path (t.newtype_variant name index variant inner) out p = (p.0, p.1, at_weaker path inner p.0 (inside_weaker path inner p.0) p.2)
    inside_weaker path (t.seq items) out p = (p.0, p.1, items_weaker path (count_of items) 0 items p.0 p.2)
    inside_weaker path (t.tuple items) out p = (p.0, p.1, items_weaker path (count_of items) 0 items p.0 p.2)
    inside_weaker path (t.tuple_struct name items) out p = (p.0, p.1, items_weaker path (count_of items) 0 items p.0 p.2)
    inside_weaker path (t.tuple_variant name index variant items) out p = (p.0, p.1, items_weaker path (count_of items) 0 items p.0 p.2)
    inside_weaker path (t.map pairs) out p = (p.0, p.1, pairs_weaker path pairs p.0 p.2)
    inside_weaker path (t.struct name fields) out p = (p.0, p.1, fields_weaker path fields p.0 p.2)
    inside_weaker path (t.struct_variant name index variant fields) out p = (p.0, p.1, fields_weaker path fields p.0 p.2)
    inside_weaker path other out p = p

    items_weaker : (path : List Step) (total index : ℕ) (items out : t.Trees) → ItemsRedacted ss a path total index items out → ItemsRedacted ss b path total index items out
    items_weaker path total index t.no_trees out p = p
    items_weaker path total index (t.tree first rest) out p =
        (p.0, p.1, p.2, at_weaker (path ++ to_item index total ∷ []) first p.0 (inside_weaker (path ++ to_item index total ∷ []) first p.0) p.3, items_weaker path total (suc index) rest p.1 p.4)

    pairs_weaker : (path : List Step) (pairs out : t.TreePairs) → PairsRedacted ss a path pairs out → PairsRedacted ss b path pairs out
    pairs_weaker path t.no_pairs out p = p
    pairs_weaker path (t.pair key value rest) out p =
        let at_key = path ++ into_field (codes "$key") ∷ [] in
        let at_value = path ++ under_key key ∷ [] in
        (p.0, p.1, p.2, p.3, at_weaker at_key key p.0 (inside_weaker at_key key p.0) p.4, at_weaker at_value value p.1 (inside_weaker at_value value p.1) p.5, pairs_weaker path rest p.2 p.6)

    fields_weaker : (path : List Step) (fields out : t.TreeFields) → FieldsRedacted ss a path fields out → FieldsRedacted ss b path fields out
    fields_weaker path t.no_fields out p = p
    fields_weaker path (t.field name value rest) out p =
        (p.0, p.1, p.2, at_weaker (path ++ into_field name ∷ []) value p.0 (inside_weaker (path ++ into_field name ∷ []) value p.0) p.3, fields_weaker path rest p.1 p.4)

  pub weaker_redacted : (c out : t.Tree) → IsRedacted ss a c out → IsRedacted ss b c out
  weaker_redacted c out p = record { parts = at_weaker [] c out (inside_weaker [] c out) p.parts }
