-- What a redaction hits it changes, where it puts another tree there, and nothing else.
use Rattle.snap_explain_values.proofs.Prelude.{◌≡◌, ◌||◌, ℕ, suc, Bool, true, false, cond, List, [], ◌∷◌, ◌++◌, codes, refl, ap, ◌∙◌, or_left, or_right, Step, path_match, to_item, into_field, under_key, Parts, count_of, redacted, inside, redacted_items, redacted_pairs, redacted_fields, hits, hits_inside, hits_items, hits_pairs, hits_fields}
use Rattle.snap_content.specs.Tree as t

-- a tree at a path that isn't matched, and in which nothing is
stays : (m h : Bool) (now other c : t.Tree) → (h ≡ false → other ≡ c) → (m || h) ≡ false → cond m now other ≡ c
stays true h now other c inner e = absurd (cc e)
stays false h now other c inner e = inner e

module _ (ss : Parts) (put : t.Tree → t.Tree) where
  same_at : (path : List Step) (c : t.Tree) → (hits_inside ss path c ≡ false → inside ss put path c ≡ c) → hits ss path c ≡ false → redacted ss put path c ≡ c
  same_at path c = stays (path_match ss path) (hits_inside ss path c) (put c) (inside ss put path c) c

  mutual
    same_inside : (path : List Step) (c : t.Tree) → hits_inside ss path c ≡ false → inside ss put path c ≡ c
    same_inside path (t.some inner) e = ap t.some (same_at path inner (same_inside path inner) e)
    same_inside path (t.newtype_struct name inner) e = ap (λ x. t.newtype_struct name x) (same_at path inner (same_inside path inner) e)
    same_inside path (t.newtype_variant name index variant inner) e = ap (λ x. t.newtype_variant name index variant x) (same_at path inner (same_inside path inner) e)
    same_inside path (t.seq items) e = ap t.seq (same_items path (count_of items) 0 items e)
    same_inside path (t.tuple items) e = ap t.tuple (same_items path (count_of items) 0 items e)
    same_inside path (t.tuple_struct name items) e = ap (λ x. t.tuple_struct name x) (same_items path (count_of items) 0 items e)
    same_inside path (t.tuple_variant name index variant items) e = ap (λ x. t.tuple_variant name index variant x) (same_items path (count_of items) 0 items e)
    same_inside path (t.map pairs) e = ap t.map (same_pairs path pairs e)
    same_inside path (t.struct name fields) e = ap (λ x. t.struct name x) (same_fields path fields e)
    same_inside path (t.struct_variant name index variant fields) e = ap (λ x. t.struct_variant name index variant x) (same_fields path fields e)
    same_inside path other e = refl

    same_items : (path : List Step) (total index : ℕ) (items : t.Trees) → hits_items ss path total index items ≡ false → redacted_items ss put path total index items ≡ items
    same_items path total index t.no_trees e = refl
    same_items path total index (t.tree first rest) e =
        let here = path ++ to_item index total ∷ [] in
        ap (λ x. t.tree x (redacted_items ss put path total (suc index) rest)) (same_at here first (same_inside here first) (or_left _ (hits_items ss path total (suc index) rest) e))
        ∙ ap (λ x. t.tree first x) (same_items path total (suc index) rest (or_right (hits ss here first) _ e))

    same_pairs : (path : List Step) (pairs : t.TreePairs) → hits_pairs ss path pairs ≡ false → redacted_pairs ss put path pairs ≡ pairs
    same_pairs path t.no_pairs e = refl
    same_pairs path (t.pair key value rest) e =
        let at_key = path ++ into_field (codes "$key") ∷ [] in
        let at_value = path ++ under_key key ∷ [] in
        let later : (hits ss at_value value || hits_pairs ss path rest) ≡ false = or_right (hits ss at_key key) _ e in
        ap (λ x. t.pair x (redacted ss put at_value value) (redacted_pairs ss put path rest))
        (same_at at_key key (same_inside at_key key) (or_left _ (hits ss at_value value || hits_pairs ss path rest) e))
        ∙ ap (λ x. t.pair key x (redacted_pairs ss put path rest)) (same_at at_value value (same_inside at_value value) (or_left _ (hits_pairs ss path rest) later))
        ∙ ap (λ x. t.pair key value x) (same_pairs path rest (or_right (hits ss at_value value) _ later))

    same_fields : (path : List Step) (fields : t.TreeFields) → hits_fields ss path fields ≡ false → redacted_fields ss put path fields ≡ fields
    same_fields path t.no_fields e = refl
    same_fields path (t.field name value rest) e =
        let here = path ++ into_field name ∷ [] in
        ap (λ x. t.field name x (redacted_fields ss put path rest)) (same_at here value (same_inside here value) (or_left _ (hits_fields ss path rest) e))
        ∙ ap (λ x. t.field name value x) (same_fields path rest (or_right (hits ss here value) _ e))

  pub unhit_stays : (c : t.Tree) → hits ss [] c ≡ false → redacted ss put [] c ≡ c
  unhit_stays c = same_at [] c (same_inside [] c)

none_of : (a b : Bool) → a ≡ false → b ≡ false → (a || b) ≡ false
none_of true b e f = e
none_of false b e f = f

-- a tree that two redactions leave at its path
unmatched : (m h : Bool) (now then other another c : t.Tree) → (now ≡ c → then ≡ c → ⊥) → (other ≡ c → another ≡ c → h ≡ false) → cond m now other ≡ c → cond m then another ≡ c
    → (m || h) ≡ false
unmatched true h now then other another c apart inner e f = absurd (apart e f)
unmatched false h now then other another c apart inner e f = inner e f

-- where no tree is put in place of itself by both, what both leave is hit by neither
module _ (ss : Parts) (one two : t.Tree → t.Tree) (apart : (c : t.Tree) → one c ≡ c → two c ≡ c → ⊥) where
  left_at : (path : List Step) (c : t.Tree) → (inside ss one path c ≡ c → inside ss two path c ≡ c → hits_inside ss path c ≡ false) → redacted ss one path c ≡ c → redacted ss two path c ≡ c
      → hits ss path c ≡ false
  left_at path c = unmatched (path_match ss path) (hits_inside ss path c) (one c) (two c) (inside ss one path c) (inside ss two path c) c (apart c)

  mutual
    left_inside : (path : List Step) (c : t.Tree) → inside ss one path c ≡ c → inside ss two path c ≡ c → hits_inside ss path c ≡ false
    left_inside path (t.some inner) e f = left_at path inner (left_inside path inner) (cc e) (cc f)
    left_inside path (t.newtype_struct name inner) e f = left_at path inner (left_inside path inner) (cc e) (cc f)
    left_inside path (t.newtype_variant name index variant inner) e f = left_at path inner (left_inside path inner) (cc e) (cc f)
    left_inside path (t.seq items) e f = left_items path (count_of items) 0 items (cc e) (cc f)
    left_inside path (t.tuple items) e f = left_items path (count_of items) 0 items (cc e) (cc f)
    left_inside path (t.tuple_struct name items) e f = left_items path (count_of items) 0 items (cc e) (cc f)
    left_inside path (t.tuple_variant name index variant items) e f = left_items path (count_of items) 0 items (cc e) (cc f)
    left_inside path (t.map pairs) e f = left_pairs path pairs (cc e) (cc f)
    left_inside path (t.struct name fields) e f = left_fields path fields (cc e) (cc f)
    left_inside path (t.struct_variant name index variant fields) e f = left_fields path fields (cc e) (cc f)
    left_inside path other e f = refl

    left_items : (path : List Step) (total index : ℕ) (items : t.Trees) → redacted_items ss one path total index items ≡ items → redacted_items ss two path total index items ≡ items
        → hits_items ss path total index items ≡ false
    left_items path total index t.no_trees e f = refl
    left_items path total index (t.tree first rest) e f =
        let here = path ++ to_item index total ∷ [] in
        none_of _ _ (left_at here first (left_inside here first) (cc e) (cc f)) (left_items path total (suc index) rest (cc e) (cc f))

    left_pairs : (path : List Step) (pairs : t.TreePairs) → redacted_pairs ss one path pairs ≡ pairs → redacted_pairs ss two path pairs ≡ pairs → hits_pairs ss path pairs ≡ false
    left_pairs path t.no_pairs e f = refl
    left_pairs path (t.pair key value rest) e f =
        let at_key = path ++ into_field (codes "$key") ∷ [] in
        let at_value = path ++ under_key key ∷ [] in
        none_of _ _ (left_at at_key key (left_inside at_key key) (cc e) (cc f))
        (none_of _ _ (left_at at_value value (left_inside at_value value) (cc e) (cc f)) (left_pairs path rest (cc e) (cc f)))

    left_fields : (path : List Step) (fields : t.TreeFields) → redacted_fields ss one path fields ≡ fields → redacted_fields ss two path fields ≡ fields → hits_fields ss path fields ≡ false
    left_fields path t.no_fields e f = refl
    left_fields path (t.field name value rest) e f =
        let here = path ++ into_field name ∷ [] in
        none_of _ _ (left_at here value (left_inside here value) (cc e) (cc f)) (left_fields path rest (cc e) (cc f))

  pub left_is_unhit : (c : t.Tree) → redacted ss one [] c ≡ c → redacted ss two [] c ≡ c → hits ss [] c ≡ false
  left_is_unhit c = left_at [] c (left_inside [] c)
