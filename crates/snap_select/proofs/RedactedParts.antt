-- A tree that is redacted part by part is one that a redaction makes.
use Rattle.snap_select.proofs.Prelude.{◌≡◌, ℕ, zero, suc, Bool, true, false, MatchBool, List, [], ◌∷◌, ◌++◌, Some, slice_get, refl, sym, ap, ◌∙◌, subst, append-nil, both_ways, same_Some, option_and_then_some, codes, Step, path_match, to_item, into_field, under_key, Parts, Child, wrapped, children, item_children, pair_children, field_children, part_at, path_at, count_of, Allowed, Inside, ItemsRedacted, PairsRedacted, FieldsRedacted, RedactedAt, IsRedacted, IsHit, IsUntouched, node, units, pair_units, field_units, IsKept, RedactsAt, Redacts}
use Rattle.snap_content.specs.Tree as t

-- a front of a position, and the position below a child
not_front : (front rest : List ℕ) (k : ℕ) → [] ≡ front ++ k ∷ rest → ⊥
not_front [] rest k e = cc
not_front (x ∷ xs) rest k e = cc

pub root_hit : (ss : Parts) (path : List Step) (c : t.Tree) → path_match ss path ≡ true → IsHit ss path c []
root_hit ss path c e = record { steps = path; is = refl; matched = e; first = λ front k rest shorter f g. absurd (not_front front rest k f) }

-- a hit below a child
hit_below : (ss : Parts) (path : List Step) (c : t.Tree) (k : ℕ) (ks : List ℕ) (child : Child) (h : IsHit ss path c (k ∷ ks)) → slice_get (children c) k ≡ Some child
    → path_at (path ++ child.steps) child.part ks ≡ Some h.steps → IsHit ss (path ++ child.steps) child.part ks
hit_below ss path c k ks child h at is = record {
  steps = h.steps;
  is = is;
  matched = h.matched;
  first = λ front j rest shorter e f. h.first (k ∷ front) j rest shorter (ap (λ x. k ∷ x) e) (rw at f);
}

same_child : (path : List Step) (c : t.Tree) (k j : ℕ) (front : List ℕ) (child : Child) (shorter : List Step) → slice_get (children c) k ≡ Some child → k ≡ j
    → path_at path c (j ∷ front) ≡ Some shorter → path_at (path ++ child.steps) child.part front ≡ Some shorter
same_child path c k j front child shorter at e h =
    rw (rw e at at) at h

above_first : (ss : Parts) (path : List Step) (c : t.Tree) (k : ℕ) (ks : List ℕ) (child : Child) → path_match ss path ≡ false → slice_get (children c) k ≡ Some child
    → (h : IsHit ss (path ++ child.steps) child.part ks) → (front : List ℕ) (j : ℕ) (rest : List ℕ) (shorter : List Step) → k ∷ ks ≡ front ++ j ∷ rest → path_at path c front ≡ Some shorter → path_match ss shorter ≡ false
above_first ss path c k ks child n at h [] j rest shorter e f = rw (same_Some path shorter f) at n
above_first ss path c k ks child n at h (x ∷ xs) j rest shorter e f =
    let head : k ≡ x = cc in
    let tail : ks ≡ xs ++ j ∷ rest = cc in
    h.first xs j rest shorter tail (same_child path c k x xs child shorter at head f)

pub hit_above : (ss : Parts) (path : List Step) (c : t.Tree) (k : ℕ) (ks : List ℕ) (child : Child) → path_match ss path ≡ false → slice_get (children c) k ≡ Some child
    → IsHit ss (path ++ child.steps) child.part ks → IsHit ss path c (k ∷ ks)
hit_above ss path c k ks child n at h = record { steps = h.steps; is = rw at h.is; matched = h.matched; first = above_first ss path c k ks child n at h }

part_below : (out : t.Tree) (k : ℕ) (ks : List ℕ) (next : Child) (result : t.Tree) → slice_get (children out) k ≡ Some next → part_at next.part ks ≡ Some result → part_at out (k ∷ ks) ≡ Some result
part_below out k ks next result at h = rw at h

module _ (ss : Parts) (allows : Allowed) where
  -- a child, and the one that stands in its place
  record Follows (path : List Step) (child : Child) (nexts : List Child) (k : ℕ) : Type 0 where
    next : Child
    at : slice_get nexts k ≡ Some next
    good : RedactsAt ss allows (path ++ child.steps) child.part next.part

  abbrev AllFollow : List Step → List Child → List Child → Type 0
  AllFollow path olds nexts = (k : ℕ) (child : Child) → slice_get olds k ≡ Some child → Follows path child nexts k

  abbrev Replaced : t.Tree → List ℕ → t.Tree → List Step → Type 0
  Replaced out position part steps = (new : t.Tree) × (part_at out position ≡ Some new) × allows part steps new

  replaced_below : (path : List Step) (c out : t.Tree) (k : ℕ) (ks : List ℕ) (part : t.Tree) → AllFollow path (children c) (children out)
      → part_at c (k ∷ ks) ≡ Some part → (h : IsHit ss path c (k ∷ ks)) → Replaced out (k ∷ ks) part h.steps
  unfolding hit_below
  replaced_below path c out k ks part all here h =
      option_and_then_some {P = Replaced out (k ∷ ks) part h.steps} (λ child. path_at (path ++ child.steps) child.part ks) (slice_get (children c) k) h.steps h.is
      (λ child at is. let f = all k child at in
      let below = f.good.replaced ks part (rw at at here) (hit_below ss path c k ks child h at is) in
      (below.0, part_below out k ks f.next below.0 f.at below.1, below.2))

  kept_below : (path : List Step) (c out : t.Tree) (k : ℕ) (ks : List ℕ) (part : t.Tree) → path_match ss path ≡ false → AllFollow path (children c) (children out)
      → part_at c (k ∷ ks) ≡ Some part → IsUntouched ss path c (k ∷ ks) → IsKept out (k ∷ ks) part
  kept_below path c out k ks part n all h untouched =
      option_and_then_some {P = IsKept out (k ∷ ks) part} (λ child. part_at child.part ks) (slice_get (children c) k) part h
      (λ child at is. let f = all k child at in
      let below : IsUntouched ss (path ++ child.steps) child.part ks = λ front rest e hit. untouched (k ∷ front) rest (ap (λ x. k ∷ x) e) (hit_above ss path c k front child n at hit) in
      let kept = f.good.kept ks part is below in
      record { now = kept.now; is = part_below out k ks f.next kept.now f.at kept.is; same = kept.same })

  -- a tree whose children follow
  replaced_at : (path : List Step) (c out : t.Tree) → path_match ss path ≡ false → AllFollow path (children c) (children out)
      → (position : List ℕ) (part : t.Tree) → part_at c position ≡ Some part → (h : IsHit ss path c position) → Replaced out position part h.steps
  replaced_at path c out n all [] part here h =
      let same : path ≡ h.steps = same_Some path h.steps h.is in
      absurd (both_ways (path_match ss h.steps) (rw same at n) h.matched)
  replaced_at path c out n all (k ∷ ks) part here h = replaced_below path c out k ks part all here h

  kept_at : (path : List Step) (c out : t.Tree) → path_match ss path ≡ false → AllFollow path (children c) (children out) → node out ≡ node c
      → (position : List ℕ) (part : t.Tree) → part_at c position ≡ Some part → IsUntouched ss path c position → IsKept out position part
  kept_at path c out n all same [] part h untouched = record { now = out; is = refl; same = same ∙ ap node (same_Some c part h) }
  kept_at path c out n all same (k ∷ ks) part h untouched = kept_below path c out k ks part n all h untouched

  put_replaced : (path : List Step) (c out : t.Tree) → path_match ss path ≡ true → allows c path out
      → (position : List ℕ) (part : t.Tree) → part_at c position ≡ Some part → (h : IsHit ss path c position) → Replaced out position part h.steps
  put_replaced path c out e put [] part here h =
      (out, refl, subst (λ s. allows part s out) (same_Some path h.steps h.is) (subst (λ x. allows x path out) (same_Some c part here) put))
  put_replaced path c out e put (k ∷ ks) part here h = absurd (both_ways (path_match ss path) (h.first [] k ks path refl refl) e)

  -- of a tree at a path that isn't matched: its children follow, and its node stays
  abbrev Follow : List Step → t.Tree → t.Tree → Type 0
  Follow path c out = AllFollow path (children c) (children out) × (node out ≡ node c)

  node_redacts : (path : List Step) (c out : t.Tree) (b : Bool) → path_match ss path ≡ b → (Inside ss allows path c out → Follow path c out)
      → MatchBool b (allows c path out) (Inside ss allows path c out) → RedactsAt ss allows path c out
  node_redacts path c out true e f put = record {
    replaced = put_replaced path c out e put;
    kept = λ position part h untouched. absurd (untouched [] position refl (root_hit ss path c e));
  }
  node_redacts path c out false e f p = record {
    replaced = replaced_at path c out e (f p).0;
    kept = kept_at path c out e (f p).0 (f p).1;
  }

  good_at : (path : List Step) (c out : t.Tree) → (Inside ss allows path c out → Follow path c out) → RedactedAt ss allows path c out → RedactsAt ss allows path c out
  good_at path c out = node_redacts path c out (path_match ss path) refl

  -- the parts of lists
  no_follow : (path : List Step) (nexts : List Child) → AllFollow path [] nexts
  no_follow path nexts k child e = absurd (cc)

  one_follows : (path : List Step) (old next : Child) (olds nexts : List Child) → RedactsAt ss allows (path ++ old.steps) old.part next.part
      → AllFollow path olds nexts → AllFollow path (old ∷ olds) (next ∷ nexts)
  one_follows path old next olds nexts good later zero child h =
      record { next = next; at = refl; good = rw (same_Some old child h) at good }
  one_follows path old next olds nexts good later (suc k) child h =
      let f = later k child h in record { next = f.next; at = f.at; good = f.good }

  wrapper : (path : List Step) (inner new : t.Tree) → RedactsAt ss allows path inner new → AllFollow path (wrapped inner) (wrapped new)
  wrapper path inner new good =
      one_follows path (record { steps = []; part = inner }) (record { steps = []; part = new }) [] [] (rw append-nil good) (no_follow path [])

  units_same : (path : List Step) (total index : ℕ) (items out : t.Trees) → ItemsRedacted ss allows path total index items out → units out ≡ units items
  units_same path total index t.no_trees out p = ap units p
  units_same path total index (t.tree first rest) out p = ap units p.2 ∙ ap (λ x. t.tree t.unit x) (units_same path total (suc index) rest p.1 p.4)

  pair_units_same : (path : List Step) (pairs out : t.TreePairs) → PairsRedacted ss allows path pairs out → pair_units out ≡ pair_units pairs
  pair_units_same path t.no_pairs out p = ap pair_units p
  pair_units_same path (t.pair key value rest) out p = ap pair_units p.3 ∙ ap (λ x. t.pair t.unit t.unit x) (pair_units_same path rest p.2 p.6)

  field_units_same : (path : List Step) (fields out : t.TreeFields) → FieldsRedacted ss allows path fields out → field_units out ≡ field_units fields
  field_units_same path t.no_fields out p = ap field_units p
  field_units_same path (t.field name value rest) out p = ap field_units p.2 ∙ ap (λ x. t.field name t.unit x) (field_units_same path rest p.1 p.4)

  leaf : (path : List Step) (c out : t.Tree) → children c ≡ [] → out ≡ c → Follow path c out
  leaf path c out none e =
      let P : List Child → Type 0 = λ x. AllFollow path x (children out) in (subst P (sym none) (no_follow path (children out)), ap node e)

  mutual
    follow : (path : List Step) (c out : t.Tree) → Inside ss allows path c out → Follow path c out
    follow path (t.some inner) out p = rw p.1 (wrapper path inner p.0 (good_at path inner p.0 (follow path inner p.0) p.2), refl)
    follow path (t.newtype_struct name inner) out p = rw p.1 (wrapper path inner p.0 (good_at path inner p.0 (follow path inner p.0) p.2), refl)
    follow path (t.newtype_variant name index variant inner) out p = rw p.1 (wrapper path inner p.0 (good_at path inner p.0 (follow path inner p.0) p.2), refl)
    follow path (t.seq items) out p = rw p.1 (items_follow path (count_of items) (count_of p.0) 0 items p.0 p.2, ap t.seq (units_same path (count_of items) 0 items p.0 p.2))
    follow path (t.tuple items) out p = rw p.1 (items_follow path (count_of items) (count_of p.0) 0 items p.0 p.2, ap t.tuple (units_same path (count_of items) 0 items p.0 p.2))
    follow path (t.tuple_struct name items) out p =
        rw p.1 (items_follow path (count_of items) (count_of p.0) 0 items p.0 p.2, ap (λ x. t.tuple_struct name x) (units_same path (count_of items) 0 items p.0 p.2))
    follow path (t.tuple_variant name index variant items) out p =
        rw p.1 (items_follow path (count_of items) (count_of p.0) 0 items p.0 p.2, ap (λ x. t.tuple_variant name index variant x) (units_same path (count_of items) 0 items p.0 p.2))
    follow path (t.map pairs) out p = rw p.1 (pairs_follow path pairs p.0 p.2, ap t.map (pair_units_same path pairs p.0 p.2))
    follow path (t.struct name fields) out p = rw p.1 (fields_follow path fields p.0 p.2, ap (λ x. t.struct name x) (field_units_same path fields p.0 p.2))
    follow path (t.struct_variant name index variant fields) out p =
        rw p.1 (fields_follow path fields p.0 p.2, ap (λ x. t.struct_variant name index variant x) (field_units_same path fields p.0 p.2))
    follow path other out p = leaf path other out refl p

    items_follow : (path : List Step) (total after index : ℕ) (items out : t.Trees) → ItemsRedacted ss allows path total index items out
        → AllFollow path (item_children total index items) (item_children after index out)
    items_follow path total after index t.no_trees out p = no_follow path (item_children after index out)
    items_follow path total after index (t.tree first rest) out p =
        let here = path ++ to_item index total ∷ [] in
        rw p.2 (one_follows path _ _ _ _ (good_at here first p.0 (follow here first p.0) p.3) (items_follow path total after (suc index) rest p.1 p.4))

    pairs_follow : (path : List Step) (pairs out : t.TreePairs) → PairsRedacted ss allows path pairs out → AllFollow path (pair_children pairs) (pair_children out)
    pairs_follow path t.no_pairs out p = no_follow path (pair_children out)
    pairs_follow path (t.pair key value rest) out p =
        let at_key = path ++ into_field (codes "$key") ∷ [] in
        let at_value = path ++ under_key key ∷ [] in
        let of_value : Child = record { steps = under_key key ∷ []; part = value } in
        rw p.3 (one_follows path _ _ (of_value ∷ pair_children rest) _ (good_at at_key key p.0 (follow at_key key p.0) p.4)
        (one_follows path _ _ _ _ (good_at at_value value p.1 (follow at_value value p.1) p.5) (pairs_follow path rest p.2 p.6)))

    fields_follow : (path : List Step) (fields out : t.TreeFields) → FieldsRedacted ss allows path fields out → AllFollow path (field_children fields) (field_children out)
    fields_follow path t.no_fields out p = no_follow path (field_children out)
    fields_follow path (t.field name value rest) out p =
        let here = path ++ into_field name ∷ [] in
        rw p.2 (one_follows path _ _ _ _ (good_at here value p.0 (follow here value p.0) p.3) (fields_follow path rest p.1 p.4))

  pub redacted_redacts : (c out : t.Tree) → IsRedacted ss allows c out → Redacts ss allows c out
  redacted_redacts c out p = record { at_root = good_at [] c out (follow [] c out) p.parts }
