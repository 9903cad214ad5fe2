-- Below a path that no match lies below a tree stays as it is.
use Rattle.snap_select.proofs.Prelude.{◌≡◌, ℕ, suc, ◌+◌, ◌≤◌, Bool, true, false, MatchBool, ◌&&◌, ◌||◌, nat_lt, List, [], ◌∷◌, ◌++◌, length, take, Option, None, Some, refl, sym, ap, ◌∙◌, append_assoc, append-nil, length-append, arith, option_map_or, option_map, list_any, position, position-Some, segments_open, opens, has_deep, ◌<◌, ◌⊎◌, inl, inr, Key, Index, Range, Wildcard, DeepWildcard, drop, min, codes, ne_eqb, ltb-false, and_right, is_deep, Step, to_item, into_field, under_key, fits_step, fit_each, matches_whole, last_of, matches_ends, segments_match, path_match, Parts, count_of, Allowed, segments_reach, reaches, Inside, ItemsRedacted, PairsRedacted, FieldsRedacted, RedactedAt, PathItem, step_of, map, length-map, Segment, Child, children, wrapped, item_children, pair_children, field_children, slice_get, subst}
use Rattle.std.proofs.lemmas.Bool.Decides.{nat_tests}
use Rattle.snap_content.specs.Tree as t

no_more : (a b c : Bool) → (b ≡ false → c ≡ false) → (a && b) ≡ false → (a && c) ≡ false
no_more true b c f e = f e
no_more false b c f e = refl

-- what doesn't fit a path fits none that goes on from it
fit_longer : (ss : List Segment) (path more : List Step) → fit_each ss path ≡ false → fit_each ss (path ++ more) ≡ false
fit_longer [] path more e = absurd (cc)
fit_longer (s ∷ ss) [] more e = absurd (cc)
fit_longer (s ∷ ss) (x ∷ xs) more e = no_more (fits_step s x) (fit_each ss xs) (fit_each ss (xs ++ more)) (fit_longer ss xs more) e

whole_cases : (b : Bool) (ss : List Segment) (path : List Step) (step : Step) (steps : List Step) → nat_lt (length path) (length ss) ≡ b → (b && fit_each ss path) ≡ false
    → matches_whole ss (path ++ step ∷ steps) ≡ false
whole_cases true ss path step steps lt e = and_right _ _ (fit_longer ss path (step ∷ steps) e)
whole_cases false ss path step steps lt e =
    let short : length ss ≤ length path = ltb-false (length path) (length ss) lt in
    let longer : length (path ++ step ∷ steps) ≡ length path + suc (length steps) = length-append path (step ∷ steps) in
    ap (λ b. b && fit_each ss (path ++ step ∷ steps)) (ne_eqb (length ss) (length (path ++ step ∷ steps)) (λ same. absurd (omega arith)))

segments_unreached : (ss : List Segment) (path : List Step) (step : Step) (steps : List Step) → segments_reach ss path ≡ false → segments_match ss (path ++ step ∷ steps) ≡ false
segments_unreached ss path step steps = by (position is_deep ss)
  where
    later : ℕ → Bool
    later at =
        let after = drop (suc at) ss in
        let count = min (length after) (length (path ++ step ∷ steps)) in fit_each (last_of count after) (last_of count (path ++ step ∷ steps))

    by : (o : Option ℕ) → option_map_or (λ at. fit_each (take at ss) path) o (nat_lt (length path) (length ss) && fit_each ss path) ≡ false
        → option_map_or (λ at. matches_ends (take at ss) (drop (suc at) ss) (path ++ step ∷ steps)) o (matches_whole ss (path ++ step ∷ steps)) ≡ false
    by None e = whole_cases (nat_lt (length path) (length ss)) ss path step steps refl e
    by (Some at) e =
        ap (λ b. b && later at)
        (and_right (nat_lt (length (take at ss)) (length (path ++ step ∷ steps))) (fit_each (take at ss) (path ++ step ∷ steps)) (fit_longer (take at ss) path (step ∷ steps) e))

parts_unreached : (ps : Parts) (path : List Step) (step : Step) (steps : List Step) → reaches ps path ≡ false → path_match ps (path ++ step ∷ steps) ≡ false
parts_unreached [] path step steps e = refl
parts_unreached (ss ∷ ps) path step steps e =
    one_or_more (segments_reach ss path) (segments_match ss (path ++ step ∷ steps)) (reaches ps path) (path_match ps (path ++ step ∷ steps))
    (segments_unreached ss path step steps) (parts_unreached ps path step steps) e
  where
    one_or_more : (a b c d : Bool) → (a ≡ false → b ≡ false) → (c ≡ false → d ≡ false) → (a || c) ≡ false → (b || d) ≡ false
    one_or_more true b c d f g e = absurd (cc)
    one_or_more false b c d f g e = ap (λ x. x || d) (f refl) ∙ g e

-- no path that begins with these steps is matched
abbrev IsCalm : Parts → List Step → Type 0
IsCalm ss path = (more : List Step) → path_match ss (path ++ more) ≡ false

calm : (ss : Parts) (path : List Step) → path_match ss path ≡ false → reaches ss path ≡ false → IsCalm ss path
calm ss path here below [] = ap (path_match ss) (append-nil path) ∙ here
calm ss path here below (step ∷ steps) = parts_unreached ss path step steps below

calm_below : (ss : Parts) (path steps : List Step) → IsCalm ss path → IsCalm ss (path ++ steps)
calm_below ss path steps quiet more = ap (path_match ss) (append_assoc path steps more) ∙ quiet (steps ++ more)

not_put : (m : Bool) (P R : Type 0) → m ≡ false → R → MatchBool m P R
not_put true P R e r = absurd (cc)
not_put false P R e r = r

-- what holds of each of these parts, at its path
abbrev AllBelow : (List Step → t.Tree → Type 0) → List Step → List Child → Type 0
AllBelow Q path parts = (k : ℕ) (child : Child) → slice_get parts k ≡ Some child → Q (path ++ child.steps) child.part

-- where something holds of a tree, and of all parts below it, by which no path is matched, the same tree is a redacted one
module _ (ss : Parts) (allows : Allowed) (Q : List Step → t.Tree → Type 0) (unmatched : (path : List Step) (c : t.Tree) → Q path c → path_match ss path ≡ false)
    (below : (path : List Step) (c : t.Tree) → Q path c → AllBelow Q path (children c)) where
  same_at : (path : List Step) (c : t.Tree) → Q path c → Inside ss allows path c c → RedactedAt ss allows path c c
  same_at path c q = not_put (path_match ss path) (allows c path c) (Inside ss allows path c c) (unmatched path c q)

  inner_of : (path : List Step) (inner : t.Tree) → AllBelow Q path (wrapped inner) → Q path inner
  inner_of path inner all = subst (λ p. Q p inner) (append-nil path) (all 0 (record { steps = []; part = inner }) refl)

  mutual
    same_inside : (path : List Step) (c : t.Tree) → AllBelow Q path (children c) → Inside ss allows path c c
    same_inside path (t.some inner) all = let q = inner_of path inner all in (inner, refl, same_at path inner q (same_inside path inner (below path inner q)))
    same_inside path (t.newtype_struct name inner) all = let q = inner_of path inner all in (inner, refl, same_at path inner q (same_inside path inner (below path inner q)))
    same_inside path (t.newtype_variant name index variant inner) all =
        let q = inner_of path inner all in (inner, refl, same_at path inner q (same_inside path inner (below path inner q)))
    same_inside path (t.seq items) all = (items, refl, same_items path (count_of items) 0 items all)
    same_inside path (t.tuple items) all = (items, refl, same_items path (count_of items) 0 items all)
    same_inside path (t.tuple_struct name items) all = (items, refl, same_items path (count_of items) 0 items all)
    same_inside path (t.tuple_variant name index variant items) all = (items, refl, same_items path (count_of items) 0 items all)
    same_inside path (t.map pairs) all = (pairs, refl, same_pairs path pairs all)
    same_inside path (t.struct name fields) all = (fields, refl, same_fields path fields all)
    same_inside path (t.struct_variant name index variant fields) all = (fields, refl, same_fields path fields all)
    same_inside path other all = refl

    same_items : (path : List Step) (total index : ℕ) (items : t.Trees) → AllBelow Q path (item_children total index items) → ItemsRedacted ss allows path total index items items
    same_items path total index t.no_trees all = refl
    same_items path total index (t.tree first rest) all =
        let here = path ++ to_item index total ∷ [] in
        let q = all 0 (record { steps = to_item index total ∷ []; part = first }) refl in
        (first, rest, refl, same_at here first q (same_inside here first (below here first q)), same_items path total (suc index) rest (λ k. all (suc k)))

    same_pairs : (path : List Step) (pairs : t.TreePairs) → AllBelow Q path (pair_children pairs) → PairsRedacted ss allows path pairs pairs
    same_pairs path t.no_pairs all = refl
    same_pairs path (t.pair key value rest) all =
        let at_key = path ++ into_field (codes "$key") ∷ [] in
        let of_key = all 0 (record { steps = into_field (codes "$key") ∷ []; part = key }) refl in
        let same_key = same_at at_key key of_key (same_inside at_key key (below at_key key of_key)) in
        let at_value = path ++ under_key key ∷ [] in
        let of_value = all 1 (record { steps = under_key key ∷ []; part = value }) refl in
        let same_value = same_at at_value value of_value (same_inside at_value value (below at_value value of_value)) in
        (key, value, rest, refl, same_key, same_value, same_pairs path rest (λ k. all (suc (suc k))))

    same_fields : (path : List Step) (fields : t.TreeFields) → AllBelow Q path (field_children fields) → FieldsRedacted ss allows path fields fields
    same_fields path t.no_fields all = refl
    same_fields path (t.field name value rest) all =
        let here = path ++ into_field name ∷ [] in
        let q = all 0 (record { steps = into_field name ∷ []; part = value }) refl in
        (value, rest, refl, same_at here value q (same_inside here value (below here value q)), same_fields path rest (λ k. all (suc k)))

  pub same_redacted : (path : List Step) (c : t.Tree) → Q path c → RedactedAt ss allows path c c
  same_redacted path c q = same_at path c q (same_inside path c (below path c q))

-- where a path isn't matched, and none that goes on from it, the same tree is a redacted one
pub stays : (ss : Parts) (allows : Allowed) (path : List Step) (c : t.Tree) → path_match ss path ≡ false → reaches ss path ≡ false → RedactedAt ss allows path c c
stays ss allows path c here below =
    same_redacted ss allows (λ p c. IsCalm ss p) (λ p c quiet. ap (path_match ss) (sym (append-nil p)) ∙ quiet [])
    (λ p c quiet k child e. calm_below ss p child.steps quiet) path c (calm ss path here below)

-- where no segment may match a path that has this step after so many, a deep wildcard comes later, or a segment doesn't fit
abbrev Shut : List Segment → List Step → Step → Option ℕ → Type 0
Shut ss path step None = (length ss ≤ length path) ⊎ (fit_each ss (path ++ step ∷ []) ≡ false)
Shut ss path step (Some at) = (length path < at) × (at ≤ length ss) × (fit_each (take at ss) (path ++ step ∷ []) ≡ false)

none_of : (a b : Bool) → (a || b) ≡ false → (a ≡ false) × (b ≡ false)
none_of true b e = absurd (cc)
none_of false b e = (refl, e)

no_deep : (s : Segment) (step : Step) → fits_step s step ≡ false → is_deep s ≡ false
no_deep (Key name) step e = refl
no_deep (Index number) step e = refl
no_deep (Range from to) step e = refl
no_deep Wildcard step e = absurd (cc)
no_deep DeepWildcard step e = absurd (cc)

shut_first : (s : Segment) (ss : List Segment) (step : Step) → fits_step s step ≡ false → (o : Option ℕ) → position is_deep ss ≡ o → Shut (s ∷ ss) [] step (option_map suc o)
shut_first s ss step e None p = inr (ap (λ b. b && fit_each ss []) e)
shut_first s ss step e (Some at) p =
    let small = position-Some is_deep ss at s p in (omega arith, omega (arith, small.0), ap (λ b. b && fit_each (take at ss) []) e)

shut_later : (s : Segment) (ss : List Segment) (x : Step) (path : List Step) (step : Step) → (o : Option ℕ) → Shut ss path step o → Shut (s ∷ ss) (x ∷ path) step (option_map suc o)
shut_later s ss x path step None (inl short) = inl (omega (arith, short))
shut_later s ss x path step None (inr e) = inr (and_right (fits_step s x) (fit_each ss (path ++ step ∷ [])) e)
shut_later s ss x path step (Some at) shut =
    (omega (arith, shut.0), omega (arith, shut.1), and_right (fits_step s x) (fit_each (take at ss) (path ++ step ∷ [])) shut.2)

position_later : (s : Segment) (ss : List Segment) → is_deep s ≡ false → position is_deep (s ∷ ss) ≡ option_map suc (position is_deep ss)
position_later s ss e = rw e (grind (arith, nat_tests))

by_position : (s : Segment) (ss : List Segment) (path : List Step) (step : Step) → is_deep s ≡ false → Shut (s ∷ ss) path step (option_map suc (position is_deep ss))
    → Shut (s ∷ ss) path step (position is_deep (s ∷ ss))
by_position s ss path step e shut = subst (Shut (s ∷ ss) path step) (sym (position_later s ss e)) shut

shut : (ss : List Segment) (path : List Step) (step : Step) → segments_open ss (length path) step ≡ false → Shut ss path step (position is_deep ss)
shut [] path step e = inl (omega arith)
shut (s ∷ ss) [] step e =
    let misfit : fits_step s step ≡ false = (none_of (fits_step s step) false e).0 in
    by_position s ss [] step (no_deep s step misfit) (shut_first s ss step misfit (position is_deep ss) refl)
shut (s ∷ ss) (x ∷ path) step e =
    let parts = none_of (option_map_or (λ s. fits_step s step) (slice_get ss (length path)) false) (is_deep s || has_deep (take (length path) ss)) e in
    let deeps = none_of (is_deep s) (has_deep (take (length path) ss)) parts.1 in
    let now_open : segments_open ss (length path) step ≡ false
    = ap (λ b. b || has_deep (take (length path) ss)) parts.0 ∙ deeps.1 in
    by_position s ss (x ∷ path) step deeps.0 (shut_later s ss x path step (position is_deep ss) (shut ss path step now_open))

closed_match : (ss : List Segment) (path : List Step) (step : Step) → segments_open ss (length path) step ≡ false → segments_match ss (path ++ step ∷ []) ≡ false
closed_match ss path step e = by (position is_deep ss) (shut ss path step e)
  where
    longer : length (path ++ step ∷ []) ≡ length path + 1
    longer = length-append path (step ∷ [])

    later : ℕ → Bool
    later at =
        let after = drop (suc at) ss in
        let count = min (length after) (length (path ++ step ∷ [])) in fit_each (last_of count after) (last_of count (path ++ step ∷ []))

    by : (o : Option ℕ) → Shut ss path step o
        → option_map_or (λ at. matches_ends (take at ss) (drop (suc at) ss) (path ++ step ∷ [])) o (matches_whole ss (path ++ step ∷ [])) ≡ false
    by None (inl short) =
        ap (λ b. b && fit_each ss (path ++ step ∷ [])) (ne_eqb (length ss) (length (path ++ step ∷ [])) (λ same. absurd (omega (arith, longer, short, same))))
    by None (inr e) = and_right _ _ e
    by (Some at) closed =
        ap (λ b. b && later at)
        (and_right (nat_lt (length (take at ss)) (length (path ++ step ∷ []))) (fit_each (take at ss) (path ++ step ∷ [])) closed.2)

short_of : (ss : List Segment) (path : List Step) → length ss ≤ length path → nat_lt (length path) (length ss) ≡ false
short_of ss path short = grind (arith, nat_tests)

closed_reach : (ss : List Segment) (path : List Step) (step : Step) → segments_open ss (length path) step ≡ false → segments_reach ss (path ++ step ∷ []) ≡ false
closed_reach ss path step e = by (position is_deep ss) (shut ss path step e)
  where
    longer : length (path ++ step ∷ []) ≡ length path + 1
    longer = length-append path (step ∷ [])

    by : (o : Option ℕ) → Shut ss path step o
        → option_map_or (λ at. fit_each (take at ss) (path ++ step ∷ [])) o (nat_lt (length (path ++ step ∷ [])) (length ss) && fit_each ss (path ++ step ∷ [])) ≡ false
    by None (inl short) =
        ap (λ b. b && fit_each ss (path ++ step ∷ [])) (short_of ss (path ++ step ∷ []) (omega (arith, longer, short)))
    by None (inr e) = and_right _ _ e
    by (Some at) closed = closed.2

closed_parts : (R : List Segment → List Step → Bool) (path : List Step) (step : Step)
    → ((ss : List Segment) → segments_open ss (length path) step ≡ false → R ss (path ++ step ∷ []) ≡ false)
    → (ps : Parts) → opens ps (length path) step ≡ false → list_any (λ ss. R ss (path ++ step ∷ [])) ps ≡ false
closed_parts R path step one [] e = refl
closed_parts R path step one (ss ∷ ps) e =
    let parts = none_of (segments_open ss (length path) step) (opens ps (length path) step) e in
    ap (λ b. b || list_any (λ ss. R ss (path ++ step ∷ [])) ps) (one ss parts.0) ∙ closed_parts R path step one ps parts.1

-- where no part may match a path with this step after the others, the tree there stays as it is
pub closed_stays : (ps : Parts) (allows : Allowed) (items : List PathItem) (step : Step) (c : t.Tree) (count : ℕ) → count ≡ length items → opens ps count step ≡ false
    → RedactedAt ps allows (map step_of items ++ step ∷ []) c c
closed_stays ps allows items step c count same e =
    let path = map step_of items in
    let closed : opens ps (length path) step ≡ false = ap (λ n. opens ps n step) (length-map items step_of ∙ sym same) ∙ e in
    stays ps allows (path ++ step ∷ []) c (closed_parts segments_match path step (λ ss. closed_match ss path step) ps closed)
    (closed_parts segments_reach path step (λ ss. closed_reach ss path step) ps closed)
