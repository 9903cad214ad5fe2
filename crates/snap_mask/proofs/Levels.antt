-- Rules that put texts and sort lists make no value deeper: a text nests in nothing, and a list in order holds what it held.
use Rattle.snap_mask.proofs.Prelude.{◌≡◌, ◌≤◌, ℕ, ℤ, pos, negsuc, ◌^◌, suc, max, List, [], ◌∷◌, ◌++◌, Bool, true, false, cond, nat_lt, refl, sym, ap, subst, arith, Plain, null, bool, int, text, list, dict, Plains, no_items, item, Entries, no_entries, entry, number_tree, content_of, trees_made, pairs_made, json_plain, json_plains, json_pairs, json_fields, levels, item_levels, entry_levels, ReplacementView, redacted_by, IsMasking, AreMasking, puts_text, sorts}
use Rattle.std.proofs.Math.Nat.{le_refl, le_trans, le-max_left, le-max_right, max-le}
use Rattle.snap_content.specs.Tree as t
use Rattle.snap_content.specs.Orders.{tree_cmp}
use Rattle.snap_select.specs.InOrder.{in_order, ordered, items_in, pairs_in, fields_in, pair_cmp, field_cmp}
use Rattle.snap_select.specs.Matching.{Step, under_key, into_field, to_item, path_match}
use Rattle.snap_select.specs.Positions.{count_of}
use Rattle.snap_select.specs.Redacted.{inside, redacted_items, redacted_pairs, redacted_fields, redacted}
use Rattle.snap_mask.proofs.KeptKeys.{Each, each_ordered, either}

-- how deep what JSON keeps of a tree nests
abbrev deep : t.Tree → ℕ
deep c = levels (json_plain c)

abbrev deep_items : t.Trees → ℕ
deep_items items = item_levels (json_plains items)

abbrev deep_pairs : t.TreePairs → ℕ
deep_pairs pairs = entry_levels (json_pairs pairs)

abbrev deep_fields : t.TreeFields → ℕ
deep_fields held = entry_levels (json_fields held)

one_more : (a b : ℕ) → a ≤ b → suc a ≤ suc b
one_more a b h = omega (arith, h)

either_more : (a b c d : ℕ) → a ≤ b → c ≤ d → max a c ≤ max b d
either_more a b c d h k = max-le (le_trans h (le-max_left b d)) (le_trans k (le-max_right b d))

named_more : (a b : ℕ) → a ≤ b → suc (max a 0) ≤ suc (max b 0)
named_more a b h = one_more (max a 0) (max b 0) (either_more a b 0 0 h (le_refl 0))

-- lists in order
each_item : (n : ℕ) (items : t.Trees) → deep_items items ≤ n → Each (λ c. deep c ≤ n) (items_in items)
each_item n t.no_trees h = tt
each_item n (t.tree first rest) h =
    (le_trans (le-max_left (deep first) (deep_items rest)) h, each_item n rest (le_trans (le-max_right (deep first) (deep_items rest)) h))

items_up_to : (n : ℕ) (xs : List t.Tree) → Each (λ c. deep c ≤ n) xs → deep_items (t.trees_of xs) ≤ n
items_up_to n [] h = omega (arith)
items_up_to n (x ∷ xs) h = max-le h.0 (items_up_to n xs h.1)

items_ordered : (items : t.Trees) → deep_items (t.trees_of (ordered tree_cmp (items_in items))) ≤ deep_items items
items_ordered items =
    let n : ℕ = deep_items items in
    items_up_to n (ordered tree_cmp (items_in items)) (each_ordered (λ c. deep c ≤ n) tree_cmp (items_in items) (each_item n items (le_refl n)))

each_pair : (n : ℕ) (pairs : t.TreePairs) → deep_pairs pairs ≤ n → Each (λ p. deep p.1 ≤ n) (pairs_in pairs)
each_pair n t.no_pairs h = tt
each_pair n (t.pair key value rest) h =
    (le_trans (le-max_left (deep value) (deep_pairs rest)) h, each_pair n rest (le_trans (le-max_right (deep value) (deep_pairs rest)) h))

pairs_up_to : (n : ℕ) (ps : List (t.Tree × t.Tree)) → Each (λ p. deep p.1 ≤ n) ps → deep_pairs (t.pairs_of ps) ≤ n
pairs_up_to n [] h = omega (arith)
pairs_up_to n (p ∷ ps) h = max-le h.0 (pairs_up_to n ps h.1)

pairs_ordered : (pairs : t.TreePairs) → deep_pairs (t.pairs_of (ordered pair_cmp (pairs_in pairs))) ≤ deep_pairs pairs
pairs_ordered pairs =
    let n : ℕ = deep_pairs pairs in
    pairs_up_to n (ordered pair_cmp (pairs_in pairs)) (each_ordered (λ p. deep p.1 ≤ n) pair_cmp (pairs_in pairs) (each_pair n pairs (le_refl n)))

each_field : (n : ℕ) (held : t.TreeFields) → deep_fields held ≤ n → Each (λ f. deep f.1 ≤ n) (fields_in held)
each_field n t.no_fields h = tt
each_field n (t.field name value rest) h =
    (le_trans (le-max_left (deep value) (deep_fields rest)) h, each_field n rest (le_trans (le-max_right (deep value) (deep_fields rest)) h))

fields_up_to : (n : ℕ) (fs : List (List ℕ × t.Tree)) → Each (λ f. deep f.1 ≤ n) fs → deep_fields (t.fields_of fs) ≤ n
fields_up_to n [] h = omega (arith)
fields_up_to n (f ∷ fs) h = max-le h.0 (fields_up_to n fs h.1)

fields_ordered : (held : t.TreeFields) → deep_fields (t.fields_of (ordered field_cmp (fields_in held))) ≤ deep_fields held
fields_ordered held =
    let n : ℕ = deep_fields held in
    fields_up_to n (ordered field_cmp (fields_in held)) (each_ordered (λ f. deep f.1 ≤ n) field_cmp (fields_in held) (each_field n held (le_refl n)))

-- a tree whose list is in order
order_adds_none : (c : t.Tree) → deep (in_order c) ≤ deep c
order_adds_none (t.some inner) = order_adds_none inner
order_adds_none (t.newtype_struct name inner) = order_adds_none inner
order_adds_none (t.newtype_variant name index variant inner) = named_more (deep (in_order inner)) (deep inner) (order_adds_none inner)
order_adds_none (t.seq items) = one_more (deep_items (t.trees_of (ordered tree_cmp (items_in items)))) (deep_items items) (items_ordered items)
order_adds_none (t.map pairs) = one_more (deep_pairs (t.pairs_of (ordered pair_cmp (pairs_in pairs)))) (deep_pairs pairs) (pairs_ordered pairs)
order_adds_none (t.struct name held) = one_more (deep_fields (t.fields_of (ordered field_cmp (fields_in held)))) (deep_fields held) (fields_ordered held)
order_adds_none (t.struct_variant name index variant held) =
    named_more (suc (deep_fields (t.fields_of (ordered field_cmp (fields_in held))))) (suc (deep_fields held))
    (one_more (deep_fields (t.fields_of (ordered field_cmp (fields_in held)))) (deep_fields held) (fields_ordered held))
order_adds_none other = le_refl (deep other)

-- what such a rule puts in place of a tree
put_adds_none : (rule : ReplacementView) (c : t.Tree) → IsMasking rule → deep (rule.put c) ≤ deep c
put_adds_none rule c (puts_text s is) = subst (λ put. deep (put c) ≤ deep c) (sym is) (omega (arith))
put_adds_none rule c (sorts is) = subst (λ put. deep (put c) ≤ deep c) (sym is) (order_adds_none c)

-- what it puts there, or what it makes inside
here_adds_none : (rule : ReplacementView) → IsMasking rule → (path : List Step) (c : t.Tree) → deep (inside rule.parts rule.put path c) ≤ deep c
    → deep (redacted rule.parts rule.put path c) ≤ deep c
here_adds_none rule m path c h = either (λ x. deep x ≤ deep c) (path_match rule.parts path) (rule.put c) (inside rule.parts rule.put path c) (put_adds_none rule c m) h

mutual
  inside_adds_none : (rule : ReplacementView) → IsMasking rule → (path : List Step) (c : t.Tree) → deep (inside rule.parts rule.put path c) ≤ deep c
  inside_adds_none rule m path (t.some inner) = here_adds_none rule m path inner (inside_adds_none rule m path inner)
  inside_adds_none rule m path (t.newtype_struct name inner) = here_adds_none rule m path inner (inside_adds_none rule m path inner)
  inside_adds_none rule m path (t.newtype_variant name index variant inner) =
      named_more (deep (redacted rule.parts rule.put path inner)) (deep inner) (here_adds_none rule m path inner (inside_adds_none rule m path inner))
  inside_adds_none rule m path (t.seq items) = one_more _ (deep_items items) (items_add_none rule m path (count_of items) 0 items)
  inside_adds_none rule m path (t.tuple items) = one_more _ (deep_items items) (items_add_none rule m path (count_of items) 0 items)
  inside_adds_none rule m path (t.tuple_struct name items) = one_more _ (deep_items items) (items_add_none rule m path (count_of items) 0 items)
  inside_adds_none rule m path (t.tuple_variant name index variant items) =
      named_more _ (suc (deep_items items)) (one_more _ (deep_items items) (items_add_none rule m path (count_of items) 0 items))
  inside_adds_none rule m path (t.map pairs) = one_more _ (deep_pairs pairs) (pairs_add_none rule m path pairs)
  inside_adds_none rule m path (t.struct name held) = one_more _ (deep_fields held) (fields_add_none rule m path held)
  inside_adds_none rule m path (t.struct_variant name index variant held) =
      named_more _ (suc (deep_fields held)) (one_more _ (deep_fields held) (fields_add_none rule m path held))
  inside_adds_none rule m path other = le_refl (deep other)

  items_add_none : (rule : ReplacementView) → IsMasking rule → (path : List Step) (total index : ℕ) (items : t.Trees)
      → deep_items (redacted_items rule.parts rule.put path total index items) ≤ deep_items items
  items_add_none rule m path total index t.no_trees = le_refl 0
  items_add_none rule m path total index (t.tree first rest) =
      let here : List Step = path ++ to_item index total ∷ [] in
      either_more (deep (redacted rule.parts rule.put here first)) (deep first) (deep_items (redacted_items rule.parts rule.put path total (suc index) rest)) (deep_items rest)
      (here_adds_none rule m here first (inside_adds_none rule m here first)) (items_add_none rule m path total (suc index) rest)

  pairs_add_none : (rule : ReplacementView) → IsMasking rule → (path : List Step) (pairs : t.TreePairs)
      → deep_pairs (redacted_pairs rule.parts rule.put path pairs) ≤ deep_pairs pairs
  pairs_add_none rule m path t.no_pairs = le_refl 0
  pairs_add_none rule m path (t.pair key value rest) =
      let here : List Step = path ++ under_key key ∷ [] in
      either_more (deep (redacted rule.parts rule.put here value)) (deep value) (deep_pairs (redacted_pairs rule.parts rule.put path rest)) (deep_pairs rest)
      (here_adds_none rule m here value (inside_adds_none rule m here value)) (pairs_add_none rule m path rest)

  fields_add_none : (rule : ReplacementView) → IsMasking rule → (path : List Step) (held : t.TreeFields)
      → deep_fields (redacted_fields rule.parts rule.put path held) ≤ deep_fields held
  fields_add_none rule m path t.no_fields = le_refl 0
  fields_add_none rule m path (t.field name value rest) =
      let here : List Step = path ++ into_field name ∷ [] in
      either_more (deep (redacted rule.parts rule.put here value)) (deep value) (deep_fields (redacted_fields rule.parts rule.put path rest)) (deep_fields rest)
      (here_adds_none rule m here value (inside_adds_none rule m here value)) (fields_add_none rule m path rest)

pub rules_add_none : (rules : List ReplacementView) (c : t.Tree) → AreMasking rules → levels (json_plain (redacted_by rules c)) ≤ levels (json_plain c)
rules_add_none [] c m = le_refl (deep c)
rules_add_none (r ∷ rs) c m =
    let next : t.Tree = redacted r.parts r.put [] c in
    le_trans (rules_add_none rs next m.1) (here_adds_none r m.0 [] c (inside_adds_none r m.0 [] c))

-- the tree of a plain tree nests as it does
number_levels : (z : ℤ) → deep (number_tree z) ≡ 0
number_levels (pos n) = by (nat_lt n (2 ^ 63)) (nat_lt n (2 ^ 64))
  where
    by : (small middle : Bool) → deep (cond small (t.i64 (pos n)) (cond middle (t.u64 n) (t.u128 n))) ≡ 0
    by true middle = refl
    by false true = refl
    by false false = refl
number_levels (negsuc n) = by (nat_lt n (2 ^ 63))
  where
    by : (small : Bool) → deep (cond small (t.i64 (negsuc n)) (t.i128 (negsuc n))) ≡ 0
    by true = refl
    by false = refl

mutual
  pub made_levels : (p : Plain) → levels (json_plain (content_of p)) ≡ levels p
  made_levels null = refl
  made_levels (bool b) = refl
  made_levels (int z) = number_levels z
  made_levels (text s) = refl
  made_levels (list ps) = ap suc (items_made ps)
  made_levels (dict es) = ap suc (entries_made es)

  items_made : (ps : Plains) → deep_items (trees_made ps) ≡ item_levels ps
  items_made no_items = refl
  items_made (item p ps) = rw (made_levels p, items_made ps) refl

  entries_made : (es : Entries) → deep_pairs (pairs_made es) ≡ entry_levels es
  entries_made no_entries = refl
  entries_made (entry key p es) = rw (made_levels p, entries_made es) refl
