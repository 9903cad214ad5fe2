-- Rules that put texts and sort lists keep keys that JSON accepts, and numbers within 128 bits: a key that is hit becomes a text, one that isn't
-- stays, and no number is made.
use Rattle.snap_mask.proofs.Prelude.{◌≡◌, ℕ, ℤ, pos, negsuc, ◌^◌, suc, List, [], ◌∷◌, ◌++◌, Bool, true, false, ◌||◌, cond, nat_lt, Option, None, Some, refl, sym, ap, ◌∙◌, or_from, or_left, or_right, subst, some_same, bytes_eq, codes, Plain, null, bool, int, text, list, dict, Plains, no_items, item, Entries, no_entries, entry, number_tree, content_of, trees_made, pairs_made, has_refused, items_refused, entries_refused, is_refused, IsWithin, AreWithin, AreEntriesWithin, IsNumber, json_plain, json_plains, json_pairs, json_refuses, key_plain, json_key, Parts, ReplacementView, redacted_by, IsMasking, AreMasking, puts_text, sorts, rules_in, puts_in, sorts_in, rule_then, put_rule, sort_rule, selected}
use Rattle.std.specs.declared.cmp.Ordering.{Ordering}
use Rattle.std.specs.Ordering.{is_lt}
use Rattle.snap_content.specs.Tree as t
use Rattle.snap_content.specs.Orders.{tree_cmp}
use Rattle.snap_select.specs.InOrder.{in_order, put_in, ordered, items_in, pairs_in, pair_cmp}
use Rattle.snap_select.specs.Matching.{Step, under_key, into_field, to_item, path_match}
use Rattle.snap_select.specs.Positions.{count_of}
use Rattle.snap_select.specs.Redacted.{put_or, inside, redacted_items, redacted_pairs, redacted}

-- a key that is a text
abbrev IsText : t.Tree → Type 0
IsText key = (s : List ℕ) × (key ≡ t.string s)

-- a tree such as a reader makes of JSON: no wrappers, numbers of 128 bits, and keys that are texts
abbrev mutual
  IsFine : t.Tree → Type 0
  IsFine (t.bool b) = Unit {0}
  IsFine (t.u64 n) = IsNumber (pos n)
  IsFine (t.u128 n) = IsNumber (pos n)
  IsFine (t.i64 z) = IsNumber z
  IsFine (t.i128 z) = IsNumber z
  IsFine (t.string s) = Unit {0}
  IsFine t.none = Unit {0}
  IsFine (t.seq items) = AreFine items
  IsFine (t.map pairs) = ArePairsFine pairs
  IsFine other = ⊥

  AreFine : t.Trees → Type 0
  AreFine t.no_trees = Unit {0}
  AreFine (t.tree first rest) = IsFine first × AreFine rest

  ArePairsFine : t.TreePairs → Type 0
  ArePairsFine t.no_pairs = Unit {0}
  ArePairsFine (t.pair key value rest) = IsText key × IsFine value × ArePairsFine rest

-- the tree of a JSON text is such a tree
fine_number : (z : ℤ) → IsNumber z → IsFine (number_tree z)
fine_number (pos n) w = by (nat_lt n (2 ^ 63)) (nat_lt n (2 ^ 64))
  where
    by : (small middle : Bool) → IsFine (cond small (t.i64 (pos n)) (cond middle (t.u64 n) (t.u128 n)))
    by true middle = w
    by false true = w
    by false false = w
fine_number (negsuc n) w = by (nat_lt n (2 ^ 63))
  where
    by : (small : Bool) → IsFine (cond small (t.i64 (negsuc n)) (t.i128 (negsuc n)))
    by true = w
    by false = w

text_key : (key : Plain) → is_refused key ≡ false → IsText (content_of key)
text_key null h = cc
text_key (bool b) h = cc
text_key (int z) h = cc
text_key (text s) h = (s, refl)
text_key (list ps) h = cc
text_key (dict es) h = cc

mutual
  fine_made : (p : Plain) → IsWithin p → has_refused p ≡ false → IsFine (content_of p)
  fine_made null w h = tt
  fine_made (bool b) w h = tt
  fine_made (int z) w h = fine_number z w
  fine_made (text s) w h = tt
  fine_made (list ps) w h = items_made ps w h
  fine_made (dict es) w h = entries_made es w h

  items_made : (ps : Plains) → AreWithin ps → items_refused ps ≡ false → AreFine (trees_made ps)
  items_made no_items w h = tt
  items_made (item p ps) w h =
      (fine_made p w.0 (or_left (has_refused p) (items_refused ps) h), items_made ps w.1 (or_right (has_refused p) (items_refused ps) h))

  entries_made : (es : Entries) → AreEntriesWithin es → entries_refused es ≡ false → ArePairsFine (pairs_made es)
  entries_made no_entries w h = tt
  entries_made (entry key p es) w h =
      let below = or_right (is_refused key) (has_refused p || entries_refused es) h in (
        text_key key (or_left (is_refused key) (has_refused p || entries_refused es) h),
        fine_made p w.1.0 (or_left (has_refused p) (entries_refused es) below),
        entries_made es w.1.1 (or_right (has_refused p) (entries_refused es) below),
      )

-- JSON refuses no key of such a tree
accepted_key : (key : t.Tree) → IsText key → is_refused (key_plain (json_key key)) ≡ false
accepted_key key k = ap (λ c. is_refused (key_plain (json_key c))) k.1

mutual
  accepted : (c : t.Tree) → IsFine c → has_refused (json_plain c) ≡ false
  accepted (t.bool b) f = refl
  accepted (t.u8 n) f = absurd f
  accepted (t.u16 n) f = absurd f
  accepted (t.u32 n) f = absurd f
  accepted (t.u64 n) f = refl
  accepted (t.u128 n) f = refl
  accepted (t.i8 z) f = absurd f
  accepted (t.i16 z) f = absurd f
  accepted (t.i32 z) f = absurd f
  accepted (t.i64 z) f = refl
  accepted (t.i128 z) f = refl
  accepted (t.char c) f = absurd f
  accepted (t.string s) f = refl
  accepted (t.bytes bs) f = absurd f
  accepted t.none f = refl
  accepted (t.some inner) f = absurd f
  accepted t.unit f = absurd f
  accepted (t.unit_struct name) f = absurd f
  accepted (t.unit_variant name index variant) f = absurd f
  accepted (t.newtype_struct name inner) f = absurd f
  accepted (t.newtype_variant name index variant inner) f = absurd f
  accepted (t.seq items) f = items_accepted items f
  accepted (t.tuple items) f = absurd f
  accepted (t.tuple_struct name items) f = absurd f
  accepted (t.tuple_variant name index variant items) f = absurd f
  accepted (t.map pairs) f = pairs_accepted pairs f
  accepted (t.struct name held) f = absurd f
  accepted (t.struct_variant name index variant held) f = absurd f

  items_accepted : (items : t.Trees) → AreFine items → items_refused (json_plains items) ≡ false
  items_accepted t.no_trees f = refl
  items_accepted (t.tree first rest) f = or_from (has_refused (json_plain first)) (items_refused (json_plains rest)) (accepted first f.0) (items_accepted rest f.1)

  pairs_accepted : (pairs : t.TreePairs) → ArePairsFine pairs → entries_refused (json_pairs pairs) ≡ false
  pairs_accepted t.no_pairs f = refl
  pairs_accepted (t.pair key value rest) f =
      or_from (is_refused (key_plain (json_key key))) (has_refused (json_plain value) || entries_refused (json_pairs rest)) (accepted_key key f.0)
      (or_from (has_refused (json_plain value)) (entries_refused (json_pairs rest)) (accepted value f.1) (pairs_accepted rest f.2))

-- what JSON keeps of such a tree has no number beyond 128 bits
key_within : (key : t.Tree) → IsText key → IsWithin (key_plain (json_key key))
key_within key k = subst (λ c. IsWithin (key_plain (json_key c))) (sym k.1) tt

mutual
  fine_within : (c : t.Tree) → IsFine c → IsWithin (json_plain c)
  fine_within (t.bool b) f = tt
  fine_within (t.u8 n) f = absurd f
  fine_within (t.u16 n) f = absurd f
  fine_within (t.u32 n) f = absurd f
  fine_within (t.u64 n) f = f
  fine_within (t.u128 n) f = f
  fine_within (t.i8 z) f = absurd f
  fine_within (t.i16 z) f = absurd f
  fine_within (t.i32 z) f = absurd f
  fine_within (t.i64 z) f = f
  fine_within (t.i128 z) f = f
  fine_within (t.char c) f = absurd f
  fine_within (t.string s) f = tt
  fine_within (t.bytes bs) f = absurd f
  fine_within t.none f = tt
  fine_within (t.some inner) f = absurd f
  fine_within t.unit f = absurd f
  fine_within (t.unit_struct name) f = absurd f
  fine_within (t.unit_variant name index variant) f = absurd f
  fine_within (t.newtype_struct name inner) f = absurd f
  fine_within (t.newtype_variant name index variant inner) f = absurd f
  fine_within (t.seq items) f = items_within items f
  fine_within (t.tuple items) f = absurd f
  fine_within (t.tuple_struct name items) f = absurd f
  fine_within (t.tuple_variant name index variant items) f = absurd f
  fine_within (t.map pairs) f = pairs_within pairs f
  fine_within (t.struct name held) f = absurd f
  fine_within (t.struct_variant name index variant held) f = absurd f

  items_within : (items : t.Trees) → AreFine items → AreWithin (json_plains items)
  items_within t.no_trees f = tt
  items_within (t.tree first rest) f = (fine_within first f.0, items_within rest f.1)

  pairs_within : (pairs : t.TreePairs) → ArePairsFine pairs → AreEntriesWithin (json_pairs pairs)
  pairs_within t.no_pairs f = tt
  pairs_within (t.pair key value rest) f = (key_within key f.0, (fine_within value f.1, pairs_within rest f.2))

-- lists in order hold what they held
abbrev pub Each : {X : Type 0} → (X → Type 0) → List X → Type 0
Each P [] = Unit {0}
Each P (x ∷ xs) = P x × Each P xs

each_put_in : {X : Type 0} (P : X → Type 0) (cmp : X → X → Ordering) (x : X) (ys : List X) → P x → Each P ys → Each P (put_in cmp x ys)
each_put_in P cmp x [] p h = (p, tt)
each_put_in P cmp x (y ∷ ys) p h = by (is_lt (cmp y x)) (each_put_in P cmp x ys p h.1)
  where
    by : (less : Bool) → Each P (put_in cmp x ys) → Each P (cond less (y ∷ put_in cmp x ys) (x ∷ y ∷ ys))
    by true later = (h.0, later)
    by false later = (p, h)

pub each_ordered : {X : Type 0} (P : X → Type 0) (cmp : X → X → Ordering) (xs : List X) → Each P xs → Each P (ordered cmp xs)
each_ordered P cmp [] h = tt
each_ordered P cmp (x ∷ xs) h = each_put_in P cmp x (ordered cmp xs) h.0 (each_ordered P cmp xs h.1)

each_item : (items : t.Trees) → AreFine items → Each IsFine (items_in items)
each_item t.no_trees f = tt
each_item (t.tree first rest) f = (f.0, each_item rest f.1)

items_fine : (xs : List t.Tree) → Each IsFine xs → AreFine (t.trees_of xs)
items_fine [] h = tt
items_fine (x ∷ xs) h = (h.0, items_fine xs h.1)

abbrev IsPairFine : t.Tree × t.Tree → Type 0
IsPairFine p = IsText p.0 × IsFine p.1

each_pair : (pairs : t.TreePairs) → ArePairsFine pairs → Each IsPairFine (pairs_in pairs)
each_pair t.no_pairs f = tt
each_pair (t.pair key value rest) f = ((f.0, f.1), each_pair rest f.2)

pairs_fine : (ps : List (t.Tree × t.Tree)) → Each IsPairFine ps → ArePairsFine (t.pairs_of ps)
pairs_fine [] h = tt
pairs_fine (p ∷ ps) h = (h.0.0, h.0.1, pairs_fine ps h.1)

fine_in_order : (c : t.Tree) → IsFine c → IsFine (in_order c)
fine_in_order (t.bool b) f = tt
fine_in_order (t.u8 n) f = absurd f
fine_in_order (t.u16 n) f = absurd f
fine_in_order (t.u32 n) f = absurd f
fine_in_order (t.u64 n) f = f
fine_in_order (t.u128 n) f = f
fine_in_order (t.i8 z) f = absurd f
fine_in_order (t.i16 z) f = absurd f
fine_in_order (t.i32 z) f = absurd f
fine_in_order (t.i64 z) f = f
fine_in_order (t.i128 z) f = f
fine_in_order (t.char c) f = absurd f
fine_in_order (t.string s) f = tt
fine_in_order (t.bytes bs) f = absurd f
fine_in_order t.none f = tt
fine_in_order (t.some inner) f = absurd f
fine_in_order t.unit f = absurd f
fine_in_order (t.unit_struct name) f = absurd f
fine_in_order (t.unit_variant name index variant) f = absurd f
fine_in_order (t.newtype_struct name inner) f = absurd f
fine_in_order (t.newtype_variant name index variant inner) f = absurd f
fine_in_order (t.seq items) f = items_fine (ordered tree_cmp (items_in items)) (each_ordered IsFine tree_cmp (items_in items) (each_item items f))
fine_in_order (t.tuple items) f = absurd f
fine_in_order (t.tuple_struct name items) f = absurd f
fine_in_order (t.tuple_variant name index variant items) f = absurd f
fine_in_order (t.map pairs) f = pairs_fine (ordered pair_cmp (pairs_in pairs)) (each_ordered IsPairFine pair_cmp (pairs_in pairs) (each_pair pairs f))
fine_in_order (t.struct name held) f = absurd f
fine_in_order (t.struct_variant name index variant held) f = absurd f

-- what such a rule puts in place of a tree is such a tree, and of a text a text
fine_put : (rule : ReplacementView) (c : t.Tree) → IsMasking rule → IsFine c → IsFine (rule.put c)
fine_put rule c (puts_text s is) f = subst (λ put. IsFine (put c)) (sym is) tt
fine_put rule c (sorts is) f = subst (λ put. IsFine (put c)) (sym is) (fine_in_order c f)

text_put : (rule : ReplacementView) (c : t.Tree) → IsMasking rule → IsText c → IsText (rule.put c)
text_put rule c (puts_text s is) k = (s, ap (λ put. put c) is)
text_put rule c (sorts is) k = (k.0, ap (λ put. put c) is ∙ ap in_order k.1)

-- a key stays a text
key_inside : (ss : Parts) (put : t.Tree → t.Tree) (path : List Step) (key : t.Tree) → IsText key → IsText (inside ss put path key)
key_inside ss put path key k = (k.0, ap (inside ss put path) k.1)

pub either : (P : t.Tree → Type 0) (b : Bool) (x y : t.Tree) → P x → P y → P (cond b x y)
either P true x y p q = p
either P false x y p q = q

key_put : (rule : ReplacementView) (m : IsMasking rule) (path : List Step) (key : t.Tree) → IsText key
    → IsText (put_or rule.parts rule.put path key (inside rule.parts rule.put path key))
key_put rule m path key k =
    either IsText (path_match rule.parts path) (rule.put key) (inside rule.parts rule.put path key) (text_put rule key m k) (key_inside rule.parts rule.put path key k)

mutual
  fine_inside : (rule : ReplacementView) → IsMasking rule → (path : List Step) (c : t.Tree) → IsFine c → IsFine (inside rule.parts rule.put path c)
  fine_inside rule m path (t.bool b) f = tt
  fine_inside rule m path (t.u8 n) f = absurd f
  fine_inside rule m path (t.u16 n) f = absurd f
  fine_inside rule m path (t.u32 n) f = absurd f
  fine_inside rule m path (t.u64 n) f = f
  fine_inside rule m path (t.u128 n) f = f
  fine_inside rule m path (t.i8 z) f = absurd f
  fine_inside rule m path (t.i16 z) f = absurd f
  fine_inside rule m path (t.i32 z) f = absurd f
  fine_inside rule m path (t.i64 z) f = f
  fine_inside rule m path (t.i128 z) f = f
  fine_inside rule m path (t.char c) f = absurd f
  fine_inside rule m path (t.string s) f = tt
  fine_inside rule m path (t.bytes bs) f = absurd f
  fine_inside rule m path t.none f = tt
  fine_inside rule m path (t.some inner) f = absurd f
  fine_inside rule m path t.unit f = absurd f
  fine_inside rule m path (t.unit_struct name) f = absurd f
  fine_inside rule m path (t.unit_variant name index variant) f = absurd f
  fine_inside rule m path (t.newtype_struct name inner) f = absurd f
  fine_inside rule m path (t.newtype_variant name index variant inner) f = absurd f
  fine_inside rule m path (t.seq items) f = items_inside rule m path (count_of items) 0 items f
  fine_inside rule m path (t.tuple items) f = absurd f
  fine_inside rule m path (t.tuple_struct name items) f = absurd f
  fine_inside rule m path (t.tuple_variant name index variant items) f = absurd f
  fine_inside rule m path (t.map pairs) f = pairs_inside rule m path pairs f
  fine_inside rule m path (t.struct name held) f = absurd f
  fine_inside rule m path (t.struct_variant name index variant held) f = absurd f

  items_inside : (rule : ReplacementView) → IsMasking rule → (path : List Step) (total index : ℕ) (items : t.Trees) → AreFine items
      → AreFine (redacted_items rule.parts rule.put path total index items)
  items_inside rule m path total index t.no_trees f = tt
  items_inside rule m path total index (t.tree first rest) f =
      let here : List Step = path ++ to_item index total ∷ [] in (
        either IsFine (path_match rule.parts here) (rule.put first) (inside rule.parts rule.put here first) (fine_put rule first m f.0) (fine_inside rule m here first f.0),
        items_inside rule m path total (suc index) rest f.1,
      )

  pairs_inside : (rule : ReplacementView) → IsMasking rule → (path : List Step) (pairs : t.TreePairs) → ArePairsFine pairs
      → ArePairsFine (redacted_pairs rule.parts rule.put path pairs)
  pairs_inside rule m path t.no_pairs f = tt
  pairs_inside rule m path (t.pair key value rest) f =
      let here : List Step = path ++ under_key key ∷ [] in (
        key_put rule m (path ++ into_field (codes "$key") ∷ []) key f.0,
        either IsFine (path_match rule.parts here) (rule.put value) (inside rule.parts rule.put here value) (fine_put rule value m f.1) (fine_inside rule m here value f.1),
        pairs_inside rule m path rest f.2,
      )

fine_redacted : (rules : List ReplacementView) (c : t.Tree) → AreMasking rules → IsFine c → IsFine (redacted_by rules c)
fine_redacted [] c m f = f
fine_redacted (r ∷ rs) c m f =
    fine_redacted rs (redacted r.parts r.put [] c) m.1
    (either IsFine (path_match r.parts []) (r.put c) (inside r.parts r.put [] c) (fine_put r c m.0 f) (fine_inside r m.0 [] c f))

pub kept_keys : (rules : List ReplacementView) (p : Plain) → AreMasking rules → IsWithin p → has_refused p ≡ false → json_refuses (redacted_by rules (content_of p)) ≡ false
kept_keys rules p m w h = accepted (redacted_by rules (content_of p)) (fine_redacted rules (content_of p) m (fine_made p w h))

pub kept_within : (rules : List ReplacementView) (p : Plain) → AreMasking rules → IsWithin p → has_refused p ≡ false → IsWithin (json_plain (redacted_by rules (content_of p)))
kept_within rules p m w h = fine_within (redacted_by rules (content_of p)) (fine_redacted rules (content_of p) m (fine_made p w h))

-- the rules that words spell put texts and sort
masking_then : (parts : Option Parts) (rule : Parts → ReplacementView) (others : Option (List ReplacementView)) (rules : List ReplacementView)
    → rule_then parts rule others ≡ Some rules → ((ps : Parts) → IsMasking (rule ps)) → ((rs : List ReplacementView) → others ≡ Some rs → AreMasking rs) → AreMasking rules
masking_then None rule others rules is one more = cc
masking_then (Some ps) rule None rules is one more = cc
masking_then (Some ps) rule (Some rs) rules is one more = subst AreMasking (some_same (rule ps ∷ rs) rules is) (one ps, more rs refl)

by_option : (words : List (List ℕ)) (rules : List ReplacementView) (put sort : Bool) → cond put (puts_in words) (cond sort (sorts_in words) None) ≡ Some rules
    → (puts_in words ≡ Some rules → AreMasking rules) → (sorts_in words ≡ Some rules → AreMasking rules) → AreMasking rules
by_option words rules true sort e puts sorts_them = puts e
by_option words rules false true e puts sorts_them = sorts_them e
by_option words rules false false e puts sorts_them = cc

mutual
  pub masking : (words : List (List ℕ)) (rules : List ReplacementView) → rules_in words ≡ Some rules → AreMasking rules
  masking [] rules is = subst AreMasking (some_same [] rules is) tt
  masking (word ∷ words) rules is =
      by_option words rules (bytes_eq word (codes "--put")) (bytes_eq word (codes "--sort")) is (λ e. masking_puts words rules e) (λ e. masking_sorts words rules e)

  masking_puts : (words : List (List ℕ)) (rules : List ReplacementView) → puts_in words ≡ Some rules → AreMasking rules
  masking_puts [] rules is = cc
  masking_puts (selector ∷ []) rules is = cc
  masking_puts (selector ∷ put ∷ words) rules is =
      masking_then (selected selector) (put_rule put) (rules_in words) rules is (λ ps. puts_text put refl) (λ rs e. masking words rs e)

  masking_sorts : (words : List (List ℕ)) (rules : List ReplacementView) → sorts_in words ≡ Some rules → AreMasking rules
  masking_sorts [] rules is = cc
  masking_sorts (selector ∷ words) rules is = masking_then (selected selector) sort_rule (rules_in words) rules is (λ ps. sorts refl) (λ rs e. masking words rs e)
