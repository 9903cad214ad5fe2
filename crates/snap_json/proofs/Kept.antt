-- The tree that a reader makes of what JSON keeps keeps the same.
use Rattle.snap_json.proofs.Prelude.{◌≡◌, ◌^◌, ℕ, ℤ, pos, negsuc, Bool, true, false, ◌||◌, cond, nat_lt, refl, ap, ◌∙◌, or_left, or_right, Plain, null, bool, int, text, list, dict, Plains, no_items, item, Entries, no_entries, entry, number_tree, content_of, trees_made, pairs_made, json_plain, json_plains, json_pairs, key_plain, json_key, json_text, json_refuses, text_at, is_refused, has_refused, items_refused, entries_refused, Format}
use Rattle.snap_content.specs.Tree as t

natural : (small middle : Bool) (n : ℕ) → json_plain (cond small (t.i64 (pos n)) (cond middle (t.u64 n) (t.u128 n))) ≡ int (pos n)
natural true middle n = refl
natural false true n = refl
natural false false n = refl

negative : (small : Bool) (n : ℕ) → json_plain (cond small (t.i64 (negsuc n)) (t.i128 (negsuc n))) ≡ int (negsuc n)
negative true n = refl
negative false n = refl

number_kept : (z : ℤ) → json_plain (number_tree z) ≡ int z
number_kept (pos n) = natural (nat_lt n (2 ^ 63)) (nat_lt n (2 ^ 64)) n
number_kept (negsuc n) = negative (nat_lt n (2 ^ 63)) n

key_kept : (key : Plain) → is_refused key ≡ false → key_plain (json_key (content_of key)) ≡ key
key_kept null h = cc
key_kept (bool b) h = cc
key_kept (int z) h = cc
key_kept (text s) h = refl
key_kept (list ps) h = cc
key_kept (dict es) h = cc

mutual
  pub tree_kept : (p : Plain) → has_refused p ≡ false → json_plain (content_of p) ≡ p
  tree_kept null h = refl
  tree_kept (bool b) h = refl
  tree_kept (int z) h = number_kept z
  tree_kept (text s) h = refl
  tree_kept (list ps) h = ap list (items_kept ps h)
  tree_kept (dict es) h = ap dict (entries_kept es h)

  items_kept : (ps : Plains) → items_refused ps ≡ false → json_plains (trees_made ps) ≡ ps
  items_kept no_items h = refl
  items_kept (item p ps) h =
      ap (λ x. item x (json_plains (trees_made ps))) (tree_kept p (or_left (has_refused p) (items_refused ps) h))
      ∙ ap (item p) (items_kept ps (or_right (has_refused p) (items_refused ps) h))

  entries_kept : (es : Entries) → entries_refused es ≡ false → json_pairs (pairs_made es) ≡ es
  entries_kept no_entries h = refl
  entries_kept (entry key p es) h =
      let below = or_right (is_refused key) (has_refused p || entries_refused es) h in
      ap (λ x. entry x (json_plain (content_of p)) (json_pairs (pairs_made es)))
      (key_kept key (or_left (is_refused key) (has_refused p || entries_refused es) h))
      ∙ ap (λ x. entry key x (json_pairs (pairs_made es))) (tree_kept p (or_left (has_refused p) (entries_refused es) below))
      ∙ ap (entry key p) (entries_kept es (or_right (has_refused p) (entries_refused es) below))

pub text_kept : (layout : Format) (tree : t.Tree) → json_refuses tree ≡ false → json_text layout (content_of (json_plain tree)) ≡ json_text layout tree
text_kept layout tree h = ap (text_at layout 0) (tree_kept (json_plain tree) h)
