-- The orders of keys are total: of values, of what a `Key` shows, and of the keys of a map.
use Rattle.std.proofs.Common.{◌≡◌, ℕ, ℤ, pos, true, false, cond, ◌&&◌, List, [], refl}
use Rattle.std.specs.declared.cmp.Ordering.{Ordering}
use Rattle.std.specs.Ordering.{ordering_then, nat_cmp, int_cmp, then_cmp, on}
use Rattle.std.specs.Cmp.{IsTotalOrder}
use Rattle.std.specs.Cmp.Lexicographic.{slice_cmp}
use Rattle.std.proofs.lemmas.Cmp.{lists_total, then_total, on_total, nat_cmp_total, int_cmp_total}
use Rattle.snap_content.specs.Tree as t
use Rattle.snap_content.specs.Orders.{tree_cmp, trees_cmp}
use Rattle.snap_content.specs.TotalOrder.{as_total, trees_total, then_equal}
use Rattle.snap_content.specs.Keys.{KeyValue, bool, u64, i64, u128, i128, text, bytes, other, rank, key_of, is_other, value_cmp, key_cmp, key_value}
use Rattle.snap_content.specs.declared.key.Key.{Key}

-- what a key holds, as a number, as one with a sign, and as a list of numbers: each the same in all keys that hold no such
abbrev number_in : KeyValue → ℕ
number_in (bool false) = 0
number_in (bool true) = 1
number_in (u64 n) = n
number_in (u128 n) = n
number_in _ = 0

abbrev signed_in : KeyValue → ℤ
signed_in (i64 z) = z
signed_in (i128 z) = z
signed_in _ = pos 0

abbrev list_in : KeyValue → List ℕ
list_in (text s) = s
list_in (bytes s) = s
list_in _ = []

abbrev parts_cmp : KeyValue → KeyValue → Ordering
parts_cmp = then_cmp (on rank nat_cmp) (then_cmp (on number_in nat_cmp) (then_cmp (on signed_in int_cmp) (on list_in (slice_cmp nat_cmp))))

parts_total : IsTotalOrder parts_cmp
parts_total =
    then_total (on_total rank nat_cmp_total)
    (then_total (on_total number_in nat_cmp_total) (then_total (on_total signed_in int_cmp_total) (on_total list_in (lists_total nat_cmp_total))))

same_parts : (k l : KeyValue) → parts_cmp k l ≡ value_cmp k l
same_parts (bool false) (bool false) = refl
same_parts (bool false) (bool true) = refl
same_parts (bool true) (bool false) = refl
same_parts (bool true) (bool true) = refl
same_parts (u64 n) (u64 m) = then_equal (nat_cmp n m)
same_parts (i64 y) (i64 z) = then_equal (int_cmp y z)
same_parts (u128 n) (u128 m) = then_equal (nat_cmp n m)
same_parts (i128 y) (i128 z) = then_equal (int_cmp y z)
same_parts (text s) (text r) = refl
same_parts (bytes s) (bytes r) = refl
same_parts other other = refl
same_parts k l = refl

pub value_total : IsTotalOrder value_cmp
value_total = as_total parts_cmp value_cmp parts_total same_parts

abbrev pub shown_cmp : Key → Key → Ordering
shown_cmp x y = value_cmp (key_value x) (key_value y)

pub shown_total : IsTotalOrder shown_cmp
shown_total = on_total key_value value_total

-- what a key is compared by where its value does not tell it from others: the tree, as it stands
abbrev left_of : KeyValue → t.Tree → t.Trees
left_of other k = t.tree k t.no_trees
left_of _ k = t.no_trees

abbrev then_left_cmp : t.Tree → t.Tree → Ordering
then_left_cmp = then_cmp (on key_of value_cmp) (on (λ k. left_of (key_of k) k) trees_cmp)

then_left_total : IsTotalOrder then_left_cmp
then_left_total = then_total (on_total key_of value_total) (on_total (λ k. left_of (key_of k) k) trees_total)

same_left : (a b : KeyValue) (k l : t.Tree) → ordering_then (value_cmp a b) (trees_cmp (left_of a k) (left_of b l)) ≡ cond (is_other a && is_other b) (tree_cmp k l) (value_cmp a b)
same_left other other k l = then_equal (tree_cmp k l)
same_left (bool b) (bool c) k l = then_equal _
same_left (u64 n) (u64 m) k l = then_equal _
same_left (i64 y) (i64 z) k l = then_equal _
same_left (u128 n) (u128 m) k l = then_equal _
same_left (i128 y) (i128 z) k l = then_equal _
same_left (text s) (text r) k l = then_equal _
same_left (bytes s) (bytes r) k l = then_equal _
same_left a b k l = refl

pub key_total : IsTotalOrder key_cmp
key_total = as_total then_left_cmp key_cmp then_left_total (λ k l. same_left (key_of k) (key_of l) k l)
