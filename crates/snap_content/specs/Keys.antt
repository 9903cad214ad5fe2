-- What a tree is as a key of a map, and the order of keys.
use Rattle.std.specs.Prelude.{ℕ, ℤ, Bool, true, false, List, ◌&&◌, if◌then◌else◌}
use Rattle.std.specs.Str.{chars}
use Rattle.std.specs.declared.cmp.Ordering.{Ordering}
use Rattle.std.specs.Ordering.{nat_cmp, int_cmp, bool_cmp}
use Rattle.snap_content.specs.Tree as t
use Rattle.snap_content.specs.Access.{resolved}
use Rattle.snap_content.specs.Orders.{text_cmp, tree_cmp}
use Rattle.snap_content.specs.declared.key.Key.{Key}
use Rattle.snap_content.specs.declared.key.Key.TheVariants as v

-- the value of a key, and its kind; every other tree is of one kind, without a value
pub data KeyValue : Type 0 where
  bool : Bool → KeyValue
  u64 : ℕ → KeyValue
  i64 : ℤ → KeyValue
  u128 : ℕ → KeyValue
  i128 : ℤ → KeyValue
  text : List ℕ → KeyValue
  bytes : List ℕ → KeyValue
  other : KeyValue

-- where the kind stands among the eight
abbrev pub rank : KeyValue → ℕ
rank (bool _) = 0
rank (u64 _) = 1
rank (i64 _) = 2
rank (u128 _) = 3
rank (i128 _) = 4
rank (text _) = 5
rank (bytes _) = 6
rank other = 7

-- whole numbers of up to 64 bits are of two kinds, with and without a sign; a character is a number
abbrev pub key_in : t.Tree → KeyValue
key_in (t.bool b) = bool b
key_in (t.u8 n) = u64 n
key_in (t.u16 n) = u64 n
key_in (t.u32 n) = u64 n
key_in (t.u64 n) = u64 n
key_in (t.char c) = u64 c
key_in (t.i8 z) = i64 z
key_in (t.i16 z) = i64 z
key_in (t.i32 z) = i64 z
key_in (t.i64 z) = i64 z
key_in (t.u128 n) = u128 n
key_in (t.i128 z) = i128 z
key_in (t.string s) = text s
key_in (t.bytes s) = bytes s
key_in _ = other

-- the key that a tree is, inside its wrappers
abbrev pub key_of : t.Tree → KeyValue
key_of k = key_in (resolved k)

abbrev pub is_other : KeyValue → Bool
is_other other = true
is_other _ = false

-- keys by their ranks, and those of one rank by their values
abbrev pub value_cmp : KeyValue → KeyValue → Ordering
value_cmp (bool b) (bool c) = bool_cmp b c
value_cmp (u64 n) (u64 m) = nat_cmp n m
value_cmp (i64 y) (i64 z) = int_cmp y z
value_cmp (u128 n) (u128 m) = nat_cmp n m
value_cmp (i128 y) (i128 z) = int_cmp y z
value_cmp (text s) (text r) = text_cmp s r
value_cmp (bytes s) (bytes r) = text_cmp s r
value_cmp k l = nat_cmp (rank k) (rank l)

-- the key order: by rank, then by value; two keys of the last rank by the order of trees, as they stand
abbrev pub key_cmp : t.Tree → t.Tree → Ordering
key_cmp k l = if is_other (key_of k) && is_other (key_of l) then tree_cmp k l else value_cmp (key_of k) (key_of l)

-- what a `Key` shows
abbrev pub key_value : Key → KeyValue
key_value (v.Bool b) = bool b
key_value (v.U64 n) = u64 n
key_value (v.I64 z) = i64 z
key_value (v.U128 n) = u128 n
key_value (v.I128 z) = i128 z
key_value (v.Str s) = text (chars s.now)
key_value (v.Bytes s) = bytes s.now
key_value v.Other = other
