-- What is seen of a tree from outside.
use Rattle.std.specs.Prelude.{ℕ, ◌^◌, ℤ, pos, negsuc, Bool, true, false, List, Option, None, Some, nat_lt, if◌then◌else◌}
use Rattle.snap_content.specs.Tree.{Tree, Trees, bool, bytes, seq, tuple, tuple_variant, some, newtype_struct, newtype_variant, string, none, unit, u8, u16, u32, u64, u128, i8, i16, i32, i64, i128}

-- the tree inside wrappers
abbrev pub resolved : Tree → Tree
resolved (some inner) = resolved inner
resolved (newtype_struct name inner) = resolved inner
resolved (newtype_variant name index variant inner) = resolved inner
resolved other = other

-- whether a tree is a wrapper
abbrev pub wraps : Tree → Bool
wraps (some inner) = true
wraps (newtype_struct name inner) = true
wraps (newtype_variant name index variant inner) = true
wraps other = false

-- the same wrappers around another tree
abbrev pub rewrapped : Tree → Tree → Tree
rewrapped (some inner) new = some (rewrapped inner new)
rewrapped (newtype_struct name inner) new = newtype_struct name (rewrapped inner new)
rewrapped (newtype_variant name index variant inner) new = newtype_variant name index variant (rewrapped inner new)
rewrapped other new = new

-- the text that a tree is, if it is one
abbrev pub text_in : Tree → Option (List ℕ)
text_in (string s) = Some s
text_in _ = None

-- a tree that is `None` or `Unit`
abbrev pub is_nil_tree : Tree → Bool
is_nil_tree none = true
is_nil_tree unit = true
is_nil_tree _ = false

-- the whole number that a tree is
abbrev pub whole_number_in : Tree → Option ℤ
whole_number_in (u8 n) = Some (pos n)
whole_number_in (u16 n) = Some (pos n)
whole_number_in (u32 n) = Some (pos n)
whole_number_in (u64 n) = Some (pos n)
whole_number_in (u128 n) = Some (pos n)
whole_number_in (i8 z) = Some z
whole_number_in (i16 z) = Some z
whole_number_in (i32 z) = Some z
whole_number_in (i64 z) = Some z
whole_number_in (i128 z) = Some z
whole_number_in _ = None

-- a number below 2^64
abbrev pub fitting_u64 : Option ℤ → Option ℕ
fitting_u64 (Some (pos n)) = if nat_lt n (2 ^ 64) then Some n else None
fitting_u64 (Some (negsuc n)) = None
fitting_u64 None = None

-- the number, where it is from 0 to 2^128 - 1
abbrev pub fitting_u128 : Option ℤ → Option ℕ
fitting_u128 (Some (pos n)) = if nat_lt n (2 ^ 128) then Some n else None
fitting_u128 (Some (negsuc n)) = None
fitting_u128 None = None

-- the number, where it is from -2^63 to 2^63 - 1
abbrev pub fitting_i64 : Option ℤ → Option ℤ
fitting_i64 (Some (pos n)) = if nat_lt n (2 ^ 63) then Some (pos n) else None
fitting_i64 (Some (negsuc n)) = if nat_lt n (2 ^ 63) then Some (negsuc n) else None
fitting_i64 None = None

-- the number, where it is from -2^127 to 2^127 - 1
abbrev pub fitting_i128 : Option ℤ → Option ℤ
fitting_i128 (Some (pos n)) = if nat_lt n (2 ^ 127) then Some (pos n) else None
fitting_i128 (Some (negsuc n)) = if nat_lt n (2 ^ 127) then Some (negsuc n) else None
fitting_i128 None = None

-- the bytes that a tree is, if it is bytes
abbrev pub bytes_in : Tree → Option (List ℕ)
bytes_in (bytes held) = Some held
bytes_in _ = None

-- the truth value that a tree is, if it is one
abbrev pub bool_in : Tree → Option Bool
bool_in (bool value) = Some value
bool_in _ = None

-- the trees that stand side by side in a sequence, a tuple or a tuple variant
abbrev pub items_in : Tree → Option Trees
items_in (seq items) = Some items
items_in (tuple items) = Some items
items_in (tuple_variant name index variant items) = Some items
items_in _ = None
