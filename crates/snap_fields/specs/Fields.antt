-- The fields that pairs of trees tell, whoever made them. Keys and values are looked at inside their wrappers.
use Rattle.std.specs.Prelude.{◌^◌, ◌&&◌, not, ℕ, ℤ, pos, Bool, false, List, Option, None, Some, option_and_then, nat_lt, if◌then◌else◌}
use Rattle.std.specs.Option.{option_or}
use Rattle.std.specs.Str.{bytes_eq}
use Rattle.snap_content.specs.Access.{resolved, text_in, is_nil_tree, whole_number_in}
use Rattle.snap_content.specs.Tree.{Tree, TreePairs, no_pairs, pair}

-- the text is there, and is this word
abbrev pub is_text : List ℕ → Option (List ℕ) → Bool
is_text word None = false
is_text word (Some s) = bytes_eq s word

-- the text that a tree is
abbrev pub tree_text : Tree → Option (List ℕ)
tree_text t = text_in (resolved t)

-- a whole number below 2^32
abbrev pub line_number : Option ℤ → Option ℕ
line_number (Some (pos n)) = if nat_lt n (2 ^ 32) then Some n else None
line_number _ = None

-- the number of a line that a tree is
abbrev pub tree_line : Tree → Option ℕ
tree_line t = line_number (whole_number_in (resolved t))

-- the tree is nil, seen inside its wrappers
abbrev pub is_nil : Tree → Bool
is_nil t = is_nil_tree (resolved t)

-- the key is this name
abbrev pub is_key : List ℕ → Tree → Bool
is_key name key = is_text name (tree_text key)

-- the value of the last pair that passes a test
abbrev pub last_by : (Tree → Tree → Bool) → TreePairs → Option Tree
last_by passes no_pairs = None
last_by passes (pair key value more) = option_or (last_by passes more) (if passes key value then Some value else None)

-- the value of the last pair of this name
abbrev pub last_in : List ℕ → TreePairs → Option Tree
last_in name = last_by (λ key value. is_key name key)

-- the same, where a pair with a nil value is as if it were not there
abbrev pub last_filled_in : List ℕ → TreePairs → Option Tree
last_filled_in name = last_by (λ key value. is_key name key && not (is_nil value))

-- the text under a name; a field of another type is as if it were not there
abbrev pub text_at : List ℕ → TreePairs → Option (List ℕ)
text_at name pairs = option_and_then tree_text (last_in name pairs)

-- the number of a line under a name, which is below 2^32
abbrev pub line_at : List ℕ → TreePairs → Option ℕ
line_at name pairs = option_and_then tree_line (last_in name pairs)
