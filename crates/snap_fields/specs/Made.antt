-- The fields of the pairs that a reader makes of entries: what the trees of these pairs tell, with plain values.
use Rattle.std.specs.Prelude.{◌&&◌, not, ℕ, Bool, List, Option, None, Some, option_map, option_and_then, if◌then◌else◌}
use Rattle.std.specs.Option.{option_or}
use Rattle.snap_content.specs.Plain.{Plain, content_of, Entries, entry, no_entries}
use Rattle.snap_content.specs.Tree.{Tree}
use Rattle.snap_fields.specs.Fields.{is_key, is_nil, tree_text, tree_line}

-- the value of the last entry whose pair passes a test
abbrev pub last_made : (Tree → Tree → Bool) → Entries → Option Plain
last_made passes no_entries = None
last_made passes (entry key value more) =
    option_or (last_made passes more) (if passes (content_of key) (content_of value) then Some value else None)

-- the value of the last pair of this name
abbrev pub last_value : List ℕ → Entries → Option Plain
last_value name = last_made (λ key value. is_key name key)

-- the last value under a name that is not nil
abbrev pub last_filled : List ℕ → Entries → Option Plain
last_filled name = last_made (λ key value. is_key name key && not (is_nil value))

-- the text of a field; one of another type is as if it were not there
abbrev pub text_value : Option Plain → Option (List ℕ)
text_value field = option_and_then tree_text (option_map content_of field)

-- the number of a line, which is below 2^32
abbrev pub line_value : Option Plain → Option ℕ
line_value field = option_and_then tree_line (option_map content_of field)
