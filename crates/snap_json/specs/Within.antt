-- Numbers of at most 128 bits, in what JSON keeps of a tree and of what it holds.
use Rattle.std.specs.Prelude.{ℕ, pos, List}
use Rattle.snap_content.specs.View.{tree}
use Rattle.snap_content.specs.declared.content.Content.{Content}
use Rattle.snap_print.specs.Readable.{IsNumber, IsWithin}
use Rattle.snap_json.specs.JsonPlain.{json_plain}

-- each number that JSON keeps of a tree has at most 128 bits
abbrev pub IsKeptWithin : Content → Type 0
IsKeptWithin value = IsWithin (json_plain (tree value))

-- the same of the value of a pair, of the value of a field, and of a byte
abbrev pub IsPairWithin : Content × Content → Type 0
IsPairWithin pair = IsKeptWithin pair.1

abbrev pub IsFieldWithin : List ℕ × Content → Type 0
IsFieldWithin field = IsKeptWithin field.1

abbrev pub IsByteWithin : ℕ → Type 0
IsByteWithin byte = IsNumber (pos byte)
