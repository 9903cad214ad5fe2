-- What is written of the lists that a tree holds.
use Rattle.std.specs.Prelude.{ℕ, ◌+◌, List, [], ◌∷◌, pos}
use Rattle.snap_content.specs.Plain.{int, text}
use Rattle.snap_content.specs.View.{tree}
use Rattle.snap_content.specs.declared.content.Content.{Content}
use Rattle.snap_json.specs.Layout.{opening, closing, comma}
use Rattle.snap_json.specs.JsonPlain.{json_plain, json_key, key_plain}
use Rattle.snap_json.specs.Written.{Written, whole, behind, written, member_written}
use Rattle.snap_json.specs.declared.format.Format.{Format}

-- one after the other
abbrev pub all_written : {X : Type 0} → (X → Written) → List X → Written
all_written w [] = whole []
all_written w (x ∷ xs) = behind (w x) (all_written w xs)

-- a further element
abbrev pub further : {X : Type 0} → Format → ℕ → (X → Written) → X → Written
further layout k w x = behind (whole (comma layout k)) (w x)

-- a collection at a column, from what is written of an element at the column of its elements
abbrev pub collection : {X : Type 0} → Format → ℕ → ℕ → ℕ → ℕ → (X → Written) → List X → Written
collection layout k inner open_bracket close_bracket w [] = whole (open_bracket ∷ close_bracket ∷ [])
collection layout k inner open_bracket close_bracket w (x ∷ xs) =
    behind (whole (opening layout inner open_bracket))
    (behind (w x) (behind (all_written (further layout inner w) xs) (whole (closing layout k close_bracket))))

-- what is written of a tree at a column, up to the first key that JSON refuses
abbrev pub value_written : Format → ℕ → Content → Written
value_written layout k value = written layout k (json_plain (tree value))

abbrev pub byte_written : Format → ℕ → ℕ → Written
byte_written layout k byte = written layout k (int (pos byte))

abbrev pub pair_key : Format → Content → Written
pair_key layout key = member_written layout (key_plain (json_key (tree key)))

abbrev pub pair_written : Format → ℕ → Content × Content → Written
pair_written layout k pair = behind (pair_key layout pair.0) (value_written layout k pair.1)

abbrev pub field_written : Format → ℕ → List ℕ × Content → Written
field_written layout k field = behind (member_written layout (text field.0)) (value_written layout k field.1)

-- the lists of a tree at a column, their elements at another
abbrev pub bytes_at : Format → ℕ → List ℕ → ℕ → Written
bytes_at layout k bytes inner = collection layout k inner 91 93 (byte_written layout inner) bytes

abbrev pub item_list_at : Format → ℕ → List Content → ℕ → Written
item_list_at layout k items inner = collection layout k inner 91 93 (value_written layout inner) items

abbrev pub pair_list_at : Format → ℕ → List (Content × Content) → ℕ → Written
pair_list_at layout k pairs inner = collection layout k inner 123 125 (pair_written layout inner) pairs

abbrev pub field_list_at : Format → ℕ → List (List ℕ × Content) → ℕ → Written
field_list_at layout k fields inner = collection layout k inner 123 125 (field_written layout inner) fields

-- the same with the elements two columns further in
abbrev pub bytes_written : Format → ℕ → List ℕ → Written
bytes_written layout k bytes = bytes_at layout k bytes (k + 2)

abbrev pub item_list_written : Format → ℕ → List Content → Written
item_list_written layout k items = item_list_at layout k items (k + 2)

abbrev pub pair_list_written : Format → ℕ → List (Content × Content) → Written
pair_list_written layout k pairs = pair_list_at layout k pairs (k + 2)

abbrev pub field_list_written : Format → ℕ → List (List ℕ × Content) → Written
field_list_written layout k fields = field_list_at layout k fields (k + 2)

-- an object of one member, up to its value, and with it
abbrev pub variant_opening : Format → ℕ → List ℕ → Written
variant_opening layout k name = behind (whole (opening layout k 123)) (member_written layout (text name))

abbrev pub variant_written : Format → ℕ → ℕ → List ℕ → Written → Written
variant_written layout k inner name value = behind (variant_opening layout inner name) (behind value (whole (closing layout k 125)))
