-- How a path is shown, as UTF-8.
use Rattle.std.specs.Prelude.{ℕ, List, [], ◌∷◌, ◌++◌, codes, encode_utf8_all}
use Rattle.std.specs.Fmt.{decimal}
use Rattle.std.specs.Option.{option_map_or}
use Rattle.snap_content.specs.Access.{resolved, text_in}
use Rattle.snap_content.specs.Tree.{Tree}
use Rattle.snap_select.specs.Matching.{Step, under_key, into_field, to_item}

-- the text of a text key, and `<content>` for any other
abbrev pub key_text : Tree → List ℕ
key_text key = option_map_or (λ text. text) (text_in (resolved key)) (codes "<content>")

-- the text of a key, a field's name, and an index in decimal digits
abbrev pub step_text : Step → List ℕ
step_text (under_key key) = encode_utf8_all (key_text key)
step_text (into_field name) = encode_utf8_all name
step_text (to_item index length) = decimal index

-- a dot before each step
abbrev pub path_text : List Step → List ℕ
path_text [] = []
path_text (step ∷ steps) = 46 ∷ (step_text step ++ path_text steps)
