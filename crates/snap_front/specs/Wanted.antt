-- What the words of a command line ask for.
use Rattle.std.specs.Prelude.{◌≡◌, ◌⊎◌, ◌++◌, ℕ, List, [], ◌∷◌, Option, None, Some, codes, option_map, option_and_then, if◌then◌else◌}
use Rattle.std.specs.Str.{bytes_eq}
use Rattle.snap_select.specs.Selected.{selected}
use Rattle.snap_front.specs.Paths.{steps_of, path_in}
use Rattle.snap_front.specs.Reading.{IsReadOf, ReadsAsNone}
use Rattle.snap_front.specs.declared.words.Request.{Request}
use Rattle.snap_front.specs.declared.words.Request.TheVariants.{Get, Set, Remove, Format}
use Rattle.snap_front.specs.declared.step.Step.{Step}

-- to get what stands at the end of a path, to set it to what a text reads as, to remove it, or to print the header anew
pub data Wanted : Type 0 where
  to_get : List Step → Wanted
  to_set : List Step → List ℕ → Wanted
  to_remove : List Step → Wanted
  to_format : Wanted

-- the steps of a text that is a selector of one part, with keys and indices alone
abbrev pub path_read : List ℕ → Option (List Step)
path_read text = option_and_then path_in (selected text)

-- after `get` and `remove`
abbrev pub path_then : (List Step → Wanted) → List (List ℕ) → Option Wanted
path_then make (path ∷ []) = option_map make (path_read path)
path_then make other = None

-- after `set`
abbrev pub set_then : List (List ℕ) → Option Wanted
set_then (path ∷ value ∷ []) = option_map (λ steps. to_set steps value) (path_read path)
set_then other = None

-- after `format`
abbrev pub format_then : List (List ℕ) → Option Wanted
format_then [] = Some to_format
format_then other = None

-- the words are `get PATH`, `set PATH VALUE`, `remove PATH` or `format`
abbrev pub wanted_in : List (List ℕ) → Option Wanted
wanted_in [] = None
wanted_in (verb ∷ words) =
    if bytes_eq verb (codes "get") then path_then to_get words
    else (if bytes_eq verb (codes "set") then set_then words
    else (if bytes_eq verb (codes "remove") then path_then to_remove words
    else (if bytes_eq verb (codes "format") then format_then words else None)))

-- a value on the command line as a document
abbrev pub value_text : List ℕ → List ℕ
value_text value = codes "---\n" ++ (value ++ 10 ∷ [])

-- the words are of no such form, or their value reads as no tree
abbrev pub AreBad : Option Wanted → Type 0
AreBad wanted = (wanted ≡ None) ⊎ ((steps : List Step) × (value : List ℕ) × (wanted ≡ Some (to_set steps value)) × ReadsAsNone (value_text value))

-- the request is what the words ask for, its value read
abbrev pub IsRequest : Option Wanted → Option Request → Type 0
IsRequest wanted (Some (Get path)) = wanted ≡ Some (to_get (steps_of path))
IsRequest wanted (Some (Set path made)) = (value : List ℕ) × (wanted ≡ Some (to_set (steps_of path) value)) × IsReadOf (value_text value) (Some made)
IsRequest wanted (Some (Remove path)) = wanted ≡ Some (to_remove (steps_of path))
IsRequest wanted (Some Format) = wanted ≡ Some to_format
IsRequest wanted None = AreBad wanted
