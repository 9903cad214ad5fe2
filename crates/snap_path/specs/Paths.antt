-- Paths as texts.
use Rattle.std.specs.Prelude.{◌≡◌, ◌==◌, ℕ, List, [], ◌∷◌, ◌++◌, Bool, true, false, not, Option, None, Some, if◌then◌else◌, codes}
use Rattle.std.specs.List.{filter, flat_map}
use Rattle.std.specs.Str.{bytes_eq}
use Rattle.snap_content.specs.Front.{begins}
use Rattle.snap_str.specs.Lines.{onto}

-- the text, cut at each slash
abbrev pub between_slashes : List ℕ → List (List ℕ)
between_slashes [] = [] ∷ []
between_slashes (c ∷ cs) = if c == 47 then [] ∷ between_slashes cs else onto c (between_slashes cs)

-- neither empty nor a dot
abbrev pub is_component : List ℕ → Bool
is_component [] = false
is_component (c ∷ []) = not (c == 46)
is_component (c ∷ d ∷ cs) = true

-- the pieces of a path between slashes, without empty ones and `.`
abbrev pub components : List ℕ → List (List ℕ)
components path = filter is_component (between_slashes path)

abbrev pub is_absolute : List ℕ → Bool
is_absolute path = begins 47 path

-- the texts with a slash between each two
abbrev pub slashed : List (List ℕ) → List ℕ
slashed [] = []
slashed (part ∷ []) = part
slashed (part ∷ next ∷ parts) = part ++ 47 ∷ slashed (next ∷ parts)

abbrev pub path_of_parts : Bool → List (List ℕ) → List ℕ
path_of_parts absolute parts = if absolute then 47 ∷ slashed parts else slashed parts

-- the tail's components after the base's; an absolute tail stands for itself
abbrev pub joined : List ℕ → List ℕ → List ℕ
joined base tail =
    if is_absolute tail then path_of_parts true (components tail)
    else path_of_parts (is_absolute base) (components base ++ components tail)

abbrev pub all_but_last : List (List ℕ) → List (List ℕ)
all_but_last [] = []
all_but_last (part ∷ []) = []
all_but_last (part ∷ next ∷ parts) = part ∷ all_but_last (next ∷ parts)

abbrev pub last_of : List (List ℕ) → Option (List ℕ)
last_of [] = None
last_of (part ∷ []) = Some part
last_of (part ∷ next ∷ parts) = last_of (next ∷ parts)

-- the path without its last component
abbrev pub parent_of : List ℕ → List ℕ
parent_of path = path_of_parts (is_absolute path) (all_but_last (components path))

-- the last component, if there is one
abbrev pub name_of : List ℕ → Option (List ℕ)
name_of path = last_of (components path)

-- what is left of two lists without their common front
pub record Apart : Type 0 where
  pub path : List (List ℕ)
  pub base : List (List ℕ)

abbrev pub apart : List (List ℕ) → List (List ℕ) → Apart
apart [] base = record { path = []; base = base }
apart (p ∷ path) [] = record { path = p ∷ path; base = [] }
apart (p ∷ path) (b ∷ base) = if bytes_eq p b then apart path base else record { path = p ∷ path; base = b ∷ base }

-- no part of the two is common at their fronts
abbrev pub AreApart : List (List ℕ) → List (List ℕ) → Type 0
AreApart path base = apart path base ≡ record { path = path; base = base }

-- one step up for each part
abbrev pub steps_up : List (List ℕ) → List (List ℕ)
steps_up [] = []
steps_up (part ∷ parts) = codes ".." ∷ steps_up parts

abbrev pub from_apart : Apart → List ℕ
from_apart a = slashed (steps_up a.base ++ a.path)

abbrev pub same_start : Bool → Bool → Bool
same_start true absolute = absolute
same_start false absolute = not absolute

-- the path as it is seen from the base: without their common front, after one `..` for each component that the base has left; where only
-- one of both is absolute, the path itself
abbrev pub relative_from : List ℕ → List ℕ → List ℕ
relative_from path base =
    if same_start (is_absolute path) (is_absolute base) then from_apart (apart (components path) (components base))
    else path_of_parts (is_absolute path) (components path)

-- a name of one component
abbrev pub IsName : List ℕ → Type 0
IsName name = components name ≡ name ∷ []

-- what comes before a name in the path of a file of a folder that has these parts
abbrev pub front_behind : Bool → List (List ℕ) → List ℕ
front_behind absolute [] = path_of_parts absolute []
front_behind absolute (part ∷ parts) = path_of_parts absolute (part ∷ parts) ++ 47 ∷ []

-- what comes before the names of a folder's files in their paths
abbrev pub front_of : List ℕ → List ℕ
front_of folder = front_behind (is_absolute folder) (components folder)

-- a slash, and the part after it
abbrev pub behind_slash : List ℕ → List ℕ
behind_slash part = 47 ∷ part

-- the parts with a slash between each two, and one before the first where others stand before it
abbrev pub then_slashed : Bool → List (List ℕ) → List ℕ
then_slashed true parts = flat_map behind_slash parts
then_slashed false parts = slashed parts

-- a part comes before what follows
abbrev pub stand_behind : Bool → List (List ℕ) → Bool
stand_behind behind [] = behind
stand_behind behind (part ∷ parts) = true

-- a path of no part
abbrev pub start : Bool → List ℕ
start absolute = if absolute then 47 ∷ [] else []
