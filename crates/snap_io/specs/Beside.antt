-- The folder of a path, the helper beside the file, and the snapshot of a pending file.
use Rattle.std.specs.Prelude.{◌≡◌, ℕ, List, [], ◌∷◌, ◌++◌, Option, None, Some}
use Rattle.std.specs.Fmt.{decimal}
use Rattle.std.specs.Path.{slash, dot, rsplit_once}

-- what stands before the last slash; else the working folder
abbrev pub folder_before : Option (List ℕ × List ℕ) → List ℕ
folder_before None = dot ∷ []
folder_before (Some ([], name)) = slash ∷ []
folder_before (Some (byte ∷ bytes, name)) = byte ∷ bytes

abbrev pub folder_of : List ℕ → List ℕ
folder_of path = folder_before (rsplit_once slash path)

-- `.snap-writing-` and the number
abbrev pub helper_name : ℕ → List ℕ
helper_name number = (46 ∷ 115 ∷ 110 ∷ 97 ∷ 112 ∷ 45 ∷ 119 ∷ 114 ∷ 105 ∷ 116 ∷ 105 ∷ 110 ∷ 103 ∷ 45 ∷ []) ++ decimal number

-- in the same folder, a hidden file of that name
abbrev pub helper_beside : Option (List ℕ × List ℕ) → ℕ → List ℕ
helper_beside None number = helper_name number
helper_beside (Some (folder, name)) number = folder ++ (slash ∷ []) ++ helper_name number

abbrev pub helper_of : List ℕ → ℕ → List ℕ
helper_of path number = helper_beside (rsplit_once slash path) number

-- the path is that of the pending file of this snapshot: the snapshot's, and `.new`
abbrev pub WaitsFor : List ℕ → List ℕ → Type 0
WaitsFor path snapshot = path ≡ snapshot ++ 46 ∷ 110 ∷ 101 ∷ 119 ∷ []
