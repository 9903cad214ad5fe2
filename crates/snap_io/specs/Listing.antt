-- What an open folder told: the names of what stands in it.
use Rattle.std.specs.Prelude.{◌≡◌, ◌==◌, ◌≤◌, ◌<◌, ◌⊎◌, ◌^◌, ◌-◌, ◌&&◌, ⊤, not, ℕ, Bool, List, [], ◌∷◌, ◌++◌, length, map, Result, Ok, Err}
use Rattle.std.specs.List.{filter, slice_split}
use Rattle.std.specs.Str.{chars, bytes_eq, is_utf8}
use Rattle.snap_io.specs.Calls.{History, lists, tells, tells_nothing}
use Rattle.snap_io.specs.Limits.{most_names}
use Rattle.snap_io.specs.declared.call.Answer.TheVariants.{Done, Missing}
use Rattle.snap_io.specs.declared.call.Answer.TheVariants.{Failed as NotDone}
use Rattle.snap_io.specs.declared.outside.StoreError.{StoreError}
use Rattle.snap_io.specs.declared.outside.StoreError.TheVariants.{Failed, OutOfMemory}

-- neither empty, nor the folder itself, nor the one above
abbrev pub is_entry : List ℕ → Bool
is_entry name = not (bytes_eq name []) && not (bytes_eq name (46 ∷ [])) && not (bytes_eq name (46 ∷ 46 ∷ []))

-- an entry's name that is text
abbrev pub is_listed : List ℕ → Bool
is_listed name = is_utf8 name && is_entry name

abbrev pub is_zero : ℕ → Bool
is_zero byte = byte == 0

-- the names in the bytes, each ended by a 0
abbrev pub names_in : List ℕ → List (List ℕ)
names_in bytes = map chars (filter is_listed (slice_split is_zero bytes))

-- since then the open folder told these names, in one piece or more
pub data Told (before : History) : List (List ℕ) → History → Type 0 where
  none_yet : Told before [] before
  more : (names : List (List ℕ)) (piece : List ℕ) (now : History) → Told before names now → Told before (names ++ names_in piece) (tells piece ∷ now)

-- The open folder told these names to its end, at most so many. Else it failed, or told more, or in more pieces than can be counted.
abbrev pub ToldToEnd : ℕ → Result (List (List ℕ)) StoreError → History → History → Type 0
ToldToEnd most (Ok names) before now = (last : History) × Told before names last × (now ≡ tells [] ∷ last) × (length names ≤ most)
ToldToEnd most (Err Failed) before now =
    (names : List (List ℕ)) × (
    ((last : History) × Told before names last × (now ≡ tells_nothing ∷ last))
    ⊎ (Told before names now × (most < length names))
    ⊎ (2 ^ 64 - 1 ≤ length now)
    )
ToldToEnd most (Err OutOfMemory) before now = ⊤

-- the folder's path with a slash after it, so that a link there is followed; the working folder is a dot to the system
abbrev pub opened_folder : List ℕ → List ℕ
opened_folder [] = 46 ∷ 47 ∷ []
opened_folder (byte ∷ bytes) = (byte ∷ bytes) ++ 47 ∷ []

-- the folder was opened and told its names to the end, or is not there
abbrev pub FolderTold : ℕ → List ℕ → Result (List (List ℕ)) StoreError → History → History → Type 0
FolderTold most folder (Ok names) before now = ((now ≡ lists (opened_folder folder) Missing ∷ before) × (names ≡ [])) ⊎ ToldToEnd most (Ok names) (lists (opened_folder folder) Done ∷ before) now
FolderTold most folder (Err Failed) before now = (now ≡ lists (opened_folder folder) NotDone ∷ before) ⊎ ToldToEnd most (Err Failed) (lists (opened_folder folder) Done ∷ before) now
FolderTold most folder (Err OutOfMemory) before now = ⊤

-- what a list asks of the system: the folder was opened and told its names to the end, at most so many, or is not there
abbrev pub FolderListed : List ℕ → Result (List (List ℕ)) StoreError → History → History → Type 0
FolderListed folder result before now = FolderTold most_names folder result before now
