-- Changes of a store's files, one after the other.
use Rattle.std.specs.Prelude.{◌≡◌, ℕ, List, [], ◌∷◌, Option}
use Rattle.std.specs.FinMap.{insert, remove}
use Rattle.snap_io.specs.Files.{Files, SameBut, MayBeGone, appended}

-- a call of a store that changes the file at a path
pub data Change : Type 0 where
  writes : List ℕ → List ℕ → Change
  appends : List ℕ → List ℕ → Change
  removes : List ℕ → Change

abbrev pub path_in : Change → List ℕ
path_in (writes path bytes) = path
path_in (appends path bytes) = path
path_in (removes path) = path

-- the files once it is done
abbrev pub changed : Change → Files → Files
changed (writes path bytes) m = insert m path bytes
changed (appends path bytes) m = appended m path bytes
changed (removes path) m = remove m path

-- the files once all are done, in order
abbrev pub all_changed : List Change → Files → Files
all_changed [] m = m
all_changed (c ∷ cs) m = all_changed cs (changed c m)

-- what one that stopped may leave: the file at its path alone is unknown, and one that was to go is gone or as before
abbrev pub MayLeave : Change → Files → Option Files → Type 0
MayLeave (writes path bytes) m now = SameBut path m now
MayLeave (appends path bytes) m now = SameBut path m now
MayLeave (removes path) m now = MayBeGone path m now
