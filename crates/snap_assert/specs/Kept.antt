-- What an assertion leaves as it was, whatever it answers.
use Rattle.std.specs.Prelude.{◌≡◌, ◌⊎◌, ◌||◌, ℕ, Bool, true, false, List, Option, None, Some, Result, Ok, Err}
use Rattle.std.specs.FinMap.{get}
use Rattle.std.specs.Str.{bytes_eq}
use Rattle.snap_io.specs.Files.{Files}
use Rattle.snap_io.specs.Outside.{Given}
use Rattle.snap_path.specs.Paths.{parent_of}
use Rattle.snap_store.specs.Saving.{sidecar_path}
use Rattle.snap_assert.specs.Steps.{is_stray, pending_path}
use Rattle.snap_assert_settings.specs.declared.config.Update.{Update}
use Rattle.snap_assert_settings.specs.declared.config.Update.TheVariants.{InPlace, NewFile, NoUpdate}
use Rattle.snap_assert.specs.declared.error.AssertError.{AssertError}
use Rattle.snap_assert.specs.declared.error.AssertError.TheVariants.{FileIo}

-- the one path that the mode writes
abbrev pub is_written : Update → List ℕ → List ℕ → Bool
is_written InPlace path q = bytes_eq q path
is_written NewFile path q = bytes_eq q (pending_path path)
is_written NoUpdate path q = false

-- the path of a payload with this extension that the mode writes
abbrev pub is_payload_written : Update → List ℕ → List ℕ → List ℕ → Bool
is_payload_written InPlace path extension q = bytes_eq q (sidecar_path path extension)
is_payload_written NewFile path extension q = bytes_eq q (sidecar_path (pending_path path) extension)
is_payload_written NoUpdate path extension q = false

-- the paths that the mode writes of a payload with this extension, or without one
abbrev pub is_written_with : Option (List ℕ) → Update → List ℕ → List ℕ → Bool
is_written_with None mode path q = is_written mode path q
is_written_with (Some extension) mode path q = is_written mode path q || is_payload_written mode path extension q

-- what is pending, which goes in each mode: the pending snapshot, and its payloads
abbrev pub is_waiting : List ℕ → List ℕ → Bool
is_waiting path q = bytes_eq q (pending_path path) || is_stray path q

-- the files that an assertion may change: what the mode writes, and what is pending
abbrev pub may_change : Update → List ℕ → List ℕ → Bool
may_change mode path q = is_written mode path q || is_waiting path q

abbrev pub may_change_with : Option (List ℕ) → Update → List ℕ → List ℕ → Bool
may_change_with extension mode path q = is_written_with extension mode path q || is_waiting path q

abbrev pub IsKeptOrGone : Option (List ℕ) → Option (List ℕ) → Type 0
IsKeptOrGone before now = (now ≡ before) ⊎ (now ≡ None)

-- now is known: a file that the first test leaves out is as before or gone, and one that the second leaves out as before
pub record Keeps (written changed : List ℕ → Bool) (m : Files) (now : Option Files) : Type 0 where
  pub files : Files
  pub told : now ≡ Some files
  pub unwritten : (q : List ℕ) → written q ≡ false → IsKeptOrGone (get m q) (get files q)
  pub others : (q : List ℕ) → changed q ≡ false → get files q ≡ get m q

-- no path at all
abbrev pub is_none : List ℕ → Bool
is_none q = false

-- the file at the path alone may be removed
abbrev pub IsTakenAlone : List ℕ → Option Files → Option Files → Type 0
IsTakenAlone path files files' = Given files (λ m. Keeps is_none (λ q. bytes_eq q path) m files')

-- an assertion at the path writes no file but the one of its mode, and removes none but what is pending there
abbrev pub KeptBy : Update → List ℕ → Option Files → Option Files → Type 0
KeptBy mode path files files' = Given files (λ m. Keeps (is_written mode path) (may_change mode path) m files')

-- the same of a payload with this extension, or without one
abbrev pub KeptWith : Option (List ℕ) → Update → List ℕ → Option Files → Option Files → Type 0
KeptWith extension mode path files files' = Given files (λ m. Keeps (is_written_with extension mode path) (may_change_with extension mode path) m files')

-- the path of a payload beside a file: that of the file, a dot, and an extension
abbrev pub IsSidecarOf : List ℕ → List ℕ → Type 0
IsSidecarOf path named = (extension : List ℕ) × (named ≡ sidecar_path path extension)

-- it stands beside the snapshot or beside the pending one
abbrev pub IsPayloadPath : List ℕ → List ℕ → Type 0
IsPayloadPath path named = IsSidecarOf path named ⊎ IsSidecarOf (pending_path path) named

-- the paths at which an assertion asks something of the store: that of its snapshot, its folder, what it may change, and those of
-- payloads beside the snapshot, of which one is read where the file there says binary, and beside the pending one
abbrev pub IsOwn : Update → List ℕ → List ℕ → Type 0
IsOwn mode path named = (named ≡ path) ⊎ ((named ≡ parent_of path) ⊎ ((may_change mode path named ≡ true) ⊎ IsPayloadPath path named))

-- a fault names one of these
abbrev pub FaultIsOwn : Update → List ℕ → AssertError → Type 0
FaultIsOwn mode path (FileIo named) = IsOwn mode path named
FaultIsOwn mode path _ = Unit {0}

-- a result whose fault, where it is one, names a path of the assertion's own
abbrev pub NamesOwn : {T : Type 0} → Update → List ℕ → Result T AssertError → Type 0
NamesOwn mode path (Ok value) = Unit {0}
NamesOwn mode path (Err error) = FaultIsOwn mode path error

-- a fault names this path
abbrev pub FaultIsAt : List ℕ → AssertError → Type 0
FaultIsAt path (FileIo named) = named ≡ path
FaultIsAt path _ = Unit {0}

-- a result that is an error by a fault names this path
abbrev pub NamesOnly : {T : Type 0} → List ℕ → Result T AssertError → Type 0
NamesOnly path (Ok value) = Unit {0}
NamesOnly path (Err error) = FaultIsAt path error

-- a fault in reading a snapshot names this path, or that of a payload beside it
abbrev pub FaultIsRead : List ℕ → AssertError → Type 0
FaultIsRead path (FileIo named) = (named ≡ path) ⊎ IsSidecarOf path named
FaultIsRead path _ = Unit {0}

-- a result that is an error by a fault in reading the snapshot at this path
abbrev pub NamesRead : {T : Type 0} → List ℕ → Result T AssertError → Type 0
NamesRead path (Ok value) = Unit {0}
NamesRead path (Err error) = FaultIsRead path error
