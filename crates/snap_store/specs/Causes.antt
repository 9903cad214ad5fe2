-- How a call on a file ends that gives nothing, and when it says that the store failed.
use Rattle.std.specs.Prelude.{◌≡◌, ℕ, Bool, true, false, List, Option, None, Some, Result, Ok, Err}
use Rattle.snap_content.specs.declared.error.Error.{Error}
use Rattle.snap_content.specs.declared.error.Error.TheVariants.{FailedParsingYaml, UnexpectedDataType, MissingField, FileIo, FloatText, JsonKey, NotText, NoFile, OutOfMemory}

-- an error that tells that the store failed
abbrev pub is_file_fault : Error → Bool
is_file_fault (FileIo path) = true
is_file_fault _ = false

-- the path that an error names where it tells that the store failed
abbrev pub named_by : Error → Option (List ℕ)
named_by (FileIo path) = Some path
named_by _ = None

-- the only errors of a call on the file at a path: the store failed, which names the path, or memory was out
abbrev pub IsCallError : List ℕ → Error → Type 0
IsCallError path (FileIo named) = named ≡ path
IsCallError path OutOfMemory = Unit {0}
IsCallError path UnexpectedDataType = ⊥
IsCallError path MissingField = ⊥
IsCallError path JsonKey = ⊥
IsCallError path (FailedParsingYaml named) = ⊥
IsCallError path (FloatText named) = ⊥
IsCallError path (NotText named) = ⊥
IsCallError path (NoFile named) = ⊥

-- a call on the file at a path is done, or ends in one of these
abbrev pub CallEnd : {T : Type 0} → List ℕ → Result T Error → Type 0
CallEnd path (Ok value) = Unit {0}
CallEnd path (Err error) = IsCallError path error

-- the only errors of calls on some files: the store failed, or memory was out
abbrev pub IsSaveError : Error → Type 0
IsSaveError (FileIo named) = Unit {0}
IsSaveError OutOfMemory = Unit {0}
IsSaveError UnexpectedDataType = ⊥
IsSaveError MissingField = ⊥
IsSaveError JsonKey = ⊥
IsSaveError (FailedParsingYaml named) = ⊥
IsSaveError (FloatText named) = ⊥
IsSaveError (NotText named) = ⊥
IsSaveError (NoFile named) = ⊥

-- a snapshot is saved, or that ends in one of these
abbrev pub SaveEnd : {T : Type 0} → Result T Error → Type 0
SaveEnd (Ok value) = Unit {0}
SaveEnd (Err error) = IsSaveError error
