-- What a file of records is read as, and when it is refused.
use Rattle.std.specs.Prelude.{◌≡◌, ◌⊎◌, ℕ, List, [], ◌∷◌, Option, None, Some, Result, Ok, Err}
use Rattle.std.specs.FinMap.{get}
use Rattle.snap_content.specs.declared.error.Error.{Error}
use Rattle.snap_content.specs.declared.error.Error.TheVariants.{FailedParsingYaml, UnexpectedDataType, MissingField, FileIo, FloatText, JsonKey, NotText, NoFile, OutOfMemory}
use Rattle.snap_io.specs.Files.{Files}
use Rattle.snap_store.specs.Reading.{IsTextFile, IsNoText}
use Rattle.snap_str.specs.Lines.{lines}
use Rattle.snap_pending.specs.Batches.{records_of, batch_of}
use Rattle.snap_pending.specs.Pending.{Pending}
use Rattle.snap_pending.specs.Told.{LineTells, LineRefused}
use Rattle.snap_pending.specs.declared.batch.Batch.{Batch}

-- each line tells one record, in order
abbrev pub Tell : List (List ℕ) → List Pending → Type 0
Tell [] [] = Unit {0}
Tell (line ∷ lines) (pending ∷ rest) = LineTells line pending × Tell lines rest
Tell [] (pending ∷ rest) = ⊥
Tell (line ∷ lines) [] = ⊥

-- the first line that tells no record says why
abbrev pub Refuse : List ℕ → List (List ℕ) → Error → Type 0
Refuse path [] error = ⊥
Refuse path (line ∷ lines) error = LineRefused path line error ⊎ ((pending : Pending) × LineTells line pending × Refuse path lines error)

abbrev pub LinesEnd : List ℕ → List (List ℕ) → Result Batch Error → Type 0
LinesEnd path lines (Ok batch) = Tell lines (records_of batch)
LinesEnd path lines (Err OutOfMemory) = Unit {0}
LinesEnd path lines (Err (FailedParsingYaml named)) = Refuse path lines (FailedParsingYaml named)
LinesEnd path lines (Err UnexpectedDataType) = Refuse path lines UnexpectedDataType
LinesEnd path lines (Err MissingField) = Refuse path lines MissingField
LinesEnd path lines (Err (FileIo named)) = ⊥
LinesEnd path lines (Err (FloatText named)) = ⊥
LinesEnd path lines (Err JsonKey) = ⊥
LinesEnd path lines (Err (NotText named)) = ⊥
LinesEnd path lines (Err (NoFile named)) = ⊥

-- the file is a text whose lines tell records, and these are those of the last run
pub record IsBatch (file : Option (List ℕ)) (batch : List Pending) : Type 0 where
  pub text : List ℕ
  pub there : IsTextFile file text
  pub records : List Pending
  pub told : Tell (lines text) records
  pub batch_is : batch ≡ batch_of records

-- the file is a text with a line that is refused
pub record HasRefusedLine (path : List ℕ) (file : Option (List ℕ)) (error : Error) : Type 0 where
  pub text : List ℕ
  pub there : IsTextFile file text
  pub refused : Refuse path (lines text) error

-- why the file at the path is refused
abbrev pub LoadRefused : List ℕ → Option (List ℕ) → Error → Type 0
LoadRefused path file (NoFile named) = (named ≡ path) × (file ≡ None)
LoadRefused path file (NotText named) = (named ≡ path) × IsNoText file
LoadRefused path file (FileIo named) = named ≡ path
LoadRefused path file (FailedParsingYaml named) = HasRefusedLine path file (FailedParsingYaml named)
LoadRefused path file UnexpectedDataType = HasRefusedLine path file UnexpectedDataType
LoadRefused path file MissingField = HasRefusedLine path file MissingField
LoadRefused path file OutOfMemory = Unit {0}
LoadRefused path file (FloatText named) = ⊥
LoadRefused path file JsonKey = ⊥

abbrev pub LoadEnd : List ℕ → Option (List ℕ) → Result Batch Error → Type 0
LoadEnd path file (Ok batch) = IsBatch file (records_of batch)
LoadEnd path file (Err error) = LoadRefused path file error

-- the file at the path was read to this end; where the files are told it is the one among them
pub record IsLoadedFrom (path : List ℕ) (files : Option Files) (result : Result Batch Error) : Type 0 where
  pub file : Option (List ℕ)
  pub told : (m : Files) → files ≡ Some m → file ≡ get m path
  pub comes_to : LoadEnd path file result
