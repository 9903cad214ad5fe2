-- What saving records comes to.
use Rattle.std.specs.Prelude.{◌≡◌, ℕ, Bool, true, false, List, [], ◌∷◌, Result, Ok, Err, encode_utf8_all, map}
use Rattle.std.specs.FinMap.{insert, remove}
use Rattle.std.specs.List.{flat_map}
use Rattle.snap_content.specs.declared.error.Error.{Error}
use Rattle.snap_content.specs.declared.error.Error.TheVariants.{FailedParsingYaml, UnexpectedDataType, MissingField, FileIo, FloatText, JsonKey, NotText, NoFile, OutOfMemory}
use Rattle.snap_io.specs.Changes.{Change, appends, removes}
use Rattle.snap_io.specs.Files.{Files}

-- the file at the path is these lines, one after the other, and gone where there are none
abbrev pub with_lines : Files → List ℕ → List (List ℕ) → Files
with_lines m path [] = remove m path
with_lines m path (line ∷ lines) = insert m path (flat_map encode_utf8_all (line ∷ lines))

-- a line is added to the file
abbrev pub adds : List ℕ → List ℕ → Change
adds path line = appends path (encode_utf8_all line)

-- the file is taken away, and then each line is added
abbrev pub rewrites : List ℕ → List (List ℕ) → List Change
rewrites path lines = removes path ∷ map (adds path) lines

-- why records were not saved: `JsonKey` where a key is refused, or a fault, which names the path and is told only where none is
abbrev pub SavingRefused : List ℕ → Bool → Error → Type 0
SavingRefused path refused JsonKey = refused ≡ true
SavingRefused path refused (FileIo named) = (named ≡ path) × (refused ≡ false)
SavingRefused path refused OutOfMemory = Unit {0}
SavingRefused path refused (FailedParsingYaml named) = ⊥
SavingRefused path refused UnexpectedDataType = ⊥
SavingRefused path refused MissingField = ⊥
SavingRefused path refused (FloatText named) = ⊥
SavingRefused path refused (NotText named) = ⊥
SavingRefused path refused (NoFile named) = ⊥

-- how a save ends: records are saved only where no key is refused
abbrev pub SavingEnd : {T : Type 0} → List ℕ → Bool → Result T Error → Type 0
SavingEnd path refused (Ok done) = refused ≡ false
SavingEnd path refused (Err error) = SavingRefused path refused error

-- the same of what is printed before the file is touched
abbrev pub PrintRefused : Bool → Error → Type 0
PrintRefused refused JsonKey = refused ≡ true
PrintRefused refused OutOfMemory = Unit {0}
PrintRefused refused (FileIo named) = ⊥
PrintRefused refused (FailedParsingYaml named) = ⊥
PrintRefused refused UnexpectedDataType = ⊥
PrintRefused refused MissingField = ⊥
PrintRefused refused (FloatText named) = ⊥
PrintRefused refused (NotText named) = ⊥
PrintRefused refused (NoFile named) = ⊥

-- how printing a record ends: with its line where JSON takes it, else with the refusal of its key; or memory was short
abbrev pub PrintEnd : {T : Type 0} → Bool → Result T Error → Type 0
PrintEnd refused (Ok printed) = refused ≡ false
PrintEnd refused (Err error) = PrintRefused refused error
