-- What a reading comes to.
use Rattle.std.specs.Prelude.{◌≡◌, ℕ, List, true, false, Result, Ok, Err}
use Rattle.snap_content.specs.Plain.{Plain, content_of}
use Rattle.snap_print.specs.Readable.{IsWithin}
use Rattle.snap_content.specs.View.{tree}
use Rattle.snap_content.specs.declared.content.Content.{Content}
use Rattle.snap_content.specs.declared.error.Error.{Error}
use Rattle.snap_content.specs.declared.error.Error.TheVariants.{FailedParsingYaml, UnexpectedDataType, MissingField, FileIo, FloatText, JsonKey, NotText, NoFile, OutOfMemory}
use Rattle.snap_emit.specs.Pieces.{has_number_piece}
use Rattle.snap_emit.specs.Spelled.{IsTextOf, IsHeaderOf}
use Rattle.snap_parse_events.specs.Nodes.{Node}
use Rattle.snap_emit.specs.Readings.{IsOnly, IsTreeOf, IsReasonOf}
use Rattle.snap_emit.specs.declared.reading.Header.{Header}
use Rattle.snap_emit.specs.declared.refusal.Refusal.{Refusal}
use Rattle.snap_emit.specs.declared.refusal.Refusal.TheVariants.{Number}

-- the text may be read as this tree: where it is printed of a tree or spells one, as that one
abbrev pub MayBeReadAs : List ℕ → Plain → Type 0
MayBeReadAs text plain = (t : Plain) → IsWithin t → IsTextOf text t → plain ≡ t

-- the text is printed of no tree whose numbers have 128 bits, and spells none
abbrev pub IsUnspelled : List ℕ → Type 0
IsUnspelled text = (t : Plain) → IsWithin t → IsTextOf text t → ⊥

-- the same of headers, in which a number may stand that is kept as its text
abbrev pub MayBeHeaderOf : List ℕ → Plain → Type 0
MayBeHeaderOf text plain = (t : Plain) → IsWithin t → IsHeaderOf text t → plain ≡ t

abbrev pub IsNoHeader : List ℕ → Type 0
IsNoHeader text = (t : Plain) → IsWithin t → IsHeaderOf text t → ⊥

-- a tree was read from the text
pub record IsReadFrom (made : Content) (text : List ℕ) : Type 0 where
  pub plain : Plain
  pub tree_is : tree made ≡ content_of plain
  pub read : MayBeReadAs text plain

-- the text is of no tree, and the path is named; a refused number is a piece of the text; or memory was wanting
abbrev pub RefusalEnd : List ℕ → List ℕ → Error → Type 0
RefusalEnd text path (FailedParsingYaml named) = (named ≡ path) × IsUnspelled text
RefusalEnd text path OutOfMemory = Unit {0}
RefusalEnd text path UnexpectedDataType = ⊥
RefusalEnd text path MissingField = ⊥
RefusalEnd text path (FileIo _) = ⊥
RefusalEnd text path (FloatText named) = ((named ≡ path) × (has_number_piece text ≡ true)) × IsUnspelled text
RefusalEnd text path JsonKey = ⊥
RefusalEnd text path (NotText _) = ⊥
RefusalEnd text path (NoFile _) = ⊥

-- what a text is read as, or why it is refused
abbrev pub ParseEnd : List ℕ → List ℕ → Result Content Error → Type 0
ParseEnd text path (Ok made) = IsReadFrom made text
ParseEnd text path (Err error) = RefusalEnd text path error

pub record IsHeaderReadFrom (made : Content) (text : List ℕ) : Type 0 where
  pub plain : Plain
  pub tree_is : tree made ≡ content_of plain
  pub read : MayBeHeaderOf text plain

-- a header refuses no number, since it is kept as its text
abbrev pub HeaderRefusalEnd : List ℕ → List ℕ → Error → Type 0
HeaderRefusalEnd text path (FailedParsingYaml named) = (named ≡ path) × IsNoHeader text
HeaderRefusalEnd text path (FloatText named) = ⊥
HeaderRefusalEnd text path error = RefusalEnd text path error

-- what a header is read as, or why it is refused
abbrev pub HeaderEnd : List ℕ → List ℕ → Result Header Error → Type 0
HeaderEnd text path (Ok header) = IsHeaderReadFrom header.content text
HeaderEnd text path (Err error) = HeaderRefusalEnd text path error

-- the error that a reason is told by, with the path: `FloatText` for a number that is a piece of the text, and else
-- `FailedParsingYaml`
abbrev pub IsErrorOf : List ℕ → List ℕ → Refusal → Error → Type 0
IsErrorOf text path why (FailedParsingYaml named) = (named ≡ path) × (why ≡ Number → has_number_piece text ≡ false)
IsErrorOf text path why (FloatText named) = (named ≡ path) × ((why ≡ Number) × (has_number_piece text ≡ true))
IsErrorOf text path why UnexpectedDataType = ⊥
IsErrorOf text path why MissingField = ⊥
IsErrorOf text path why (FileIo _) = ⊥
IsErrorOf text path why JsonKey = ⊥
IsErrorOf text path why (NotText _) = ⊥
IsErrorOf text path why (NoFile _) = ⊥
IsErrorOf text path why OutOfMemory = ⊥

-- the error tells a reason that holds of the text's documents
pub record IsReasonTold (nodes : List Node) (text path : List ℕ) (error : Error) : Type 0 where
  pub why : Refusal
  pub holds : IsReasonOf nodes why
  pub is : IsErrorOf text path why error

-- memory was short, or the error tells a reason
abbrev pub IsRefusalIn : List Node → List ℕ → List ℕ → Error → Type 0
IsRefusalIn nodes text path OutOfMemory = Unit {0}
IsRefusalIn nodes text path error = IsReasonTold nodes text path error

-- what the documents of a text are read as, or why they are not
abbrev pub IsParsedIn : List Node → List ℕ → List ℕ → Result Content Error → Type 0
IsParsedIn nodes text path (Ok made) = IsOnly (λ node. IsTreeOf node made) nodes
IsParsedIn nodes text path (Err error) = IsRefusalIn nodes text path error
