-- What the contents of a text snapshot are seen as, and when two of them match.
use Rattle.std.specs.Prelude.{◌≡◌, ◌⊎◌, ℕ, List}
use Rattle.snap_text_literals.specs.Frame.{inline_legacy}
use Rattle.snap_text_literals.specs.Inline.{normalized, inline_normal, inline_width}
use Rattle.snap_text_literals.specs.Legacy.{legacy}
use Rattle.snap_text_literals.specs.Literal.{literal_reads}
use Rattle.snap_text_literals.specs.Normal.{normal, trimmed}
use Rattle.snap_text_literals.specs.OfLiteral.{of_literal}
use Rattle.snap_text_literals.specs.Spelled.{IsIndentation}
use Rattle.snap_text.specs.declared.contents.TextSnapshotContents.{TextSnapshotContents}
use Rattle.snap_text.specs.declared.contents.TextSnapshotKind.{TextSnapshotKind}
use Rattle.snap_text.specs.declared.contents.TextSnapshotKind.TheVariants.{Inline, File}

-- the text as it was given
abbrev pub raw_of : TextSnapshotContents → List ℕ
raw_of contents = contents.raw

-- the kind of a text
abbrev pub kind_of : TextSnapshotContents → TextSnapshotKind
kind_of contents = contents.kind

-- what of a text of this kind is compared and saved, but for its end and its returns: an inline one loses the indentation
-- that its lines share
abbrev pub compared_as : TextSnapshotKind → List ℕ → List ℕ
compared_as Inline text = normalized text
compared_as File text = text

-- the normal form of a text of this kind
abbrev pub normal_as : TextSnapshotKind → List ℕ → List ℕ
normal_as kind text = normal (compared_as kind text)

-- the older form of a text of this kind
abbrev pub legacy_as : TextSnapshotKind → List ℕ → List ℕ
legacy_as Inline text = inline_legacy text
legacy_as File text = legacy text

abbrev pub width_as : TextSnapshotKind → List ℕ → ℕ
width_as Inline text = inline_width text
width_as File text = 0

abbrev pub compared_of : TextSnapshotContents → List ℕ
compared_of contents = compared_as (kind_of contents) (raw_of contents)

-- the normal form of a text, by its kind
abbrev pub normal_of : TextSnapshotContents → List ℕ
normal_of contents = normal_as (kind_of contents) (raw_of contents)

-- the older form of a text, by its kind
abbrev pub legacy_of : TextSnapshotContents → List ℕ
legacy_of contents = legacy_as (kind_of contents) (raw_of contents)

-- from which byte on each line of the trimmed text is written
abbrev pub width_of : TextSnapshotContents → ℕ
width_of contents = width_as (kind_of contents) (raw_of contents)

-- both are texts of files that are one text without the white space at their ends
pub record AreAlike (a b : TextSnapshotContents) : Type 0 where
  pub first : kind_of a ≡ File
  pub second : kind_of b ≡ File
  pub trimmed : trimmed (raw_of a) ≡ trimmed (raw_of b)

-- what `matches_latest` tells: both have one normal form, each by its kind
abbrev pub MatchLatest : TextSnapshotContents → TextSnapshotContents → Type 0
MatchLatest a b = normal_of a ≡ normal_of b

-- both agree: they have one normal form or one older form, each by its kind
abbrev pub TextsAgree : TextSnapshotContents → TextSnapshotContents → Type 0
TextsAgree a b = MatchLatest a b ⊎ legacy_of a ≡ legacy_of b

-- the contents are an inline text whose normal form is its own normal form
pub record IsSettled (contents : TextSnapshotContents) : Type 0 where
  pub inline : kind_of contents ≡ Inline
  pub once : inline_normal (normal_of contents) ≡ normal_of contents

-- the literal reads as some text, and what `from_inline_literal` makes of that matches the contents
abbrev pub ReadsBack : List ℕ → TextSnapshotContents → Type 0
ReadsBack literal contents =
    (text : List ℕ) × literal_reads literal text
    × ((made : TextSnapshotContents) → kind_of made ≡ Inline → raw_of made ≡ of_literal text → MatchLatest made contents)

-- the inline law
abbrev pub InlineLaw : List ℕ → List ℕ → TextSnapshotContents → Type 0
InlineLaw literal indentation contents = IsSettled contents → IsIndentation indentation → ReadsBack literal contents
