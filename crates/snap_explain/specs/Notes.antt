-- What is to be said of a request that passes.
use Rattle.std.specs.Prelude.{◌||◌, ◌++◌, ℕ, Bool, true, false, List, [], codes, decimal, Option, is_some, if◌then◌else◌}
use Rattle.std.specs.List.{list_any}
use Rattle.snap_assert.specs.declared.outcome.Warning.{Warning}
use Rattle.snap_assert.specs.declared.outcome.Warning.TheVariants.{LegacyFile, NumberAsText, LegacyContents}
use Rattle.snap_explain.specs.declared.notes.Notes.{Notes}

abbrev pub is_oldest : Warning → Bool
is_oldest LegacyFile = true
is_oldest _ = false

abbrev pub is_number : Warning → Bool
is_number NumberAsText = true
is_number _ = false

abbrev pub is_older : Warning → Bool
is_older LegacyContents = true
is_older _ = false

-- what is to be said, by whether a pending snapshot waits, by what the comparison warns of, by the earlier document that asks for the
-- path, and by whether that leaves the workspace: that the file is of the oldest format, that its header keeps a number as a text, that
-- it passes by an older form alone
abbrev pub notes_by : Bool → List Warning → Option ℕ → Bool → Notes
notes_by pending warnings earlier outside = record {
  pending = pending;
  oldest = list_any is_oldest warnings;
  number = list_any is_number warnings;
  older = list_any is_older warnings;
  earlier = earlier;
  outside = outside;
}

-- something is to be said of the file
abbrev pub has_file_word : Notes → Bool
has_file_word notes = notes.pending || (notes.oldest || (notes.number || notes.older))

-- something is to be said
abbrev pub has_word : Notes → Bool
has_word notes = has_file_word notes || (is_some notes.earlier || notes.outside)

-- the word, where it holds
abbrev pub word_if : Bool → List ℕ → List ℕ
word_if holds word = if holds then word else []

-- all that is to be said of the file, after what kind of finding it is
abbrev pub notes_text : Notes → List ℕ
notes_text notes =
    codes "passes" ++ word_if notes.pending (codes "; a pending snapshot waits beside it") ++ word_if notes.oldest (codes "; it is of the oldest format")
    ++ word_if notes.number (codes "; its header keeps a number as a text") ++ word_if notes.older (codes "; it agrees by an older form alone")

-- the document with this number asks for the same path
abbrev pub earlier_text : ℕ → List ℕ
earlier_text number = codes "passes; document " ++ decimal number ++ codes " asks for it too"

abbrev pub outside_text : List ℕ
outside_text = codes "passes; it leaves the workspace"
