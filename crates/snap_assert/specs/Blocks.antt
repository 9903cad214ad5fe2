-- What open blocks of duplicates do to an assertion.
use Rattle.std.specs.Prelude.{◌||◌, ℕ, Bool, true, false, List, Option, None, Some, Result, Ok, Err, if◌then◌else◌}
use Rattle.std.specs.Str.{bytes_eq}
use Rattle.snap_text.specs.Contents.{normal_of, legacy_of}
use Rattle.snap_store.specs.declared.contents.SnapshotContents.{SnapshotContents}
use Rattle.snap_store.specs.declared.contents.SnapshotContents.TheVariants.{Text, Binary}
use Rattle.snap_assert.specs.Session.{SessionView, BlockKey, kept_for, with_kept}
use Rattle.snap_assert.specs.declared.error.AssertError.{AssertError}
use Rattle.snap_assert.specs.declared.error.AssertError.TheVariants.{DuplicateDiffers}
use Rattle.snap_assert.specs.declared.error.DuplicateKey.{DuplicateKey}
use Rattle.snap_assert.specs.declared.error.DuplicateKey.TheVariants.{Named, Inline}

abbrev pub same_payload : Option (List ℕ) → Option (List ℕ) → Bool
same_payload None None = true
same_payload (Some a) (Some b) = bytes_eq a b
same_payload _ _ = false

-- whether contents agree; law `a_block_keeps_the_first` holds it to `Agree`
abbrev pub do_agree : SnapshotContents → SnapshotContents → Bool
do_agree (Text a) (Text b) = bytes_eq (normal_of a) (normal_of b) || bytes_eq (legacy_of a) (legacy_of b)
do_agree (Binary a) (Binary b) = same_payload a b
do_agree _ _ = false

-- the key as a block keeps it
abbrev pub parts_of : DuplicateKey → BlockKey
parts_of (Named module_name name) = (module_name, name, None)
parts_of (Inline function file line) = (function, file, Some line)

abbrev pub keep_by : DuplicateKey → SnapshotContents → SessionView → Option SnapshotContents → Result SessionView AssertError
keep_by key new session None = Ok (with_kept session (parts_of key) new)
keep_by key new session (Some kept) = if do_agree kept new then Ok session else Err (DuplicateDiffers key kept new)

-- the innermost block keeps the contents where it kept none for the key, and refuses those that don't agree with what it keeps; where
-- none is open nothing is kept
abbrev pub keep_step : DuplicateKey → SnapshotContents → SessionView → Result SessionView AssertError
keep_step key new session = keep_by key new session (kept_for session (parts_of key))
