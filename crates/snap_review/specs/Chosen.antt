-- What the records of a batch ask for.
use Rattle.std.specs.Prelude.{ℕ, List, [], ◌∷◌, Option, None, Some, map, option_and_then, option_to_list}
use Rattle.std.specs.Borrow.{Bor}
use Rattle.std.specs.BTreeMap.{insert_entry}
use Rattle.std.specs.List.{flat_map}
use Rattle.std.specs.Ordering.{nat_cmp}
use Rattle.snap_pending.specs.Pending.{Pending, pending_of}
use Rattle.snap_pending.specs.declared.pending.PendingInlineSnapshot.{PendingInlineSnapshot}
use Rattle.snap_store.specs.Views.{SnapshotView}
use Rattle.snap_store.specs.declared.contents.SnapshotContents.{SnapshotContents}
use Rattle.snap_store.specs.declared.contents.SnapshotContents.TheVariants.{Text, Binary}
use Rattle.snap_text.specs.Contents.{raw_of}
use Rattle.snap_review.specs.declared.patching.NewLiteral.{NewLiteral}

-- the text as it was given; a payload is none
abbrev pub raw_text : SnapshotContents → Option (List ℕ)
raw_text (Text contents) = Some (raw_of contents)
raw_text (Binary payload) = None

-- the text of a snapshot, where there is one and it is a text
abbrev pub raw_in : Option SnapshotView → Option (List ℕ)
raw_in held = option_and_then (λ (h : SnapshotView). raw_text h.contents) held

abbrev pub wanted_as : Pending → Option (List ℕ) → Option NewLiteral
wanted_as pending None = None
wanted_as pending (Some text) = Some (record { line = pending.line; text = text; old = raw_in pending.old_snapshot })

-- a record asks for its new text at its line, in place of its old one where it has one; it asks for nothing where it has no new text
abbrev pub wanted : Pending → Option NewLiteral
wanted pending = wanted_as pending (raw_in pending.new_snapshot)

-- these records by their lines, in the order of lines, each over an earlier one of its line
abbrev pub latest_after : List (ℕ × Pending) → List Pending → List (ℕ × Pending)
latest_after entries [] = entries
latest_after entries (pending ∷ rest) = latest_after (insert_entry nat_cmp entries pending.line pending) rest

abbrev pub asked_by : ℕ × Pending → List NewLiteral
asked_by entry = option_to_list (wanted entry.1)

-- the last record of each line, in the order of lines, and of these what the ones with a new text ask for
abbrev pub chosen : List Pending → List NewLiteral
chosen records = flat_map asked_by (latest_after [] records)

-- an entry of borrowed records as one of what they are seen as
abbrev pub seen_entry : ℕ × Bor PendingInlineSnapshot → ℕ × Pending
seen_entry entry = (entry.0, pending_of entry.1.now)

abbrev pub seen : List (ℕ × Bor PendingInlineSnapshot) → List (ℕ × Pending)
seen entries = map seen_entry entries

-- what a borrowed record asks for
abbrev pub asked : Bor PendingInlineSnapshot → List NewLiteral
asked held = option_to_list (wanted (pending_of held.now))
