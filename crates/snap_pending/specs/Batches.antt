-- A list of records, and those of its last run.
use Rattle.std.specs.Prelude.{ℕ, Bool, false, List, [], ◌∷◌, Option, None, Some, map}
use Rattle.std.specs.List.{filter}
use Rattle.std.specs.Str.{bytes_eq}
use Rattle.snap_pending.specs.Pending.{Pending, pending_of}
use Rattle.snap_pending.specs.declared.batch.Batch.{Batch}
use Rattle.snap_pending.specs.declared.pending.PendingInlineSnapshot.{PendingInlineSnapshot}

-- the records of a list
abbrev pub items_in : Batch → List PendingInlineSnapshot
items_in batch = batch.records.items

-- and what they are seen as
abbrev pub records_of : Batch → List Pending
records_of batch = map pending_of (items_in batch)

-- the run of the last record
abbrev pub last_run : List Pending → Option (List ℕ)
last_run [] = None
last_run (pending ∷ []) = Some pending.run_id
last_run (pending ∷ next ∷ rest) = last_run (next ∷ rest)

abbrev pub is_of_run : Option (List ℕ) → Pending → Bool
is_of_run None pending = false
is_of_run (Some run) pending = bytes_eq pending.run_id run

-- the records of that run, in order, also those before others
abbrev pub batch_of : List Pending → List Pending
batch_of records = filter (is_of_run (last_run records)) records
