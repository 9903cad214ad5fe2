use Rattle.snap_store.specs.Meta.{Meta, without_line}
use Rattle.snap_store.specs.ReadBack.{IsOfText}
use Rattle.snap_store.proofs.ReadBack.{read-back, no-refusal}
use Rattle.snap_store.proofs.laws.saved_snapshots_are_read_back.Goals as goal

-- without the line they are metadata of a text too
unlined : (meta : Meta) → IsOfText meta → IsOfText (without_line meta)
unlined meta h = record { kind = h.kind; line = tt; info = h.info }

pub returns-clause-saved : goal.returns-clause-saved
returns-clause-saved c = λ file meta raw snapshot h. read-back file (without_line meta) raw snapshot (unlined meta h)

pub returns-clause-saved_refused : goal.returns-clause-saved_refused
returns-clause-saved_refused c = λ path file meta raw e h. no-refusal path file (without_line meta) raw e (unlined meta h)

pub returns-clause-pending : goal.returns-clause-pending
returns-clause-pending c = read-back

pub returns-clause-pending_refused : goal.returns-clause-pending_refused
returns-clause-pending_refused c = no-refusal
