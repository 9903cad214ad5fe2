use Rattle.snap_store.proofs.Prelude.{ℕ, List}
use Rattle.snap_store.specs.Meta.{Meta, without_line}
use Rattle.snap_store.specs.ReadBack.{IsOfBinary}
use Rattle.snap_store.proofs.ReadBack.{binary-back}
use Rattle.snap_store.proofs.laws.saved_binaries_are_read_back.Goals as goal

-- without the line they are metadata of a binary too
unlined : (meta : Meta) (extension : List ℕ) → IsOfBinary meta extension → IsOfBinary (without_line meta) extension
unlined meta extension h = record { kind = h.kind; line = tt; info = h.info }

pub returns-clause-saved : goal.returns-clause-saved
returns-clause-saved c = λ path extension payload m meta snapshot h. binary-back path extension payload m (without_line meta) snapshot (unlined meta extension h)

pub returns-clause-pending : goal.returns-clause-pending
returns-clause-pending c = binary-back
