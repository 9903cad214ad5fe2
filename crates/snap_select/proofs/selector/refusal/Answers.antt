use Rattle.snap_select.proofs.Prelude.{length, chars}
use Rattle.snap_select.proofs.LeastFaults.{fault_of, left_within}
use Rattle.snap_select.proofs.selector.refusal.Goals as goal

pub column-requires : goal.column-requires
column-requires c = left_within (chars c.args.text.now) c.in-Fault.kind (length (chars c.in-Fault.rest.now)) (rw c.in-Fault.is at c.requires)

pub returns-in-Fault-clause-refused : goal.returns-in-Fault-clause-refused
returns-in-Fault-clause-refused c =
    rw (c.new.ensures.kind, c.new.ensures.column)
    (fault_of (chars c.args.text.now) c.in-Fault.kind (length (chars c.in-Fault.rest.now)) c.column.result (rw c.in-Fault.is at c.requires) c.column.ensures)
