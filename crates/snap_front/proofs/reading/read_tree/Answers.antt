use Rattle.snap_front.proofs.Prelude.{chars}
use Rattle.snap_front.proofs.Read.{nul-none, made-read}
use Rattle.snap_front.proofs.reading.read_tree.Goals as goal

pub returns-then-holds_nul : goal.returns-then-holds_nul
returns-then-holds_nul c = nul-none (chars c.args.text.now) (rw c.if-holds_nul.true at c.holds_nul.ensures)

pub returns-in-Ok : goal.returns-in-Ok
returns-in-Ok c = made-read (chars c.args.text.now) c.in-Ok.made c.in-Ok.ensures.end c.in-Ok.ensures.within
