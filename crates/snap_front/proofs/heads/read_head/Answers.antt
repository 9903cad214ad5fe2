use Rattle.snap_front.proofs.Prelude.{chars}
use Rattle.snap_front.proofs.Read.{head-of}
use Rattle.snap_front.proofs.heads.read_head.Goals as goal

pub returns-in-Some : goal.returns-in-Some
returns-in-Some c = head-of (chars c.args.header.now) c.in-Some.made c.map_of.result (rw c.in-Some.is at c.in_ok-read_tree.ensures) c.map_of.ensures
