use Rattle.snap_pending.proofs.LinesStand.{add_stopped}
use Rattle.snap_pending.proofs.pending.PendingInlineSnapshot.append_line.Goals as goal

pub returns-clause-stopped : goal.returns-clause-stopped
returns-clause-stopped g c = add_stopped c.append.result c.args.path.now c.args.line.now _ _ c.append.ensures.error c.append.ensures.unknown
