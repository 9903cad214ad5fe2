use Rattle.snap_store.proofs.Saved.{write_stopped}
use Rattle.snap_store.proofs.named.write.Goals as goal

pub returns-in-Err-clause-stopped : goal.returns-in-Err-clause-stopped
returns-in-Err-clause-stopped g c = write_stopped c.args.path c.args.bytes.now _ _ _ c.named.ensures.path c.in-Err.ensures.unknown
