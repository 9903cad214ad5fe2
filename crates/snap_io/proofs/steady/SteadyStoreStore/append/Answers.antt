use Rattle.snap_io.proofs.Unchanged.{same_but}
use Rattle.snap_io.proofs.steady.SteadyStoreStore.append.Goals as goal

pub returns-in-Err-clause-unknown : goal.returns-in-Err-clause-unknown
returns-in-Err-clause-unknown c = λ m told. same_but c.args.path.now m c.args.self.now.files c.append.new.self c.in-Err.ensures.err told
