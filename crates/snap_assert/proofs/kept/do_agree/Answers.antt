use Rattle.snap_assert.proofs.Prelude.{IfOk-weaker}
use Rattle.snap_assert.proofs.OpenBlocks.{agrees_as}
use Rattle.snap_assert.proofs.kept.do_agree.Goals as goal

pub returns : goal.returns
returns c = IfOk-weaker c.agrees.result _ _ (λ same tells. agrees_as c.args.kept.now c.args.new.now same tells) c.agrees.ensures
