use Rattle.snap_explain_scalars.proofs.Prelude.{chars, IfOk-weaker}
use Rattle.snap_explain_scalars.proofs.FirstTold.{both-said, some-first}
use Rattle.snap_explain_scalars.proofs.finding.first_otherwise.Goals as goal

pub returns-clause-told : goal.returns-clause-told
returns-clause-told c = IfOk-weaker c.find_first.result _ _ (λ found is. both-said (chars c.args.document.now) found is) c.find_first.ensures

pub returns-clause-first : goal.returns-clause-first
returns-clause-first c = IfOk-weaker c.find_first.result _ _ (λ found is. some-first (chars c.args.document.now) found is) c.find_first.ensures
