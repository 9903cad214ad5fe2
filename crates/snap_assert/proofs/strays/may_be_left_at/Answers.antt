use Rattle.snap_assert.proofs.Prelude.{sym}
use Rattle.snap_assert.proofs.StrayPaths.{left_at, none_left}
use Rattle.snap_assert.proofs.strays.may_be_left_at.Goals as goal

pub returns-in-None : goal.returns-in-None
returns-in-None c = λ file is stray. none_left file c.args.path.now (sym c.in-None.ensures) is stray

pub returns-in-Some : goal.returns-in-Some
returns-in-Some c = λ file is stray. left_at file c.args.path.now _ c.may_be_left.result (sym c.in-Some.ensures) is stray c.may_be_left.ensures
