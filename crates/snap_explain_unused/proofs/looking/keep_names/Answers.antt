use Rattle.snap_explain_unused.proofs.LeftFiles.{adds_begin, adds_on, adds_end}
use Rattle.snap_explain_unused.proofs.looking.keep_names.Goals as goal

pub loop-name-init : goal.loop-name-init
loop-name-init c = adds_begin _ _ c.args.names.now _

pub loop-name-preserved : goal.loop-name-preserved
loop-name-preserved c = adds_on _ _ _ _ _ _ _ c.name-item.result c.loop-name-test.true c.name-item.is c.loop-name.invariant c.in_ok-keep_name.ensures

pub returns : goal.returns
returns c = adds_end _ _ _ _ _ _ c.loop-name-test.false c.loop-name.invariant
