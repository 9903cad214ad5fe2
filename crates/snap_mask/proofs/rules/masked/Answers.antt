use Rattle.snap_content.specs.View.{tree}
use Rattle.snap_mask.proofs.RulesRead.{masked_is}
use Rattle.snap_mask.proofs.rules.masked.Goals as goal

pub returns : goal.returns
returns g c = λ views are. masked_is _ c.args.rules.now views (tree c.args.value) (tree c.in_ok-apply.field-0) are c.in_ok-apply.ensures
