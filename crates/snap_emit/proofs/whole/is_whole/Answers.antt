use Rattle.snap_emit.proofs.Prelude.{◌∙◌}
use Rattle.snap_emit.proofs.Magnitudes.{whole-known}
use Rattle.snap_emit.proofs.whole.is_whole.Goals as goal

pub returns : goal.returns
returns c = c.is_some.ensures ∙ whole-known c.whole_number.result _ _ c.whole_number.ensures
