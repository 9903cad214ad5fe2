use Rattle.snap_mask.proofs.Begun.{holds_mark}
use Rattle.snap_mask.proofs.record.holds_nul.Goals as goal

pub returns-in-Some : goal.returns-in-Some
returns-in-Some c = holds_mark _ _ _ c.in-Some.ensures.cut
