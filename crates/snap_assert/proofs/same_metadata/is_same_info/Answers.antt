use Rattle.snap_assert.proofs.SameInfo.{by_texts}
use Rattle.snap_assert.proofs.same_metadata.is_same_info.Goals as goal

pub returns : goal.returns
returns c = by_texts c.is_same_held.result _ _ c.in_ok-old.old c.in_ok-new.new c.in_ok-old.ensures c.in_ok-new.ensures c.is_same_held.ensures
