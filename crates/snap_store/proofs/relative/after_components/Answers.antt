use Rattle.snap_store.proofs.Prelude.{chars, components}
use Rattle.snap_store.proofs.Relatives.{all_gone}
use Rattle.snap_store.proofs.relative.after_components.Goals as goal

pub returns : goal.returns
returns c =
    all_gone (components (chars c.loop-part.path_left.now)) (components (chars c.loop-part.base_left.now)) _ c.in_default.ensures.component c.loop-part.invariant.same
