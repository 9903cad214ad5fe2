use Rattle.snap_assert_place.proofs.BelowPaths.{normal}
use Rattle.snap_assert_place.proofs.below.path_below.Goals as goal

pub below_folder-requires : goal.below_folder-requires
below_folder-requires c = normal c.in_ok-folder.folder c.args.base.now c.args.folder.now c.in_ok-folder.ensures

pub below_folder-requires-2 : goal.below_folder-requires-2
below_folder-requires-2 c = normal c.in_ok-folder-2.folder c.in_ok-folder.folder c.args.inner.now c.in_ok-folder-2.ensures
