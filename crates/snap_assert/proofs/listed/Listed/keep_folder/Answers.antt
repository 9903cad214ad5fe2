use Rattle.snap_assert.proofs.Prelude.{true}
use Rattle.snap_assert.proofs.Covering.{updated, inserted_as, inserted_itself, folder_covered}
use Rattle.snap_assert.proofs.listed.Listed.keep_folder.Goals as goal

pub returns-clause-covers : goal.returns-clause-covers
returns-clause-covers c = λ m names covers.
    folder_covered m c.args.folder.now c.args.names.now _ _ _ _ _ names covers c.in_ok-keep_names.ensures.folders
    (inserted_as _ _ _ c.args.folder.now c.in_ok-own.ensures (updated _ _ _ true c.in_ok-insert.ensures.updates.0))
    c.in_ok-keep_names.ensures.still c.in_ok-keep_names.ensures.waits

pub returns-clause-known : goal.returns-clause-known
returns-clause-known c = inserted_itself _ _ c.args.folder.now (inserted_as _ _ _ c.args.folder.now c.in_ok-own.ensures (updated _ _ _ true c.in_ok-insert.ensures.updates.0))
