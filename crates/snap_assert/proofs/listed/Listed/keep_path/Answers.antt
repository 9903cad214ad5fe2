use Rattle.snap_assert.proofs.Prelude.{true}
use Rattle.snap_assert.proofs.Covering.{updated, inserted_as, inserted_still, inserted_itself}
use Rattle.snap_assert.proofs.listed.Listed.keep_path.Goals as goal

pub returns-clause-still : goal.returns-clause-still
returns-clause-still c = inserted_still _ _ _ (updated _ _ _ true c.in_ok-insert.ensures.updates.0)

pub returns-clause-waits : goal.returns-clause-waits
returns-clause-waits c = λ file is stray.
    inserted_itself _ _ c.args.path.now (inserted_as _ _ _ c.args.path.now c.in_ok-own.ensures (updated _ _ _ true c.in_ok-insert.ensures.updates.0))
