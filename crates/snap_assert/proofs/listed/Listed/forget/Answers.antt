use Rattle.snap_assert.proofs.Prelude.{false, refl}
use Rattle.snap_assert.proofs.Covering.{updated, forgetting_begins, forgetting_on, forgetting_ends}
use Rattle.snap_assert.proofs.listed.Listed.forget.Goals as goal

pub loop-path-init : goal.loop-path-init
loop-path-init c = record { forgetting = forgetting_begins _ _; folders = refl }

pub loop-path-preserved : goal.loop-path-preserved
loop-path-preserved c = record {
  forgetting = forgetting_on _ _ _ _ _ c.path-item.result c.loop-path-test.true c.path-item.is c.loop-path.invariant.forgetting (updated _ _ _ false c.remove.ensures.updates.0);
  folders = c.loop-path.invariant.folders;
}

pub returns-clause-folders : goal.returns-clause-folders
returns-clause-folders c = c.loop-path.invariant.folders

pub returns-clause-still : goal.returns-clause-still
returns-clause-still c = forgetting_ends _ _ _ _ c.loop-path-test.false c.loop-path.invariant.forgetting
