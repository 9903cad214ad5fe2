use Rattle.snap_assert.proofs.Prelude.{◌∙◌, refl}
use Rattle.snap_assert.proofs.Covering.{keeping_begins, keeping_on, keeping_ends}
use Rattle.snap_assert.proofs.listed.Listed.keep_names.Goals as goal

pub loop-name-init : goal.loop-name-init
loop-name-init c = record { keeping = keeping_begins _ _ _; folders = refl }

pub loop-name-preserved : goal.loop-name-preserved
loop-name-preserved c = record {
  keeping = keeping_on _ _ _ _ _ _ c.name-item.result c.loop-name-test.true c.name-item.is c.loop-name.invariant.keeping c.in_ok-keep_name.ensures.still c.in_ok-keep_name.ensures.waits;
  folders = c.in_ok-keep_name.ensures.folders ∙ c.loop-name.invariant.folders;
}

pub returns-clause-still : goal.returns-clause-still
returns-clause-still c = c.loop-name.invariant.keeping.still

pub returns-clause-waits : goal.returns-clause-waits
returns-clause-waits c = keeping_ends _ _ _ _ _ c.loop-name-test.false c.loop-name.invariant.keeping
