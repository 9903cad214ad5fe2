use Rattle.snap_assert.proofs.Prelude.{◌∙◌, true, sym, ap, is_among}
use Rattle.snap_assert.proofs.Covering.{updated, inserted_still, inserted_itself}
use Rattle.snap_assert.proofs.listed.Listed.keep_name.Goals as goal

pub returns-clause-still : goal.returns-clause-still
returns-clause-still c = inserted_still _ _ _ (updated _ _ _ true c.in_ok-insert.ensures.updates.0)

pub returns-clause-waits : goal.returns-clause-waits
returns-clause-waits c = λ file stray.
    ap (is_among c.insert.new.self.keys) (sym c.in_ok-path.ensures) ∙ inserted_itself _ _ _ (updated _ _ _ true c.in_ok-insert.ensures.updates.0)
