use Rattle.snap_assert.proofs.Prelude.{sym, subst}
use Rattle.snap_io.specs.Listed.{AreNames}
use Rattle.snap_assert.proofs.listed.Listed.list.Goals as goal

pub returns-clause-covered : goal.returns-clause-covered
returns-clause-covered g c = λ m told covered.
    c.in_ok-keep_folder.ensures.covers m (subst (AreNames m c.args.folder.now) (sym c.as_slice.ensures) (c.in_ok-names.ensures.names m told)) covered
