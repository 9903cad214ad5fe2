use Rattle.snap_assert.proofs.Prelude.{sym, ◌∙◌, place_of}
use Rattle.snap_assert.specs.Session.{session_of}
use Rattle.snap_assert.specs.declared.error.DuplicateKey.TheVariants.{Named}
use Rattle.snap_assert.proofs.OpenBlocks.{unopened}
use Rattle.snap_assert.proofs.kept.keep.Goals as goal

pub returns-then-not-is_open-clause-ok : goal.returns-then-not-is_open-clause-ok
returns-then-not-is_open-clause-ok c =
    unopened (Named (place_of c.args.place.now).module_name c.args.name.now) c.args.new.now (session_of c.args.session.now) (sym c.is_open.ensures ∙ c.if-not-is_open.true)
