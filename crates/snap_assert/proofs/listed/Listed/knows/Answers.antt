use Rattle.snap_assert.proofs.Prelude.{◌∙◌}
use Rattle.snap_assert.proofs.Covering.{among_keys}
use Rattle.snap_assert.proofs.listed.Listed.knows.Goals as goal

pub returns : goal.returns
returns c = c.contains.ensures ∙ among_keys c.args.folder.now c.args.self.now.folders.keys
