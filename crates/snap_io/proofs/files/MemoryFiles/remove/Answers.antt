use Rattle.snap_io.proofs.Prelude.{ap, ◌∙◌, remove}
use Rattle.snap_io.proofs.Entries.{removed}
use Rattle.snap_io.proofs.files.MemoryFiles.remove.Goals as goal

pub returns : goal.returns
returns c =
    removed c.self.inside.tree.entries c.remove.new.self.entries c.args.path.now c.remove.ensures.updates.0
    ∙ ap (λ m. remove m c.args.path.now) c.self.view_is
