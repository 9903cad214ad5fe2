use Rattle.snap_io.proofs.Prelude.{ap, sym, ◌∙◌, get}
use Rattle.snap_io.proofs.Entries.{get-entries}
use Rattle.snap_io.proofs.files.MemoryFiles.get.Goals as goal

pub returns : goal.returns
returns c = c.get.ensures.value ∙ sym (get-entries c.self.inside.tree.entries c.args.path.now) ∙ ap (λ m. get m c.args.path.now) c.self.view_is
