use Rattle.snap_io.proofs.Prelude.{ap, sym, ◌∙◌, len}
use Rattle.snap_io.proofs.Entries.{len-entries}
use Rattle.snap_io.proofs.files.MemoryFiles.len.Goals as goal

pub returns : goal.returns
returns c = c.len.ensures.len ∙ sym (len-entries c.self.inside.tree.entries c.len.ensures.ordered) ∙ ap len c.self.view_is
