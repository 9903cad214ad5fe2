use Rattle.snap_io.proofs.Prelude.{ap, ◌∙◌, insert}
use Rattle.snap_io.proofs.Entries.{inserted}
use Rattle.snap_io.proofs.files.MemoryFiles.put.Goals as goal

pub returns-clause-ok : goal.returns-clause-ok
returns-clause-ok c =
    let path = c.in_ok-path.path in
    let bytes = c.in_ok-bytes.bytes in
    inserted c.self.inside.tree.entries c.insert.new.self.entries path bytes c.in_ok-insert.ensures.updates.0
    ∙ ap (λ m. insert m path bytes) c.self.view_is
    ∙ ap (λ k. insert c.args.self.now k bytes) c.in_ok-path.ensures
    ∙ ap (insert c.args.self.now c.args.path.now) c.in_ok-bytes.ensures
