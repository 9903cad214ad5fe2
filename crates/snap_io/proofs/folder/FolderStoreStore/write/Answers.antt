use Rattle.snap_io.proofs.Prelude.{encode_utf8_all, sym, ap, ◌∙◌, subst, encodes-chars, FileWritten}
use Rattle.snap_io.specs.Adapters.{store_asked}
use Rattle.snap_io.proofs.folder.FolderStoreStore.write.Goals as goal

pub returns-clause-asked : goal.returns-clause-asked
returns-clause-asked g c =
    let path = sym (encodes-chars c.as_str.result.now c.as_str.utf8) ∙ ap encode_utf8_all c.as_str.ensures in
    subst (λ p. FileWritten p c.args.bytes.now c.counted.result (store_asked c.args.self.now) (store_asked c.counted.new.self)) path
    (rw (c.counted.ensures.same, c.counted.ensures.asked) c.write_file-answer.ensures)
