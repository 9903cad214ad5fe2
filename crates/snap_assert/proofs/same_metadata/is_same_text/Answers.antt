use Rattle.std.specs.Str.{chars}
use Rattle.snap_content.proofs.Ends.{same_texts}
use Rattle.snap_assert.proofs.Prelude.{◌∙◌, bytes_eq-Decides}
use Rattle.snap_assert.proofs.same_metadata.is_same_text.Goals as goal

pub returns : goal.returns
returns c =
    rw (c.eq.ensures ∙ same_texts c.args.old.now c.args.new.now c.utf8.old c.utf8.new)
    (bytes_eq-Decides (chars c.args.old.now) (chars c.args.new.now))
