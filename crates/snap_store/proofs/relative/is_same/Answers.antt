use Rattle.snap_store.proofs.Prelude.{◌∙◌}
use Rattle.snap_content.proofs.Ends.{same_texts}
use Rattle.snap_store.proofs.relative.is_same.Goals as goal

pub returns : goal.returns
returns c = c.eq.ensures ∙ same_texts c.args.part.now c.args.other.now c.utf8.part c.utf8.other
