use Rattle.snap_text_literals.proofs.Trimming.{chars-trim_end}
use Rattle.snap_text_literals.proofs.normal.trimmed_text.Goals as goal

pub returns : goal.returns
returns c = chars-trim_end c.args.text.now c.trim_end.result.now c.trim_end.utf8 c.trim_end.ensures.trim
