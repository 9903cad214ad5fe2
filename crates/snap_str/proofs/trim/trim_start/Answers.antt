use Rattle.snap_str.proofs.Trims.{chars-trim_start}
use Rattle.snap_str.proofs.trim.trim_start.Goals as goal

pub returns : goal.returns
returns c = chars-trim_start c.args.text.now c.trim_start.result.now c.trim_start.utf8 c.trim_start.ensures.trim
