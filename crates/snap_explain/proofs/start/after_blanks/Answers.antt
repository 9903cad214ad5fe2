use Rattle.snap_explain.proofs.Prelude.{chars}
use Rattle.snap_explain.proofs.Shown.{cut_at}
use Rattle.snap_explain.proofs.start.after_blanks.Goals as goal

pub returns-clause-front : goal.returns-clause-front
returns-clause-front c = cut_at (chars c.args.text.now) (chars c.skip_blanks.result.now) c.skip_blanks.ensures
