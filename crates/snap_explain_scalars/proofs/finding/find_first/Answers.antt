use Rattle.snap_explain_scalars.proofs.Prelude.{refl, chars}
use Rattle.snap_explain_scalars.proofs.FirstTold.{first-of}
use Rattle.snap_explain_scalars.proofs.finding.find_first.Goals as goal

pub returns : goal.returns
returns c = first-of (chars c.args.document.now) _ c.load.new.receiver c.new-parser.result _ c.load.result refl c.new-parser.ensures.start c.load.ensures.ok c.load.ensures.err
