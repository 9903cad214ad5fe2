use Rattle.snap_review.proofs.Prelude.{sym, ◌∙◌, rules}
use Rattle.snap_review.proofs.Marks.{lines_cut, lines_lack}
use Rattle.snap_review.proofs.places.past_lines.Goals as goal

pub returns-in-None : goal.returns-in-None
returns-in-None c = sym c.loop-left.invariant.same ∙ lines_lack c.loop-left.left _ c.loop-left-test.true c.in-None.ensures.cut

pub loop-left-preserved : goal.loop-left-preserved
loop-left-preserved c = record { utf8 = search rules; same = sym (lines_cut c.loop-left.left _ _ _ c.loop-left-test.true c.in-Some.ensures.cut) ∙ c.loop-left.invariant.same }
