use Rattle.snap_review.proofs.Prelude.{rules}
use Rattle.snap_review.proofs.Marks.{searched_mark, marked_here, none_marked}
use Rattle.snap_review.proofs.places.first_marked.Goals as goal

pub loop-here-preserved : goal.loop-here-preserved
loop-here-preserved c = record {
  utf8 = search rules;
  so_far = searched_mark _ _ _ _ c.loop-here.invariant.so_far c.in-Some.ensures.cut c.in_default-after_literal.ensures;
}

pub returns-in-Some-after_literal : goal.returns-in-Some-after_literal
returns-in-Some-after_literal c = marked_here _ _ _ _ _ c.loop-here.invariant.so_far c.in-Some.ensures.cut c.in-Some-after_literal.ensures

pub returns : goal.returns
returns c = none_marked _ _ c.loop-here.invariant.so_far c.in_default.ensures.cut
