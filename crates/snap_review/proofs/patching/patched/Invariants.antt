use Rattle.snap_review.proofs.Prelude.{◌≡◌, Some, drop, Utf8, shadow, chars, from_line}
use Rattle.snap_review.proofs.Marks.{IsRest}
use Rattle.snap_review.proofs.Puttings.{IsSoFar}
use Rattle.snap_review.proofs.patching.patched.Given as goal

abbrev pub invariant-loop-change : goal.invariant-loop-change
invariant-loop-change l = record {
  rest_text : shadow (Utf8 l.rest);
  ahead_text : shadow (Utf8 l.ahead);
  rest : IsRest (chars l.fn.source) (chars l.rest);
  ahead : from_line l.at (chars l.fn.source) ≡ Some (chars l.ahead);
  so_far : IsSoFar (chars l.fn.source) l.changes (drop l.change-index l.changes) l.made (chars l.rest);
}
