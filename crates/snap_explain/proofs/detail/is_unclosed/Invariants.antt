use Rattle.snap_explain.proofs.Prelude.{length, chars}
use denote.Text.{Utf8}
use denote.Shadow.{shadow}
use Rattle.snap_explain.proofs.detail.is_unclosed.Given as goal

abbrev pub invariant-loop-line : goal.invariant-loop-line
invariant-loop-line l = shadow (Utf8 l.rest)

abbrev pub decreases-loop-line : goal.decreases-loop-line
decreases-loop-line l = length (chars l.rest)
