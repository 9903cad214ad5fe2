use denote.Shadow.{shadow}
use denote.Text.{Utf8}
use Rattle.snap_front.proofs.Prelude.{length, chars}
use Rattle.snap_front.proofs.Splitting.{IsBehind}
use Rattle.snap_front.proofs.split.front_read.Given as goal

abbrev pub decreases-loop-line : goal.decreases-loop-line
decreases-loop-line l = length (chars l.rest)

-- what is left stands after a fence and lines that are none
abbrev pub invariant-loop-line : goal.invariant-loop-line
invariant-loop-line l = record {
  utf8 : shadow (Utf8 l.rest);
  behind : IsBehind (chars l.text) (chars l.rest);
}
