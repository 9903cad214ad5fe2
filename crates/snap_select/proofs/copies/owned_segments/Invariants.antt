use Rattle.snap_select.proofs.Prelude.{◌≡◌, take}
use Rattle.snap_select.proofs.copies.owned_segments.Given as goal

abbrev pub invariant-loop-segment : goal.invariant-loop-segment
invariant-loop-segment l = l.copies.items ≡ take l.segment-index l.segments
