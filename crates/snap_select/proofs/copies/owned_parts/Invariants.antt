use Rattle.snap_select.proofs.Prelude.{◌≡◌, take}
use Rattle.snap_select.proofs.copies.owned_parts.Given as goal

abbrev pub invariant-loop-part : goal.invariant-loop-part
invariant-loop-part l = l.copies.items ≡ take l.part-index l.parts
