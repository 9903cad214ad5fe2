use Rattle.snap_demo.proofs.Prelude.{◌≡◌, ◌-◌, item_list, tags_from}
use Rattle.snap_demo.proofs.Turns.{plains_before}
use Rattle.snap_demo.proofs.values.tags.Given as goal

abbrev pub invariant-loop-number : goal.invariant-loop-number
invariant-loop-number l = plains_before (item_list l.items) (tags_from l.number (l.count - l.number)) ≡ tags_from 0 l.count
