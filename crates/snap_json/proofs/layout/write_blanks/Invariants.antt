use Rattle.snap_json.proofs.Prelude.{◌≤◌, ◌-◌, blanks, IsAdded, whole}
use Rattle.snap_json.proofs.layout.write_blanks.Given as goal

abbrev pub invariant-eights : goal.invariant-eights
invariant-eights l = record { added : IsAdded l.fn.out l.out (whole (blanks l.done)); within : l.done ≤ l.count }

abbrev pub decreases-eights : goal.decreases-eights
decreases-eights l = l.count - l.done

abbrev pub invariant-ones : goal.invariant-ones
invariant-ones l = record { added : IsAdded l.fn.out l.out (whole (blanks l.done)); within : l.done ≤ l.count }

abbrev pub decreases-ones : goal.decreases-ones
decreases-ones l = l.count - l.done
