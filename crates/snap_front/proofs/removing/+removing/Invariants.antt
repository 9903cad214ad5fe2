use Rattle.snap_front.proofs.Prelude.{◌+◌, length}
use Rattle.std.proofs.Common.{◌*◌}
use Rattle.snap_front.proofs.removing.+removing.Given as goal

-- the steps that are left
abbrev pub decreases-remove_at : goal.decreases-remove_at
decreases-remove_at l = 4 * length l.steps.now

abbrev pub decreases-remove_inside : goal.decreases-remove_inside
decreases-remove_inside l = 4 * length l.rest.now + 3

abbrev pub decreases-remove_under_key : goal.decreases-remove_under_key
decreases-remove_under_key l = 4 * length l.rest.now + 2

abbrev pub decreases-remove_at_place : goal.decreases-remove_at_place
decreases-remove_at_place l = 4 * length l.rest.now + 2

abbrev pub decreases-remove_in_pairs : goal.decreases-remove_in_pairs
decreases-remove_in_pairs l = 4 * length l.rest.now + 1

abbrev pub decreases-remove_in_items : goal.decreases-remove_in_items
decreases-remove_in_items l = 4 * length l.rest.now + 1
