use Rattle.snap_front.proofs.Prelude.{◌+◌, length}
use Rattle.std.proofs.Common.{◌*◌}
use Rattle.snap_front.proofs.setting.+setting.Given as goal

-- the steps that are left
abbrev pub decreases-set_at : goal.decreases-set_at
decreases-set_at l = 4 * length l.steps.now

abbrev pub decreases-set_inside : goal.decreases-set_inside
decreases-set_inside l = 4 * length l.rest.now + 3

abbrev pub decreases-set_under_key : goal.decreases-set_under_key
decreases-set_under_key l = 4 * length l.rest.now + 2

abbrev pub decreases-set_at_place : goal.decreases-set_at_place
decreases-set_at_place l = 4 * length l.rest.now + 2

abbrev pub decreases-set_in_pairs : goal.decreases-set_in_pairs
decreases-set_in_pairs l = 4 * length l.rest.now + 1

abbrev pub decreases-set_in_items : goal.decreases-set_in_items
decreases-set_in_items l = 4 * length l.rest.now + 1
