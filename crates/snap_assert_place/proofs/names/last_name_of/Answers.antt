use Rattle.snap_assert_place.proofs.Prelude.{chars}
use Rattle.snap_assert_place.proofs.LastName.{in_itself}
use Rattle.snap_assert_place.proofs.names.last_name_of.Goals as goal

pub loop-next-init : goal.loop-next-init
loop-next-init c = record { rest_text = c.utf8.function; last_text = c.utf8.function; same = in_itself (chars c.args.function.now) }
