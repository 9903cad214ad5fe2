use Rattle.snap_io.proofs.Prelude.{sym, ◌∙◌}
use Rattle.snap_io.proofs.Joined.{name_test}
use Rattle.snap_io.proofs.listing.is_name.Goals as goal

pub returns-then-is_part : goal.returns-then-is_part
returns-then-is_part c = name_test _ c.has_slash.result (sym c.is_part.ensures ∙ c.if-is_part.true) c.has_slash.ensures
