use Rattle.snap_emit_values.proofs.Prelude.{list_all-IsAscii}
use Rattle.snap_emit_values.proofs.scalars.push_wide.Goals as goal

pub push_ascii-requires : goal.push_ascii-requires
push_ascii-requires c = list_all-IsAscii _ c.format.ensures.ascii
