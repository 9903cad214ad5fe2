use Rattle.snap_io.proofs.Joined.{no_name_behind}
use Rattle.snap_io.proofs.listing.name_behind.Goals as goal

pub returns-else-is_name : goal.returns-else-is_name
returns-else-is_name c = no_name_behind _ _ _ c.in_ok-name.ensures (λ good. let passes = c.is_name.ensures.1 good in let fails = c.if-is_name.false in cc)
