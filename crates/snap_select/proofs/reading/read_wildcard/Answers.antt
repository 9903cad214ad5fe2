use Rattle.snap_select.proofs.Prelude.{chars}
use Rattle.snap_select.proofs.Readers.{one_star}
use Rattle.snap_select.proofs.reading.read_wildcard.Goals as goal

pub returns-in-None-clause-read : goal.returns-in-None-clause-read
returns-in-None-clause-read c = one_star (chars c.args.text.now) c.in-None.ensures
