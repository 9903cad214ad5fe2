use Rattle.snap_demo_laws.proofs.Prelude.{refl}
use Rattle.std.proofs.Math.Utf8.{encode}
use Rattle.std.specs.Fmt.{digits}
use Rattle.snap_demo_laws.proofs.laws.worked_examples.Goals as goal

pub returns-clause-snapshots : goal.returns-clause-snapshots
unfolding digits
returns-clause-snapshots c = (refl, refl)

pub returns-clause-bytes : goal.returns-clause-bytes
unfolding digits encode
returns-clause-bytes c = (refl, refl, refl)
