use Rattle.snap_assert_settings.proofs.Prelude.{map, ap, redaction_of}
use Rattle.snap_assert_settings.proofs.redactions.Redactions.as_slice.Goals as goal

pub returns : goal.returns
returns g c = ap (λ ps. map redaction_of ps) c.as_slice.ensures.value
