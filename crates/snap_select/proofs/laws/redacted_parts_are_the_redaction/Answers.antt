use Rattle.snap_select.proofs.Prelude.{[], redacted, only}
use Rattle.snap_select.proofs.OneRedacted.{named_redacted}
use Rattle.snap_select.proofs.QuietTrees.{quiet_redacted}
use Rattle.snap_select.proofs.RedactedParts.{redacted_redacts}
use Rattle.snap_select.proofs.laws.redacted_parts_are_the_redaction.Goals as goal

pub returns-clause-redacts : goal.returns-clause-redacts
returns-clause-redacts c = λ ss put tree. redacted_redacts ss (only put) tree (redacted ss put [] tree) (named_redacted ss put tree)

pub returns-clause-untouched : goal.returns-clause-untouched
returns-clause-untouched c = λ ss put tree quiet. quiet_redacted ss (only put) tree (redacted ss put [] tree) quiet (named_redacted ss put tree)
