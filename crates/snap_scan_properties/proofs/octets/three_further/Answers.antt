use Rattle.snap_scan_properties.proofs.Spelled.{breaks-first, answers-then}
use Rattle.snap_scan_properties.proofs.octets.three_further.Goals as goal

pub returns-in-Err-clause-value : goal.returns-in-Err-clause-value
returns-in-Err-clause-value c = (c.in-Err.ensures.value.0, breaks-first c.args.cursor.now 2 c.in-Err.ensures.value.1)

pub returns-in-Ok-clause-value : goal.returns-in-Ok-clause-value
returns-in-Ok-clause-value c =
    answers-then c.args.cursor.now c.one_further.new.cursor c.two_further.new.cursor 2 c.args.bits c.in-Ok.longer c.two_further.result
    c.in-Ok.ensures.value c.two_further.ensures.value
