use Rattle.snap_emit.proofs.Magnitudes.{magnitude-ok, magnitude-err}
use Rattle.snap_emit.proofs.whole.magnitude.Goals as goal

pub returns-in-Ok : goal.returns-in-Ok
returns-in-Ok c = magnitude-ok c.args.digits.now c.parse.result c.in-Ok.number c.utf8.digits c.parse.ensures.value.0 c.in-Ok.is

pub returns-in-Err : goal.returns-in-Err
returns-in-Err c = magnitude-err c.args.digits.now c.parse.result c.in-Err.field-0 c.utf8.digits c.parse.ensures.value.0 c.in-Err.is
