use Rattle.snap_text_literals.proofs.Prelude.{arith}
use Rattle.snap_text_literals.proofs.Outcomes.{braced_room}
use Rattle.snap_text_literals.proofs.units.read_braced.Goals as goal

pub overflow_mul-value : goal.overflow_mul-value
overflow_mul-value c =
    let room = braced_room c.loop-c.count c.loop-c.value c.loop-c.invariant.count c.if-count-eq6.false c.loop-c.invariant.value in
    omega arith

pub overflow_add-value : goal.overflow_add-value
overflow_add-value c =
    let room = braced_room c.loop-c.count c.loop-c.value c.loop-c.invariant.count c.if-count-eq6.false c.loop-c.invariant.value in
    let digit = c.in_ok-digit.ensures.value in
    omega (arith, digit.0, digit.1)
