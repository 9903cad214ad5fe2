use Rattle.snap_emit_values.proofs.Prelude.{arith}
use Rattle.snap_emit_values.proofs.Quoting.{counted_below}
use Rattle.snap_emit_values.proofs.written.quoted_len.Goals as goal

pub overflow_add-count : goal.overflow_add-count
overflow_add-count c =
    let h = counted_below _ _ _ _ _ _ c.loop-c.invariant.counted c.in-Some.ensures c.escaped_len-count.ensures.value c.requires in
    omega (arith, h)
