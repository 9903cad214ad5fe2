use Rattle.snap_text_literals.proofs.LiteralFronts.{front_bytes}
use Rattle.snap_text_literals.proofs.Prelude.{[], arith, rules, literal_reads}
use Rattle.snap_text_literals.proofs.fronts.literal_len.Goals as goal

pub overflow_sub-result : goal.overflow_sub-result
overflow_sub-result c = let n = front_bytes literal_reads [] c.args.source.now c.in-Some.rest.now c.utf8.source (search rules) c.in-Some.ensures in omega (arith, n.sum)

pub returns-in-Some : goal.returns-in-Some
returns-in-Some c =
    let n = front_bytes literal_reads [] c.args.source.now c.in-Some.rest.now c.utf8.source (search rules) c.in-Some.ensures in
    record { rest = _; behind = c.in-Some.ensures; size = omega (arith, n.sum) }
