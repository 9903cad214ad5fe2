use Rattle.snap_emit_values.proofs.Prelude.{◌≤◌, length, arith, nat_tests}
use Rattle.snap_emit_values.proofs.Quoting.{few_bytes}
use Rattle.snap_emit_values.proofs.written.is_short.Goals as goal

pub returns : goal.returns
returns c = λ is. let few : length c.args.text.now ≤ 170 = grind (arith, nat_tests) in few_bytes c.args.text.now c.utf8.text few
