use Rattle.snap_emit_values.proofs.Prelude.{◌≤◌, length, sym, ◌∙◌, arith, nat_tests}
use Rattle.snap_emit_values.proofs.Quoting.{bare_few_bytes}
use Rattle.snap_emit_values.proofs.written.is_bare_and_short.Goals as goal

pub returns : goal.returns
returns c = λ is.
    let few : length c.args.text.now ≤ 1024 = grind (arith, nat_tests) in
    bare_few_bytes c.args.text.now c.utf8.text few (sym c.need_quotes.ensures ∙ c.if-need_quotes.false)
