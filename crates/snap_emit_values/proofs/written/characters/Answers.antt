use Rattle.snap_emit_values.proofs.Prelude.{◌≡◌, length, rules, arith, chars_from_encodes, chars}
use Rattle.snap_emit_values.proofs.written.characters.Goals as goal

pub returns-clause-value : goal.returns-clause-value
returns-clause-value c = search (rules, chars_from_encodes)

pub returns-clause-fits : goal.returns-clause-fits
returns-clause-fits c =
    let counted : c.count.result ≡ length (chars c.args.value.now) = search (rules, chars_from_encodes) in
    omega (arith, counted, c.count.type_inv)
