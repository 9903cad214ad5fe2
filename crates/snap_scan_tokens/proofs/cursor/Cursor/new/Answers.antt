use Rattle.snap_scan_tokens.proofs.Prelude.{arith, ap, length, length-le-encodes, encodes-chars, chars}
use Rattle.snap_scan_tokens.proofs.cursor.Cursor.new.Goals as goal

pub invariant_of-result : goal.invariant_of-result
invariant_of-result c =
    let cs = chars c.before_nul-rest.result.now in
    let short = length-le-encodes cs in
    let same = ap length (encodes-chars c.before_nul-rest.result.now c.before_nul-rest.utf8) in
    (omega (arith, c.if-prove.false), omega arith, omega arith)
