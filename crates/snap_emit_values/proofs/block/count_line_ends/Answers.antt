use Rattle.snap_emit_values.proofs.Prelude.{◌≡◌, ◌+◌, length, arith, chars, kept_ends}
use Rattle.snap_emit_values.proofs.LineEnds.{kept-bytes}
use Rattle.snap_emit_values.proofs.block.count_line_ends.Goals as goal

pub overflow_sub-result : goal.overflow_sub-result
overflow_sub-result c =
    let h : length c.args.text.now ≡ length c.args.trimmed.now + kept_ends (chars c.args.text.now) =
    kept-bytes c.args.text.now c.args.trimmed.now c.utf8.text c.utf8.trimmed c.requires in
    omega (arith, h)

pub returns : goal.returns
returns c =
    let h : length c.args.text.now ≡ length c.args.trimmed.now + kept_ends (chars c.args.text.now) =
    kept-bytes c.args.text.now c.args.trimmed.now c.utf8.text c.utf8.trimmed c.requires in
    omega (arith, h)
