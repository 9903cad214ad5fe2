use Rattle.snap_emit_values.proofs.Bytes.{some_line_end}
use Rattle.snap_emit_values.proofs.block.holds_line_end.Goals as goal

pub returns : goal.returns
returns c =
    some_line_end c.as_bytes.result.now c.args.text.now c.memchr.result c.is_some.result c.utf8.text c.as_bytes.ensures.value c.memchr.ensures
    c.is_some.ensures
