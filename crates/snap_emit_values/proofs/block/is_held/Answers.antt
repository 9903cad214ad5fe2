use Rattle.snap_emit_values.proofs.Bytes.{none_unheld}
use Rattle.snap_emit_values.proofs.block.is_held.Goals as goal

pub returns : goal.returns
returns c =
    none_unheld c.as_bytes.result.now c.args.text.now c.memchr2.result c.is_none.result c.utf8.text c.as_bytes.ensures.value c.memchr2.ensures
    c.is_none.ensures
