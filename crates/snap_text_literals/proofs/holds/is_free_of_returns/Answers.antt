use Rattle.snap_text_literals.proofs.Bytes.{free_of_returns}
use Rattle.snap_text_literals.proofs.holds.is_free_of_returns.Goals as goal

pub returns : goal.returns
returns c = free_of_returns c.as_bytes.result.now c.args.text.now c.memchr.result c.is_none.result c.utf8.text c.as_bytes.ensures.value c.memchr.ensures c.is_none.ensures
