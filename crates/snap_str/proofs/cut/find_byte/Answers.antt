use Rattle.snap_str.proofs.Bytes.{finds_byte}
use Rattle.snap_str.proofs.cut.find_byte.Goals as goal

pub returns : goal.returns
returns c = finds_byte c.args.mark _ c.args.text.now c.memchr.result c.requires c.utf8.text c.as_bytes.ensures.value c.memchr.ensures
