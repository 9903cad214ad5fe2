use Rattle.std.proofs.lemmas.Str.{length-le-encodes, encodes-chars}
use Rattle.snap_explain.proofs.Prelude.{length, ap, arith, chars}
use Rattle.snap_explain.proofs.outside.rises.Goals as goal

pub overflow_add-below : goal.overflow_add-below
overflow_add-below c =
    omega (arith, length-le-encodes (chars c.args.path.now), ap length (encodes-chars c.args.path.now c.utf8.path), c.loop-part.invariant.few, c.in-Some.ensures.shorter)
