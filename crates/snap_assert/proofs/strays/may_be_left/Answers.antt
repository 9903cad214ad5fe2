use Rattle.snap_assert.proofs.Prelude.{codes}
use Rattle.std.proofs.lemmas.Str.Pattern.{contains_text}
use Rattle.snap_assert.proofs.StrayPaths.{mark_stands}
use Rattle.snap_assert.proofs.strays.may_be_left.Goals as goal

pub returns : goal.returns
returns c = λ file stray. (contains_text c.contains.result (codes ".new.") c.args.name.now c.contains.ensures.cases).1 (mark_stands file c.args.name.now c.utf8.name stray)
