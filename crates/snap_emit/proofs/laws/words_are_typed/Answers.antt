use Rattle.snap_emit.proofs.Prelude.{typed_word}
use Rattle.snap_emit.proofs.laws.words_are_typed.Goals as goal

pub returns : goal.returns
returns c = typed_word
