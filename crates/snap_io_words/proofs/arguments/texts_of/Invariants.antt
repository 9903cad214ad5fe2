use Rattle.snap_io_words.proofs.Prelude.{◌≡◌, ◌++◌, arguments_in, words_after_name}
use Rattle.std.specs.Vec.Iter.{into_iter_len}
use Rattle.snap_io_words.proofs.arguments.texts_of.Given as goal

abbrev pub invariant-arguments : goal.invariant-arguments
invariant-arguments l = l.words.items ++ arguments_in l.arguments ≡ words_after_name (arguments_in l.fn.arguments)

abbrev pub decreases-arguments : goal.decreases-arguments
decreases-arguments l = into_iter_len l.arguments
