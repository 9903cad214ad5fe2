use Rattle.snap_run.proofs.Prelude.{◌≡◌, drop}
use Rattle.snap_run.specs.Answers.{flags_mean, with_flags}
use Rattle.snap_run.proofs.words.flags_in.Given as goal

abbrev pub invariant-loop-word : goal.invariant-loop-word
invariant-loop-word l = with_flags l.flags (drop l.word-index l.words) ≡ flags_mean l.words
