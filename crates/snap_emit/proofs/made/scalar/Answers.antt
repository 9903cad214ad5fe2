use Rattle.snap_emit.proofs.Prelude.{◌∙◌, ap, chars}
use Rattle.snap_emit.specs.Built.{is_word_value}
use Rattle.snap_emit.proofs.Building.{plain-word}
use Rattle.snap_emit.proofs.made.scalar.Goals as goal

pub of_word-requires : goal.of_word-requires
of_word-requires c = ap is_word_value c.in_ok-plain_value-in-Plain.ensures ∙ plain-word (chars c.as_str.result.now) c.args.tag
