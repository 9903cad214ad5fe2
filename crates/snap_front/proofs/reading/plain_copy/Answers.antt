use Rattle.snap_front.proofs.Prelude.{◌∙◌, inl, tree}
use Rattle.snap_content.specs.Plain.{plain}
use Rattle.snap_print.specs.Blocks.{off}
use Rattle.snap_front.proofs.reading.plain_copy.Goals as goal

pub returns-in-Ok : goal.returns-in-Ok
returns-in-Ok c = c.in-Ok.ensures.read (plain (tree c.args.value.now)) c.in_ok-text.ensures.within (inl (record { blocks = off; text_is = c.as_str.ensures ∙ c.in_ok-text.ensures.printed }))
