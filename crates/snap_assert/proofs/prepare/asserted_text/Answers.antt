use Rattle.snap_assert.proofs.Prelude.{◌∙◌, ap}
use Rattle.snap_assert.proofs.Printing.{contents_is, text_with}
use Rattle.snap_assert.proofs.prepare.asserted_text.Goals as goal

pub returns : goal.returns
returns c = ap text_with (c.from_text-contents.ensures ∙ contents_is c.new.result c.args.text c.new.ensures.text c.new.ensures.kind)
