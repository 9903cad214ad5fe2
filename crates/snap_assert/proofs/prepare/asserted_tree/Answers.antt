use Rattle.snap_content.specs.Plain.{plain}
use Rattle.snap_content.specs.View.{tree}
use Rattle.snap_assert.proofs.Printing.{tree_held}
use Rattle.snap_assert.proofs.prepare.asserted_tree.Goals as goal

pub returns : goal.returns
returns g c = (
  tree c.in_ok-printed.printed,
  c.in_ok-printed.ensures.printed,
  tree_held c.args.literal (plain (tree c.in_ok-printed.printed)) c.asserted_text.result _ c.asserted_text.ensures c.in_ok-text.ensures.printed c.in_ok-text.ensures.within,
)
