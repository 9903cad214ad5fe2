use Rattle.snap_emit.proofs.Prelude.{plain, tree, blocks_if, printed-rows}
use Rattle.snap_emit.proofs.Printing.{at_success, ends-if}
use Rattle.snap_emit.proofs.yaml.to_string.Goals as goal

pub returns-clause-rows : goal.returns-clause-rows
returns-clause-rows c =
    at_success c.printed_document.result _ _ (printed-rows (blocks_if c.args.literal) (plain (tree c.args.content.now))) c.printed_document.ensures.within

pub returns-clause-end : goal.returns-clause-end
returns-clause-end c = at_success c.printed_document.result _ _ (ends-if c.args.literal (plain (tree c.args.content.now))) c.printed_document.ensures.within
