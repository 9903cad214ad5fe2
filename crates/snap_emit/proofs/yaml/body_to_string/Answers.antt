use Rattle.snap_emit.proofs.Prelude.{plain, tree, blocks_if, printed-rows}
use Rattle.snap_emit.proofs.Printing.{ends-if}
use Rattle.snap_emit.proofs.yaml.body_to_string.Goals as goal

pub returns-clause-rows : goal.returns-clause-rows
returns-clause-rows c = printed-rows (blocks_if c.args.literal) (plain (tree c.args.content.now)) c.in_ok-print_body.ensures.within

pub returns-clause-end : goal.returns-clause-end
returns-clause-end c = ends-if c.args.literal (plain (tree c.args.content.now)) c.in_ok-print_body.ensures.within
