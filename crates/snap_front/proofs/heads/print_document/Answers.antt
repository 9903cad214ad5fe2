use Rattle.snap_front.proofs.Prelude.{chars, tree}
use Rattle.snap_front.proofs.Again.{print-of-ok}
use Rattle.snap_front.proofs.heads.print_document.Goals as goal

pub returns-clause-again : goal.returns-clause-again
returns-clause-again c = λ m.
    print-of-ok c.printed_parts.result (tree c.args.head.now) (chars c.args.body.now) m c.printed_parts.ensures.printed c.printed_parts.ensures.within c.printed_parts.ensures.rows
