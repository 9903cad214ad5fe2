use Rattle.snap_select.proofs.PieceFacts.{number_parsed}
use Rattle.snap_select.proofs.pieces.index_of.Goals as goal

pub returns-clause-number : goal.returns-clause-number
returns-clause-number c = λ numeral.
    rw c.ok.ensures.value (number_parsed c.args.number.now c.parse.result c.utf8.number c.parse.ensures.value.0 numeral)
