use Rattle.snap_select.proofs.Prelude.{[], chars, outcome, ready}
use Rattle.snap_select.proofs.Readers.{stop_along}
use Rattle.snap_select.proofs.parts.read_segments.Goals as goal

pub returns-in-Err-clause-stop : goal.returns-in-Err-clause-stop
returns-in-Err-clause-stop c =
    let l = c.segments in
    let rest = chars l.rest.now in
    λ ps. stop_along (outcome (ready ps []) (chars c.args.text.now)) (outcome (ready ps l.segments.items) rest) c.in-Err.stop (l.invariant.same ps) (c.in-Err.ensures.stop ps l.segments.items)
