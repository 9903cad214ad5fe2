use Rattle.snap_select.proofs.Prelude.{[], ◌∷◌, ◌++◌, ◌∙◌, chars, outcome, before_part, behind_part}
use Rattle.snap_select.proofs.Readers.{stop_along}
use Rattle.snap_select.proofs.selector.read_parts.Goals as goal

pub returns-in-Err-clause-stop : goal.returns-in-Err-clause-stop
returns-in-Err-clause-stop c =
    let l = c.parts in
    stop_along (outcome (before_part []) (chars c.args.text.now)) (outcome (before_part l.parts.items) (chars l.rest.now)) c.in-Err.stop l.invariant.same (c.in-Err.ensures.stop l.parts.items)

pub returns-in-Err-behind_comma-clause-stop : goal.returns-in-Err-behind_comma-clause-stop
returns-in-Err-behind_comma-clause-stop c =
    let l = c.parts in
    let ps = l.parts.items ++ c.in-Ok.part ∷ [] in
    stop_along (outcome (before_part []) (chars c.args.text.now)) (outcome (behind_part ps) (chars c.in-Ok.more.now)) c.in-Err-behind_comma.stop
    (l.invariant.same ∙ c.in-Ok.ensures.ok l.parts.items) (c.in-Err-behind_comma.ensures.stop ps)
