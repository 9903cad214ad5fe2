use Rattle.snap_io.proofs.Prelude.{◌++◌, ap, sym, ◌∙◌}
use Rattle.snap_io.proofs.Joined.{behind_front, not_behind}
use Rattle.snap_io.proofs.listing.behind.Goals as goal

pub returns-in-Some : goal.returns-in-Some
returns-in-Some c =
    let stripped = c.in-Some.ensures.cases in
    behind_front c.args.text.now c.args.front.now c.in-Some.rest.now c.utf8.front (stripped.1.1 ∙ ap (λ rest. c.args.front.now ++ rest) (sym stripped.2))

pub returns-in-None : goal.returns-in-None
returns-in-None c = not_behind c.args.text.now c.args.front.now c.utf8.text c.utf8.front c.in-None.ensures.cases
