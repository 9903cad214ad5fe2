use Rattle.snap_scan.proofs.Prelude.{refl, ◌∙◌, ap, Some, Option, inr, ScanError}
use Rattle.snap_scan.proofs.Order.{none-after, same-after}
use Rattle.snap_scan.proofs.Owing.{next-owed}
use Rattle.snap_scan.proofs.scanner.Scanner.next.Goals as goal

pub returns-in-Ok-clause-owed : goal.returns-in-Ok-clause-owed
returns-in-Ok-clause-owed c = λ ts none o. next-owed c.in-Ok.token c.next_token.new.self ts (c.in-Ok.ensures.owed ts none o)

pub returns-in-Err-clause-owed : goal.returns-in-Err-clause-owed
returns-in-Err-clause-owed c =
    let some : ScanError → Option ScanError = λ e. Some e in
    λ ts none o. inr (c.in-Err.ensures.kept ∙ ap some (c.in-Err.ensures.owed ts none o))

pub returns-in-Ok-clause-ended : goal.returns-in-Ok-clause-ended
returns-in-Ok-clause-ended c = λ ended. none-after c.in-Ok.token _ c.next_token.new.self c.in-Ok.ensures.sticky c.in-Ok.ensures.ended ended

pub returns-in-Err-clause-ended : goal.returns-in-Err-clause-ended
returns-in-Err-clause-ended c = λ ended. (refl, same-after _ _ c.next_token.new.self c.in-Err.ensures.same c.in-Err.ensures.ended ended)
