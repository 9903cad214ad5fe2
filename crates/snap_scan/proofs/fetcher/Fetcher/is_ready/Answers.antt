use Rattle.snap_scan.proofs.Prelude.{sym, subst, err_from_is_err_and, Owes, State, state_of}
use Rattle.snap_scan.proofs.Founding.{sound-fresh, founded-stale}
use Rattle.snap_scan.proofs.Owing.{owes-timely, owes-stale}
use Rattle.snap_scan.proofs.fetcher.Fetcher.is_ready.Goals as goal

pub returns-in_err-stale_simple_keys-clause-sound : goal.returns-in_err-stale_simple_keys-clause-sound
returns-in_err-stale_simple_keys-clause-sound c =
    λ ahead source is. let p = err_from_is_err_and c.from_residual.result c.from_residual.ensures.1 in
    rw (p.1, p.2) (founded-stale source _ (state_of c.args.self.now) is c.in_err-stale_simple_keys.ensures.value.0 c.in_err-stale_simple_keys.ensures.value.1)

pub returns-clause-sound : goal.returns-clause-sound
returns-clause-sound c =
    λ ahead source is. sound-fresh source (state_of c.args.self.now) (state_of c.stale_simple_keys.new.self) is c.in_ok-stale_simple_keys.ensures.value.1

pub returns-in_err-stale_simple_keys-clause-owed : goal.returns-in_err-stale_simple_keys-clause-owed
returns-in_err-stale_simple_keys-clause-owed c =
    λ ahead source ts is o.
    let timely = owes-timely source (state_of c.args.self.now) ts is o in
    let late = c.in_err-stale_simple_keys.ensures.value.0 in
    absurd (cc)

pub returns-clause-owed : goal.returns-clause-owed
returns-clause-owed c =
    λ ahead source ts is o.
    let P : State → Type 0 = λ v. Owes v ts in
    subst P (sym c.in_ok-stale_simple_keys.ensures.value.1) (owes-stale source (state_of c.args.self.now) ts is o)
