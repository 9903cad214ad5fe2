use Rattle.snap_scan.proofs.Prelude.{err_from_is_err_and, state_of}
use Rattle.snap_scan.proofs.Ending.{gives-at-end, pays}
use Rattle.snap_scan.proofs.Order.{gives-sound}
use Rattle.snap_scan.proofs.Owing.{gives-first}
use Rattle.snap_scan.proofs.fetcher.Fetcher.next_token.Goals as goal

pub returns-clause-none : goal.returns-clause-none
returns-clause-none c =
    gives-at-end _ _ _ _ c.in_ok-fetch_more_tokens.ensures.ready c.in_ok-fetch_more_tokens.ensures.done c.in_ok-fetch_more_tokens.ensures.fresh c.take_first.ensures.taken

pub returns-clause-law : goal.returns-clause-law
returns-clause-law c =
    pays _ (state_of c.args.self.now) _ _ c.in_ok-fetch_more_tokens.ensures.law c.take_first.ensures.taken

pub returns-clause-sound : goal.returns-clause-sound
returns-clause-sound c =
    λ ahead source is. gives-sound source _ _ _ (c.in_ok-fetch_more_tokens.ensures.sound ahead source is) c.take_first.ensures.taken

pub returns-in_err-fetch_more_tokens-clause-sound : goal.returns-in_err-fetch_more_tokens-clause-sound
returns-in_err-fetch_more_tokens-clause-sound c =
    λ ahead source is. let p = err_from_is_err_and c.from_residual.result c.from_residual.ensures.1 in
    rw (p.1, p.2) (c.in_err-fetch_more_tokens.ensures.sound ahead source is)

pub returns-clause-owed : goal.returns-clause-owed
returns-clause-owed c =
    λ ahead source ts is o. gives-first _ _ _ ts c.in_ok-fetch_more_tokens.ensures.first c.in_ok-fetch_more_tokens.ensures.ready c.take_first.ensures.taken
    (c.in_ok-fetch_more_tokens.ensures.owed ahead source ts is o)

pub returns-in_err-fetch_more_tokens-clause-owed : goal.returns-in_err-fetch_more_tokens-clause-owed
returns-in_err-fetch_more_tokens-clause-owed c =
    λ ahead source ts is o. let p = err_from_is_err_and c.from_residual.result c.from_residual.ensures.1 in
    rw (p.1, p.2) (c.in_err-fetch_more_tokens.ensures.owed ahead source ts is o)
