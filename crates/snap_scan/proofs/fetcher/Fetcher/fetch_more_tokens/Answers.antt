use Rattle.snap_scan.proofs.Prelude.{◌∙◌, arith, err_from_is_err_and, state_of}
use Rattle.snap_scan.proofs.Ending.{holding}
use Rattle.snap_scan.proofs.Founding.{sound-step, founded-fetch}
use Rattle.snap_scan.proofs.Owing.{owed-fetch, owed-fails}
use Rattle.snap_scan.proofs.fetcher.Fetcher.fetch_more_tokens.Goals as goal

pub returns-in_err-is_ready-clause-sound : goal.returns-in_err-is_ready-clause-sound
returns-in_err-is_ready-clause-sound c =
    λ ahead source is. let p = err_from_is_err_and c.from_residual.result c.from_residual.ensures.1 in
    rw (p.1, p.2) (c.in_err-is_ready.ensures.sound ahead source (c.fetching.invariant.sound ahead source is))

pub returns-then-branch-clause-sound : goal.returns-then-branch-clause-sound
returns-then-branch-clause-sound c = λ ahead source is. c.in_ok-is_ready.ensures.sound ahead source (c.fetching.invariant.sound ahead source is)

pub fetching-preserved : goal.fetching-preserved
fetching-preserved c = record {
  fresh = holding (state_of c.fetch_next_token.new.self) (c.in_ok-fetch_next_token.ensures.more (c.in_ok-is_ready.ensures.ahead c.if-branch.false));
  law = omega (arith, c.in_ok-fetch_next_token.ensures.law, c.in_ok-is_ready.ensures.law, c.fetching.invariant.law);
  sound = λ ahead source is.
      sound-step source _ _ (c.in_ok-is_ready.ensures.sound ahead source (c.fetching.invariant.sound ahead source is)) c.in_ok-fetch_next_token.ensures.value;
  owed = λ ahead source ts is o.
      owed-fetch (state_of c.is_ready.new.self) (state_of c.fetch_next_token.new.self) ts (c.in_ok-is_ready.ensures.ahead c.if-branch.false)
      (c.in_ok-is_ready.ensures.owed ahead source ts (c.fetching.invariant.sound ahead source is) (c.fetching.invariant.owed ahead source ts is o))
      c.in_ok-fetch_next_token.ensures.value;
  extent = c.fetch_next_token.ensures.extent ∙ c.is_ready.ensures.extent ∙ c.fetching.invariant.extent;
}

pub returns-in_err-fetch_next_token-clause-sound : goal.returns-in_err-fetch_next_token-clause-sound
returns-in_err-fetch_next_token-clause-sound c =
    λ ahead source is. let p = err_from_is_err_and c.from_residual-in_err-fetch_next_token.result c.from_residual-in_err-fetch_next_token.ensures.1 in
    rw (p.1, p.2) (founded-fetch source _ (state_of c.is_ready.new.self) (c.in_ok-is_ready.ensures.sound ahead source (c.fetching.invariant.sound ahead source is))
    c.in_err-fetch_next_token.ensures.value)

pub returns-in_err-is_ready-clause-owed : goal.returns-in_err-is_ready-clause-owed
returns-in_err-is_ready-clause-owed c =
    λ ahead source ts is o. let p = err_from_is_err_and c.from_residual.result c.from_residual.ensures.1 in
    rw (p.1, p.2) (c.in_err-is_ready.ensures.owed ahead source ts (c.fetching.invariant.sound ahead source is) (c.fetching.invariant.owed ahead source ts is o))

pub returns-then-branch-clause-owed : goal.returns-then-branch-clause-owed
returns-then-branch-clause-owed c =
    λ ahead source ts is o. c.in_ok-is_ready.ensures.owed ahead source ts (c.fetching.invariant.sound ahead source is) (c.fetching.invariant.owed ahead source ts is o)

pub returns-in_err-fetch_next_token-clause-owed : goal.returns-in_err-fetch_next_token-clause-owed
returns-in_err-fetch_next_token-clause-owed c =
    λ ahead source ts is o. let p = err_from_is_err_and c.from_residual-in_err-fetch_next_token.result c.from_residual-in_err-fetch_next_token.ensures.1 in
    rw (p.1, p.2) (owed-fails (state_of c.is_ready.new.self) ts _ (c.in_ok-is_ready.ensures.ahead c.if-branch.false)
    (c.in_ok-is_ready.ensures.owed ahead source ts (c.fetching.invariant.sound ahead source is) (c.fetching.invariant.owed ahead source ts is o))
    c.in_err-fetch_next_token.ensures.value)
