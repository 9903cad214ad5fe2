use Rattle.snap_scan.proofs.Prelude.{◌≡◌, true, state_of}
use Rattle.snap_scan.proofs.Growing.{more-held}
use Rattle.snap_scan.proofs.Stepping.{does-step}
use Rattle.snap_scan.proofs.fetcher.Fetcher.fetch_next_token.Goals as goal

pub returns-clause-value : goal.returns-clause-value
returns-clause-value c =
    let begun : (state_of c.args.self.now).started ≡ true = cc in
    does-step (state_of c.args.self.now) (state_of c.skip_to_next_token.new.self) c.fetch_token.result (state_of c.fetch_token.new.self) c.if-self.false begun
    c.skip_to_next_token.ensures.value c.fetch_token.ensures.value

pub returns-clause-more : goal.returns-clause-more
returns-clause-more c =
    λ going. more-held c.fetch_token.result (state_of c.args.self.now) (state_of c.fetch_token.new.self) going (returns-clause-value c)
