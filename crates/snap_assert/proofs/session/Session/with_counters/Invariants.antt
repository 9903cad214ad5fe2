use Rattle.snap_assert.proofs.Prelude.{◌≡◌, take, empty_session}
use Rattle.snap_assert.specs.Session.{session_of, with_counters}
use Rattle.snap_assert.proofs.session.Session.with_counters.Given as goal

-- the counters so far are set
abbrev pub invariant-loop-counter : goal.invariant-loop-counter
invariant-loop-counter l = session_of l.session ≡ with_counters (take l.counter-index l.counters) empty_session
