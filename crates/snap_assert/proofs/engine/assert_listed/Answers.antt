use Rattle.snap_assert.proofs.Prelude.{IfOk-weaker, settings_of, place_of, blocks_if}
use Rattle.std.specs.Option.{option_copied}
use Rattle.snap_assert.specs.Session.{session_of}
use Rattle.snap_assert.proofs.Answering.{default_answered}
use Rattle.snap_assert.proofs.Below.{trimmed-if}
use Rattle.snap_assert.proofs.Refusals.{err_weaker, stops_by}
use Rattle.snap_assert.proofs.Halting.{default_halted}
use Rattle.snap_assert.proofs.engine.assert_listed.Goals as goal

pub returns-clause-answered : goal.returns-clause-answered
returns-clause-answered g c = IfOk-weaker c.assert_sorted.result _ _ (λ outcome h. (
  h.0,
  h.1,
  λ known held. default_answered c.args.config.now
      (blocks_if c.args.config.now.literal) (settings_of c.args.settings.now) (place_of c.args.place.now) (option_copied c.args.name) h.0
      outcome known _ (session_of c.args.session.now) _ (trimmed-if c.args.config.now.literal) (h.2 known held),
)) c.assert_sorted.ensures.answered

pub returns-clause-halted : goal.returns-clause-halted
returns-clause-halted g c = err_weaker c.assert_sorted.result (λ error h. stops_by (λ printed halts known held.
    default_halted c.args.config.now (blocks_if c.args.config.now.literal) (settings_of c.args.settings.now) (place_of c.args.place.now) (option_copied c.args.name) printed
    error known _ (session_of c.args.session.now) (trimmed-if c.args.config.now.literal) (halts known held)) h) c.assert_sorted.ensures.halted
