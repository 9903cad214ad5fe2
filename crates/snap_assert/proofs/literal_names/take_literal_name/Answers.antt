use Rattle.snap_assert.proofs.Prelude.{sym, ◌∙◌}
use Rattle.snap_assert.specs.Session.{session_of}
use Rattle.snap_assert.proofs.Forgetting.{forgets}
use Rattle.snap_assert.proofs.literal_names.take_literal_name.Goals as goal

pub returns-clause-same : goal.returns-clause-same
returns-clause-same g c =
    forgets (session_of c.args.session.now) (session_of c.meet.new.self) (session_of c.take_use-2.new.session) (session_of c.forget.new.self) c.in_ok-key.key c.in_ok-met.met
    (c.in_ok-met.ensures ∙ sym c.in_ok-key.ensures) (sym c.is_met.ensures ∙ c.if-is_met.false) c.in_ok-meet.ensures.ok c.in-Err.ensures.same c.forget.ensures
