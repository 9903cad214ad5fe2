use Rattle.snap_explain.specs.Asked.{seen_of}
use Rattle.snap_explain.proofs.Askers.{asker_known, asker_new}
use Rattle.snap_explain.proofs.Prelude.{sym, ◌∙◌}
use Rattle.snap_explain.proofs.earlier.Earlier.ask.Goals as goal

pub returns-in-Some-clause-seen : goal.returns-in-Some-clause-seen
returns-in-Some-clause-seen c = sym (asker_known c.args.number c.args.path.now (seen_of c.args.self.now) c.in-Some.first (sym c.first_asker.ensures ∙ c.in-Some.is))

pub returns-in_ok-remember-in-None-clause-seen : goal.returns-in_ok-remember-in-None-clause-seen
returns-in_ok-remember-in-None-clause-seen c =
    c.in_ok-remember-in-None.ensures.seen ∙ sym (asker_new c.args.number c.args.path.now (seen_of c.args.self.now) (sym c.first_asker.ensures ∙ c.in-None.is))
