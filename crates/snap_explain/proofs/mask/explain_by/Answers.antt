use Rattle.snap_explain.proofs.Prelude.{inl, replacements_of}
use Rattle.snap_explain.proofs.Endings.{stops_at_start}
use Rattle.snap_explain.proofs.mask.explain_by.Goals as goal

pub returns-in-Err-clause-leaves : goal.returns-in-Err-clause-leaves
returns-in-Err-clause-leaves g c = λ m input w e f. inl (stops_at_start (replacements_of c.args.rules.items) input w _ f)
