use Rattle.snap_mask.proofs.Prelude.{refl, replacements_of}
use Rattle.snap_mask.proofs.Runs.{stops_at_start}
use Rattle.snap_mask.proofs.masking.mask_by.Goals as goal

pub returns-in-Err-clause-leaves : goal.returns-in-Err-clause-leaves
returns-in-Err-clause-leaves g c = λ m input w e f. stops_at_start (replacements_of c.args.rules.items) input w _ f

pub returns-in-Ok-clause-leaves : goal.returns-in-Ok-clause-leaves
returns-in-Ok-clause-leaves g c = λ m.
    c.mask_lines.ensures.leaves (replacements_of c.args.rules.items) (record { pairs = c.args.rules.items; held = c.in-Ok.ensures; are = refl; masking = m })
