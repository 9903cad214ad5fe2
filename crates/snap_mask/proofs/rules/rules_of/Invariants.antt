use Rattle.snap_mask.proofs.Prelude.{length, replacements_of, rules_in}
use Rattle.snap_mask.proofs.RulesRead.{ReadsOn}
use Rattle.snap_mask.proofs.rules.rules_of.Given as goal

abbrev pub invariant-rules : goal.invariant-rules
invariant-rules l = ReadsOn (rules_in l.fn.words) (replacements_of l.rules.items) l.rest

abbrev pub decreases-rules : goal.decreases-rules
decreases-rules l = length l.rest
