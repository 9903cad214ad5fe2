use Rattle.snap_text_literals.proofs.Prelude.{length, Utf8, shadow, chars}
use Rattle.snap_text_literals.proofs.LineLeads.{IsLead}
use Rattle.snap_text_literals.proofs.lines.lead.Given as goal

abbrev pub invariant-loop-c : goal.invariant-loop-c
invariant-loop-c l = record { utf8 : shadow (Utf8 l.rest); so_far : IsLead (chars l.fn.line) (chars l.rest) }

abbrev pub decreases-loop-c : goal.decreases-loop-c
decreases-loop-c l = length (chars l.rest)
