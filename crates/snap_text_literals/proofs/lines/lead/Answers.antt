use Rattle.snap_text_literals.proofs.Prelude.{◌≡◌, true, ap, rules, lead, is_indent}
use Rattle.snap_text_literals.proofs.LineLeads.{lead_done, lead_stop, lead_step}
use Rattle.snap_text_literals.proofs.lines.lead.Goals as goal
use Rattle.snap_text_literals.proofs.lines.lead.Goals.{else-c-ne32-via-then-c-ne32+else-c-ne9, else-c-ne32-via-else-c-ne32}

pub returns-then-c-ne9-clause-bytes : goal.returns-then-c-ne9-clause-bytes
returns-then-c-ne9-clause-bytes c =
    let s = c.loop-c.invariant.so_far in
    lead_done _ _ _ s (lead_stop _ _ _ c.in-Some.ensures c.if-c-ne32.true c.if-c-ne9.true) (c.before_rest.ensures s.front s.is) c.before_rest.utf8

pub loop-c-preserved : goal.loop-c-preserved
loop-c-preserved c =
    let blank : is_indent c.in-Some.c ≡ true =
    elim c.else-c-ne32.branch [
      | else-c-ne32-via-then-c-ne32+else-c-ne9 w ↦ ap is_indent w.if-c-ne9.false
      | else-c-ne32-via-else-c-ne32 w ↦ ap is_indent w.if-c-ne32.false
    ] in
    record { utf8 = search rules; so_far = lead_step _ _ _ _ c.loop-c.invariant.so_far c.in-Some.ensures blank }

pub returns-clause-bytes : goal.returns-clause-bytes
returns-clause-bytes c =
    let s = c.loop-c.invariant.so_far in
    lead_done _ _ _ s (ap lead c.in_default.ensures) (c.before_rest-2.ensures s.front s.is) c.before_rest-2.utf8
