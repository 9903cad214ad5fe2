use Rattle.snap_text_literals.proofs.Prelude.{ap, sym, rules, length, chars-nil, chars}
use Rattle.snap_text_literals.proofs.LineLeads.{shortest_start}
use Rattle.snap_text_literals.proofs.inline.shortest_lead.Goals as goal

pub loop-line-init : goal.loop-line-init
loop-line-init c = record {
  utf8 = search rules;
  best_utf8 = search rules;
  bytes = ap length (sym chars-nil);
  same = shortest_start (chars c.args.text.now) c.trimmed_text-rest.result.now c.trimmed_text-rest.ensures;
}
