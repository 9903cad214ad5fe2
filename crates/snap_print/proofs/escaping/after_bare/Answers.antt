use Rattle.snap_print.proofs.Prelude.{sym, ◌∙◌, rules, chars}
use Rattle.snap_print.proofs.BareRuns.{bare_more}
use Rattle.snap_print.proofs.escaping.after_bare.Goals as goal

pub loop-c-preserved : goal.loop-c-preserved
loop-c-preserved c = record {
  utf8 = search rules;
  passed = bare_more (chars c.args.text.now) (chars c.loop-c.rest.now) (chars c.in-Some.next.now) c.in-Some.c c.loop-c.invariant.passed c.in-Some.ensures
      (sym c.is_escaped.ensures ∙ c.if-is_escaped.false);
}
