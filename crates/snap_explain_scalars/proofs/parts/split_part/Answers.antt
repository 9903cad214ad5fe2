use Rattle.snap_explain_scalars.proofs.Prelude.{rules, sym, ◌∙◌, chars}
use Rattle.snap_explain_scalars.proofs.Cuts.{passed-none, passed-more, part-cut, part-shorter, part-whole}
use Rattle.snap_explain_scalars.proofs.parts.split_part.Goals as goal

pub loop-c-init : goal.loop-c-init
loop-c-init c = record { utf8 = search rules; passed = passed-none (chars c.args.text.now) }

pub loop-c-preserved : goal.loop-c-preserved
loop-c-preserved c = record {
  utf8 = search rules;
  passed =
      passed-more (chars c.args.text.now) (chars c.loop-c.rest.now) (chars c.in-Some.next.now) c.in-Some.c c.loop-c.invariant.passed c.in-Some.ensures
      (sym c.is_cut.ensures ∙ c.if-is_cut.false);
}

pub before_rest-requires : goal.before_rest-requires
before_rest-requires c = (c.loop-c.invariant.passed.front, c.loop-c.invariant.passed.is)

pub returns-then-is_cut-clause-part : goal.returns-then-is_cut-clause-part
returns-then-is_cut-clause-part c =
    part-cut (chars c.args.text.now) (chars c.loop-c.rest.now) (chars c.in-Some.next.now) (chars c.before_rest.result.now) c.in-Some.c c.loop-c.invariant.passed c.in-Some.ensures
    (sym c.is_cut.ensures ∙ c.if-is_cut.true) (c.before_rest.ensures c.loop-c.invariant.passed.front c.loop-c.invariant.passed.is)

pub returns-then-is_cut-clause-shorter : goal.returns-then-is_cut-clause-shorter
returns-then-is_cut-clause-shorter c =
    part-shorter (chars c.args.text.now) (chars c.loop-c.rest.now) (chars c.in-Some.next.now) c.in-Some.c c.loop-c.invariant.passed c.in-Some.ensures

pub returns-clause-part : goal.returns-clause-part
returns-clause-part c = part-whole (chars c.args.text.now) (chars c.loop-c.rest.now) c.loop-c.invariant.passed c.in_default.ensures
