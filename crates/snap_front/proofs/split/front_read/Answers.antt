use Rattle.snap_front.proofs.Prelude.{rules, chars, concat, sym, ◌∙◌}
use Rattle.snap_front.proofs.Splitting.{behind_first, behind_more, at_second}
use Rattle.snap_front.proofs.split.front_read.Goals as goal

pub loop-line-init : goal.loop-line-init
loop-line-init c = record {
  utf8 = search rules;
  behind = behind_first (chars c.args.text.now) (chars c.in-Some.first.now) (chars c.in-Some.rest.now) c.in-Some.ensures.line (sym c.is_fence.ensures ∙ c.if-not-is_fence.false);
}

pub before_rest-requires : goal.before_rest-requires
before_rest-requires c = (concat c.loop-line.invariant.behind.done, c.loop-line.invariant.behind.is)

pub returns-then-is_fence : goal.returns-then-is_fence
returns-then-is_fence c =
    let behind = c.loop-line.invariant.behind in
    at_second (chars c.args.text.now) (chars c.loop-line.rest.now) (chars c.in-Some-next_ended_line.line.now) (chars c.in-Some-next_ended_line.more.now) (chars c.before_rest.result.now) behind
    c.in-Some-next_ended_line.ensures.line (sym c.is_fence-in-Some-next_ended_line.ensures ∙ c.if-is_fence.true) (c.before_rest.ensures (concat behind.done) behind.is)

pub loop-line-preserved : goal.loop-line-preserved
loop-line-preserved c = record {
  utf8 = search rules;
  behind = behind_more (chars c.args.text.now) (chars c.loop-line.rest.now) (chars c.in-Some-next_ended_line.line.now) (chars c.in-Some-next_ended_line.more.now) c.loop-line.invariant.behind
      c.in-Some-next_ended_line.ensures.line (sym c.is_fence-in-Some-next_ended_line.ensures ∙ c.if-is_fence.false);
}
