use Rattle.snap_text_literals.proofs.Prelude.{◌≡◌, ◌∷◌, ◌++◌, [], rules, IsBody}
use Rattle.snap_text_literals.proofs.Outcomes.{ok_then}
use Rattle.snap_text_literals.proofs.Reading.{reading_step, reading_end, reading_none, body_on, body_off, body_done, body_too_long, body_nothing, body_with_return}
use Rattle.snap_text_literals.proofs.read.read_body.Goals as goal

pub returns-in-None : goal.returns-in-None
returns-in-None c = reading_end (IsBody c.args.count) _ _ _ c.loop-c.invariant.so_far (body_done c.args.count _ _ c.in-Some-after_end.ensures c.in-None.ensures)

pub returns-in-Some-split_first : goal.returns-in-Some-split_first
returns-in-Some-split_first c =
    reading_none (IsBody c.args.count) _ _ _ c.loop-c.invariant.so_far (body_too_long c.args.count _ _ _ _ c.in-Some-after_end.ensures c.in-Some-split_first.ensures)

pub returns-then-c-eq13 : goal.returns-then-c-eq13
returns-then-c-eq13 c = reading_none (IsBody c.args.count) _ _ _ c.loop-c.invariant.so_far (body_with_return c.args.count _ _ _ c.in-Some.ensures c.if-c-eq13.true)

pub loop-c-preserved : goal.loop-c-preserved
loop-c-preserved c =
    let is = ok_then c.push.result (c.push.new.self ≡ c.loop-c.made ++ c.in-Some.c ∷ []) c.if-is_err.ensures.value c.push.ensures.ok in
    record {
      utf8 = search rules;
      so_far = reading_step (IsBody c.args.count) _ _ _ _ (c.in-Some.c ∷ []) _ c.loop-c.invariant.so_far is
          (body_on c.args.count _ c.in-Some.c _ c.in-Some.ensures c.if-c-eq13.false c.in_default-after_end.ensures)
          (body_off c.args.count _ _ _ c.in-Some.ensures c.in_default-after_end.ensures);
    }

pub returns : goal.returns
returns c = reading_none (IsBody c.args.count) _ _ _ c.loop-c.invariant.so_far (body_nothing c.args.count _ c.in_default.ensures)
