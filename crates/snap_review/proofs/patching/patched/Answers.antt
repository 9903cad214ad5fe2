use Rattle.snap_review.proofs.Prelude.{[], refl, rules, chars}
use Rattle.snap_review.proofs.Puttings.{so_far_start, so_far_then, so_far_stops, left_at, behind_rest}
use Rattle.snap_review.proofs.patching.patched.Goals as goal

pub loop-change-init : goal.loop-change-init
loop-change-init c = record {
  rest_text = search rules;
  ahead_text = search rules;
  rest = record { front = []; is = refl };
  ahead = refl;
  so_far = so_far_start (chars c.args.source.now) c.args.changes.now c.empty-made.result c.empty-made.ensures;
}

pub put_change-requires-clause-rest : goal.put_change-requires-clause-rest
put_change-requires-clause-rest c = (c.loop-change.invariant.rest.front, c.loop-change.invariant.rest.is)

pub returns-in-Err : goal.returns-in-Err
returns-in-Err c = so_far_stops _ _ _ _ c.change-item.result _ _ c.in-Err.refusal c.loop-change.invariant.so_far
    (left_at c.args.changes.now c.loop-change.change-index c.change-item.result c.loop-change-test.true c.change-item.is) c.in-Err.ensures.err

pub loop-change-preserved : goal.loop-change-preserved
loop-change-preserved c =
    let p = c.in-Ok.ensures.ok in
    record {
      rest_text = search rules;
      ahead_text = search rules;
      rest = behind_rest _ _ _ _ _ p.1;
      ahead = c.in-Ok.ensures.line;
      so_far = so_far_then _ _ _ _ c.change-item.result _ _ _ _ _ c.loop-change.invariant.so_far
          (left_at c.args.changes.now c.loop-change.change-index c.change-item.result c.loop-change-test.true c.change-item.is) p.1 p.2;
    }
