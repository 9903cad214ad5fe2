use Rattle.snap_path.proofs.Prelude.{rules, chars, components}
use Rattle.snap_path.proofs.Parts.{part-pushed, part-stands, all-pushed, all-stand}
use Rattle.snap_path.proofs.components.push_components.Goals as goal

pub loop-part-preserved : goal.loop-part-preserved
loop-part-preserved c =
    let parts = components (chars c.loop-part.rest.now) in
    let more = components (chars c.in-Some.next.now) in
    let part = chars c.in-Some.part.now in
    record {
      utf8 = search rules;
      so_far = part-pushed c.loop-part.path _ _ part c.loop-part.is_behind parts more c.in_ok-push_component.ensures c.in-Some.ensures.component c.loop-part.invariant.so_far;
      behind = part-stands c.loop-part.is_behind _ part parts more c.in-Some.ensures.component c.loop-part.invariant.behind;
    }

pub returns-clause-path : goal.returns-clause-path
returns-clause-path c = all-pushed c.loop-part.path _ c.loop-part.is_behind (components (chars c.loop-part.rest.now)) c.in_default.ensures.component c.loop-part.invariant.so_far

pub returns-clause-behind : goal.returns-clause-behind
returns-clause-behind c = all-stand c.loop-part.is_behind _ (components (chars c.loop-part.rest.now)) c.in_default.ensures.component c.loop-part.invariant.behind
