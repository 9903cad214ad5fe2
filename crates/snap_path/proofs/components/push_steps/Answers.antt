use Rattle.snap_path.proofs.Prelude.{[], ◌∷◌, ◌++◌, codes, refl, ap, ◌∙◌, rules, chars, chars-ascii, components, steps_up, then_slashed}
use Rattle.snap_path.proofs.Parts.{part-pushed, part-stands, all-pushed, all-stand}
use Rattle.snap_path.proofs.components.push_steps.Goals as goal

pub loop-next-preserved : goal.loop-next-preserved
loop-next-preserved c =
    let steps = steps_up (components (chars c.loop-next.rest.now)) in
    let more = steps_up (components (chars c.in-Some.next.now)) in
    let cut = ap steps_up c.in-Some.ensures.component in
    let behind = c.loop-next.is_behind in
    let pushed = c.in_ok-push_component.ensures ∙ ap (λ dots. c.loop-next.path ++ then_slashed behind (dots ∷ [])) (chars-ascii (codes "..") refl) in
    record {
      utf8 = search rules;
      so_far = part-pushed c.loop-next.path _ _ (codes "..") behind steps more pushed cut c.loop-next.invariant.so_far;
      behind = part-stands behind _ (codes "..") steps more cut c.loop-next.invariant.behind;
    }

pub returns-clause-path : goal.returns-clause-path
returns-clause-path c = all-pushed c.loop-next.path _ c.loop-next.is_behind (steps_up (components (chars c.loop-next.rest.now))) (ap steps_up c.in_default.ensures.component) c.loop-next.invariant.so_far

pub returns-clause-behind : goal.returns-clause-behind
returns-clause-behind c = all-stand c.loop-next.is_behind _ (steps_up (components (chars c.loop-next.rest.now))) (ap steps_up c.in_default.ensures.component) c.loop-next.invariant.behind
