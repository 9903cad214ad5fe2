use Rattle.snap_path.proofs.Prelude.{[], ◌∷◌, ◌++◌, ap, sym, ◌∙◌, rules, chars-nil, chars, components}
use Rattle.snap_path.proofs.Parts.{behind-here, behind-later, whole-here, whole-none}
use Rattle.snap_path.proofs.components.last_component.Goals as goal

pub returns-then-is_component : goal.returns-then-is_component
returns-then-is_component c =
    sym c.loop-front.invariant.same
    ∙ behind-here (chars c.loop-front.rest.now) (chars c.in-Some.front.now) (chars c.in-Some.part.now) c.in-Some.ensures.cut (sym c.is_component.ensures ∙ c.if-is_component.true)

pub loop-front-preserved : goal.loop-front-preserved
loop-front-preserved c = record {
  utf8 = search rules;
  same = behind-later (chars c.loop-front.rest.now) (chars c.in-Some.front.now) (chars c.in-Some.part.now) c.in-Some.ensures.cut (sym c.is_component.ensures ∙ c.if-is_component.false) ∙ c.loop-front.invariant.same;
}

pub returns-then-is_component-2 : goal.returns-then-is_component-2
returns-then-is_component-2 c =
    let rest = chars c.loop-front.rest.now in
    sym c.loop-front.invariant.same ∙ whole-here rest c.in_default.ensures.cut (sym c.is_component-2.ensures ∙ c.if-is_component-2.true) ∙ ap (λ ps. ps ++ rest ∷ []) (sym (ap components chars-nil))

pub returns-else-is_component-2 : goal.returns-else-is_component-2
returns-else-is_component-2 c =
    sym c.loop-front.invariant.same ∙ whole-none (chars c.loop-front.rest.now) c.in_default.ensures.cut (sym c.is_component-2.ensures ∙ c.if-is_component-2.false)
