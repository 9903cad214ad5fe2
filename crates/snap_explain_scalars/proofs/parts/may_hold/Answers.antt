use Rattle.snap_explain_scalars.proofs.Prelude.{rules, sym, ◌∙◌, chars}
use Rattle.snap_explain_scalars.proofs.Cuts.{told-cut, told-whole}
use Rattle.snap_explain_scalars.proofs.parts.may_hold.Goals as goal

pub returns-then-ends_otherwise : goal.returns-then-ends_otherwise
returns-then-ends_otherwise c =
    sym (sym c.loop-part.invariant.left
    ∙ told-cut (chars c.loop-part.rest.now) (chars c.in-Some.part.now) (chars c.in-Some.next.now) _ c.in-Some.ensures.part (sym c.if-ends_otherwise.true ∙ c.ends_otherwise.ensures))

pub loop-part-preserved : goal.loop-part-preserved
loop-part-preserved c = record {
  utf8 = search rules;
  left =
      sym (told-cut (chars c.loop-part.rest.now) (chars c.in-Some.part.now) (chars c.in-Some.next.now) _ c.in-Some.ensures.part (sym c.if-ends_otherwise.false ∙ c.ends_otherwise.ensures))
      ∙ c.loop-part.invariant.left;
}

pub returns : goal.returns
returns c = c.ends_otherwise-2.ensures ∙ sym (told-whole (chars c.loop-part.rest.now) c.in_default.ensures.part) ∙ c.loop-part.invariant.left
