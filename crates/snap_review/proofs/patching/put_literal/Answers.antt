use Rattle.snap_review.proofs.Prelude.{◌++◌, refl, ap, ◌∙◌, append_assoc, chars, lead, inline_normal, spelled, Stands}
use Rattle.snap_review.proofs.Marks.{marked_literal}
use Rattle.snap_review.proofs.Puttings.{fresh_true, fresh_false, here_rest}
use Rattle.snap_review.proofs.patching.put_literal.Goals as goal

pub is_fresh-requires : goal.is_fresh-requires
is_fresh-requires c = marked_literal _ _ _ c.in-Some.ensures

pub gap_before-requires-clause-here : goal.gap_before-requires-clause-here
gap_before-requires-clause-here c = let r = here_rest _ _ _ _ c.args.change.now.line c.requires.line c.in-Some.ensures in (r.front, r.is)

pub returns-else-fresh-clause-err : goal.returns-else-fresh-clause-err
returns-else-fresh-clause-err c =
    let place : Stands (chars c.args.source.now) c.args.change.now.line =
    record { from = chars c.args.from.now; here = chars c.in-Some.here.now; behind = chars c.in-Some.behind.now; line_is = c.requires.line; first = c.in-Some.ensures } in
    (refl, c.requires.stable, (place, fresh_false _ _ _ _ c.if-fresh.false c.in_ok-fresh.ensures))

pub returns-in_default-gap_before-clause-err : goal.returns-in_default-gap_before-clause-err
returns-in_default-gap_before-clause-err c =
    let place : Stands (chars c.args.source.now) c.args.change.now.line =
    record { from = chars c.args.from.now; here = chars c.in-Some.here.now; behind = chars c.in-Some.behind.now; line_is = c.requires.line; first = c.in-Some.ensures } in
    (refl, c.requires.stable, (place, fresh_true _ _ _ _ c.if-fresh.true c.in_ok-fresh.ensures, c.in_default-gap_before.ensures))

pub returns-in_ok-push_str-2-clause-ok : goal.returns-in_ok-push_str-2-clause-ok
returns-in_ok-push_str-2-clause-ok c =
    let gap = chars c.in-Some-gap_before.gap.now in
    let literal = c.in_ok-literal.literal in (
      gap ++ literal,
      record {
        place = record { from = chars c.args.from.now; here = chars c.in-Some.here.now; behind = chars c.in-Some.behind.now; line_is = c.requires.line; first = c.in-Some.ensures };
        gap = gap;
        stable = c.requires.stable;
        fresh = fresh_true _ _ _ _ c.if-fresh.true c.in_ok-fresh.ensures;
        gap_is = c.in-Some-gap_before.ensures;
        behind_is = refl;
        put_is = ap (λ x. gap ++ x)
            (c.in_ok-literal.ensures.spelled ∙ ap (λ i. spelled i (inline_normal (chars c.as_str.result.now))) c.lead.ensures.text
            ∙ ap (λ t. spelled (lead (chars c.args.from.now)) (inline_normal t)) c.as_str.ensures);
      },
      c.in_ok-push_str-2.ensures.ok ∙ ap (λ x. x ++ chars c.as_str-then-fresh.result.now) c.in_ok-push_str.ensures.ok
          ∙ append_assoc c.args.made.now gap (chars c.as_str-then-fresh.result.now) ∙ ap (λ l. c.args.made.now ++ (gap ++ l)) c.as_str-then-fresh.ensures,
    )
