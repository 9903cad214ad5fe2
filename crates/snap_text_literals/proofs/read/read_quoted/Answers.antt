use Rattle.snap_text_literals.proofs.Prelude.{◌≡◌, ◌∷◌, ◌++◌, [], Some, option_to_list, refl, sym, ap, ◌∙◌, append-nil, rules, chars, Inside, ends}
use Rattle.snap_text_literals.proofs.Outcomes.{ok_then, not_alone}
use Rattle.snap_text_literals.proofs.Reading.{reading_step, reading_end, reading_none, inside_ahead, inside_behind, inside_none}
use Rattle.snap_text_literals.proofs.read.read_quoted.Goals as goal

pub loop-given-preserved-else-is_err : goal.loop-given-preserved-else-is_err
loop-given-preserved-else-is_err c =
    let one = c.in-Some-given.c ∷ [] in
    let u = c.in-Some.ensures.unit ∙ ap (λ g. Some (option_to_list g, chars c.in-Some.more.now)) c.in-Some-given.is in
    let is = ok_then c.push.result (c.push.new.self ≡ c.loop-given.made ++ one) c.if-is_err.ensures.value c.push.ensures.ok in
    record {
      utf8 = search rules;
      so_far = reading_step Inside _ _ _ _ one _ c.loop-given.invariant.so_far is (inside_ahead _ one _ u) (inside_behind _ one _ u);
    }

pub loop-given-preserved : goal.loop-given-preserved
loop-given-preserved c =
    let u = c.in-Some.ensures.unit ∙ ap (λ g. Some (option_to_list g, chars c.in-Some.more.now)) c.in_default-given.is in
    record {
      utf8 = search rules;
      so_far = reading_step Inside _ _ _ _ [] _ c.loop-given.invariant.so_far (sym (append-nil c.loop-given.made)) (inside_ahead _ [] _ u) (inside_behind _ [] _ u);
    }

pub returns-in-None-split_first : goal.returns-in-None-split_first
returns-in-None-split_first c =
    reading_end Inside _ _ _ c.loop-given.invariant.so_far (ends (c.in-Some-after_character.ensures ∙ ap (λ t. 34 ∷ t) c.in-None-split_first.ensures) refl)

pub returns-in-Some-split_first : goal.returns-in-Some-split_first
returns-in-Some-split_first c =
    reading_none Inside _ _ _ c.loop-given.invariant.so_far
    (inside_none _ c.in_default.ensures.unit (not_alone _ _ _ _ c.in-Some-after_character.ensures c.in-Some-split_first.ensures))

pub returns-in-None : goal.returns-in-None
returns-in-None c = reading_none Inside _ _ _ c.loop-given.invariant.so_far (inside_none _ c.in_default.ensures.unit (c.in-None.ensures []))
