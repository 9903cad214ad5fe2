use Rattle.snap_text_literals.proofs.Prelude.{◌≡◌, ◌∷◌, ◌++◌, [], ◌∙◌, sym, ap, rules, chars, without_returns}
use Rattle.snap_text_literals.proofs.Returns.{past_line, unreturned-unbroken}
use Rattle.snap_text_literals.proofs.normal.unreturned_text.Goals as goal

pub loop-line-preserved : goal.loop-line-preserved
loop-line-preserved c =
    let more : c.push.new.self ≡ c.loop-line.made ++ without_returns (chars c.in-Some.line.now) ++ 10 ∷ [] = cc (c.in_ok-push_str.ensures.ok, c.in_ok-push.ensures.ok, c.trim_returns.ensures) in
    record {
      utf8 = search rules;
      so_far = past_line _ _ _ _ _ _ c.in-Some.ensures.line more c.loop-line.invariant.so_far;
    }

pub returns : goal.returns
returns c =
    let made = c.loop-line.made in
    c.in_ok-push_str-2.ensures.ok ∙ ap (λ t. made ++ t) (sym (unreturned-unbroken (chars c.loop-line.rest.now) c.in_default.ensures.line))
    ∙ c.loop-line.invariant.so_far
