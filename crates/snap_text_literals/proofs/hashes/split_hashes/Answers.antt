use Rattle.snap_text_literals.proofs.Prelude.{◌++◌, ap, ◌∙◌, arith, rules, chars, hashes}
use Rattle.snap_text_literals.proofs.Hashed.{hashes-push, hashes-within, length-chars-le}
use Rattle.snap_text_literals.proofs.hashes.split_hashes.Goals as goal

pub overflow_add-count : goal.overflow_add-count
overflow_add-count c =
    let is = c.loop-more.invariant.is ∙ ap (λ t. hashes c.loop-more.count ++ t) c.in-Some.ensures ∙ hashes-push c.loop-more.count (chars c.in-Some.more.now) in
    let n = hashes-within (chars c.args.text.now) (chars c.in-Some.more.now) _ is in
    let m = length-chars-le c.args.text.now c.utf8.text in
    omega arith

pub loop-more-preserved : goal.loop-more-preserved
loop-more-preserved c = record {
  utf8 = search rules;
  is = c.loop-more.invariant.is ∙ ap (λ t. hashes c.loop-more.count ++ t) c.in-Some.ensures ∙ hashes-push c.loop-more.count (chars c.in-Some.more.now);
}
