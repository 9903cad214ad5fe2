use Rattle.snap_text_literals.proofs.Prelude.{length, max, ap, ◌∙◌, rules, arith, chars, required}
use Rattle.snap_text_literals.proofs.Hashed.{hashes-within, length-chars-le, required-quote}
use Rattle.snap_text_literals.proofs.hashes.required_hashes.Goals as goal

pub overflow_add-count : goal.overflow_add-count
overflow_add-count c =
    let most = length-chars-le c.args.text.now c.utf8.text in
    let here = hashes-within (chars c.in-Some.more.now) _ c.split_hashes-count.result.0 c.split_hashes-count.ensures.is in
    let size = ap length c.in-Some.ensures in
    omega (arith, most, here, size)

pub loop-c-preserved-then-c-eq34 : goal.loop-c-preserved-then-c-eq34
loop-c-preserved-then-c-eq34 c =
    let e = required-quote _ _ _ _ _ c.loop-c.most _ c.in-Some.ensures c.if-c-eq34.true c.split_hashes-count.ensures.is c.split_hashes-count.ensures.whole c.loop-c.invariant.same in
    record {
      utf8 = search rules;
      same = ap (λ m. max m (required (chars c.in-Some.more.now))) c.max-most.ensures ∙ e;
      bound = omega (arith, ap length c.in-Some.ensures);
    }
