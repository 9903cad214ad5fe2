use Rattle.snap_explain_values.proofs.Prelude.{sym, ap, refl}
use Rattle.snap_explain_values.proofs.SeenKeys.{is_one_of, seen_more, once_more, once_all, twice_here, told_new, told_seen}
use Rattle.snap_explain_values.proofs.keys.is_key_twice.Goals as goal

pub returns-then-not-branch : goal.returns-then-not-branch
returns-then-not-branch c =
    sym (twice_here c.args.pairs.now c.loop-pair.pair-index c.pair-item.result c.loop-pair-test.true c.pair-item.is c.loop-pair.seen.keys c.loop-pair.invariant.seen
    (told_seen _ _ c.in_ok-insert.ensures.added c.if-not-branch.true))

pub loop-pair-init : goal.loop-pair-init
loop-pair-init c = record { once = refl; seen = λ q. ap (is_one_of q) c.new-seen.ensures.empty }

pub loop-pair-preserved : goal.loop-pair-preserved
loop-pair-preserved c = record {
  once = once_more c.args.pairs.now c.loop-pair.pair-index c.pair-item.result c.loop-pair-test.true c.pair-item.is c.loop-pair.seen.keys c.loop-pair.invariant.seen
      (told_new _ _ c.in_ok-insert.ensures.added c.if-not-branch.false) c.loop-pair.invariant.once;
  seen = seen_more c.args.pairs.now c.loop-pair.pair-index c.pair-item.result c.loop-pair-test.true c.pair-item.is c.loop-pair.seen.keys c.insert.new.self.keys c.loop-pair.invariant.seen
      c.in_ok-insert.ensures.updates.0;
}

pub returns : goal.returns
returns c = sym (once_all c.args.pairs.now c.loop-pair.pair-index c.loop-pair-test.false c.loop-pair.invariant.once)
