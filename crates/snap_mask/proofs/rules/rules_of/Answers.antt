use Rattle.snap_mask.proofs.RulesRead.{reads_on}
use Rattle.snap_mask.proofs.rules.rules_of.Goals as goal

pub rules-preserved : goal.rules-preserved
rules-preserved c =
    reads_on _ c.rules.rules.items c.push.new.self.items c.in-Some.rule c.rules.rest.now c.in-Some.more.now c.rules.invariant (rw c.in-Some.is at c.in_ok-rule.ensures.rule)
    c.in_ok-push.ensures.items
