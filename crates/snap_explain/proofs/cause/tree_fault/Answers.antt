use Rattle.snap_explain.specs.Reasons.IsShown.{unread}
use Rattle.snap_explain.proofs.cause.tree_fault.Goals as goal

pub returns-in-Err : goal.returns-in-Err
returns-in-Err c =
    unread c.in-Err.refusal c.fault_of.ensures (rw c.in-Err.is at c.in_ok-refusal.ensures.cause)
    (λ nodes are. rw c.in-Err.is at (c.in_ok-refusal.ensures.nodes nodes are))
