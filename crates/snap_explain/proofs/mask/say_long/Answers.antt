use Rattle.snap_explain.proofs.Prelude.{inl, inr}
use Rattle.snap_explain.proofs.Endings.{long_said, long_begun, long_unsaid}
use Rattle.snap_explain.proofs.mask.say_long.Goals as goal

pub returns-in-Err-WriteFault-clause-leaves : goal.returns-in-Err-WriteFault-clause-leaves
returns-in-Err-WriteFault-clause-leaves g c = λ rules input w s.
    inr (long_begun rules c.args.line input w _ _ s (λ v told. rw c.in-Err-WriteFault.field-0-is at (c.in-Err-WriteFault.ensures.said v told)))

pub returns-in-Err-OutOfMemory-clause-leaves : goal.returns-in-Err-OutOfMemory-clause-leaves
returns-in-Err-OutOfMemory-clause-leaves g c = λ rules input w s.
    inl (long_unsaid rules c.args.line input w _ _ s (λ v told. rw c.in-Err-OutOfMemory.field-0-is at (c.in-Err-OutOfMemory.ensures.said v told)))
