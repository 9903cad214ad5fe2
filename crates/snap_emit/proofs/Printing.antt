-- What holds of what was printed.
use Rattle.snap_emit.proofs.Prelude.{Bool, true, false, refl, Result, Ok, Err, IfOk, Plain, IsWithin, blocks_if, lines_of, EndsWell, printed-end}

-- what holds at each success, from what holds there
pub at_success : {A E : Type 0} (result : Result A E) (P Q : Type 0) → (P → Q) → IfOk result (λ _. P) → IfOk result (λ _. Q)
at_success (Ok made) P Q step h = step h
at_success (Err error) P Q step h = h

-- with literal blocks or without, a whole text is trimmed at its end
pub ends-if : (literal : Bool) (p : Plain) → IsWithin p → EndsWell (lines_of (blocks_if literal) p)
ends-if true p within = printed-end _ p refl within
ends-if false p within = printed-end _ p refl within
