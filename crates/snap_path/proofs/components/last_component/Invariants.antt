use Rattle.snap_path.proofs.Prelude.{◌≡◌, length, Utf8, shadow, chars, components}
use Rattle.snap_path.proofs.components.last_component.Given as goal

-- what is left has the same components
abbrev pub invariant-loop-front : goal.invariant-loop-front
invariant-loop-front l = record { utf8 : shadow (Utf8 l.rest); same : components (chars l.rest) ≡ components (chars l.initial.path) }

abbrev pub decreases-loop-front : goal.decreases-loop-front
decreases-loop-front l = length (chars l.rest)
