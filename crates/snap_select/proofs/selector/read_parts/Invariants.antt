use Rattle.snap_select.proofs.Prelude.{◌≡◌, [], length, Utf8, shadow, chars, outcome, before_part}
use Rattle.snap_select.proofs.selector.read_parts.Given as goal

-- the parts so far, and what is left, come to what the whole comes to
abbrev pub invariant-parts : goal.invariant-parts
invariant-parts l = record { utf8 : shadow (Utf8 l.rest); same : outcome (before_part []) (chars l.fn.text) ≡ outcome (before_part l.parts.items) (chars l.rest) }

abbrev pub decreases-parts : goal.decreases-parts
decreases-parts l = length (chars l.rest)
