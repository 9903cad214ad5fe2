use Rattle.snap_text_literals.proofs.Prelude.{◌≡◌, ◌++◌, ◌∷◌, length, Utf8, shadow, flat_map, chars, escaped_char}
use Rattle.snap_text_literals.proofs.spelling.spell_escaped.Given as goal

abbrev pub invariant-loop-c : goal.invariant-loop-c
invariant-loop-c l = record { utf8 : shadow (Utf8 l.rest); same : l.made ++ flat_map escaped_char (chars l.rest) ≡ 34 ∷ flat_map escaped_char (chars l.fn.text) }

abbrev pub decreases-loop-c : goal.decreases-loop-c
decreases-loop-c l = length (chars l.rest)
