use Rattle.snap_select.proofs.Prelude.{◌≡◌, length, Utf8, shadow, chars, past, is_decimal}
use Rattle.snap_select.proofs.pieces.past_digits.Given as goal

abbrev pub invariant-loop-c : goal.invariant-loop-c
invariant-loop-c l = record { utf8 : shadow (Utf8 l.rest); same : past is_decimal (chars l.rest) ≡ past is_decimal (chars l.initial.text) }

abbrev pub decreases-loop-c : goal.decreases-loop-c
decreases-loop-c l = length (chars l.rest)
