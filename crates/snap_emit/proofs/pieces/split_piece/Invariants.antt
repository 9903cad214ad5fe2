use Rattle.snap_emit.proofs.Prelude.{length, Utf8, shadow, chars}
use Rattle.snap_emit.proofs.NumberPieces.{IsPassed}
use Rattle.snap_emit.proofs.pieces.split_piece.Given as goal

abbrev pub invariant-loop-c : goal.invariant-loop-c
invariant-loop-c l = record { utf8 : shadow (Utf8 l.rest); so_far : IsPassed (chars l.fn.text) (chars l.rest) }

abbrev pub decreases-loop-c : goal.decreases-loop-c
decreases-loop-c l = length (chars l.rest)
