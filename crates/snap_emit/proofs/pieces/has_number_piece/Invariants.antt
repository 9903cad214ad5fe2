use Rattle.snap_emit.proofs.Prelude.{◌≡◌, length, Utf8, shadow, chars, has_number_piece}
use Rattle.snap_emit.proofs.pieces.has_number_piece.Given as goal

abbrev pub invariant-loop-piece : goal.invariant-loop-piece
invariant-loop-piece l = record { utf8 : shadow (Utf8 l.rest); so_far : has_number_piece (chars l.rest) ≡ has_number_piece (chars l.fn.text) }

abbrev pub decreases-loop-piece : goal.decreases-loop-piece
decreases-loop-piece l = length (chars l.rest)
