use Rattle.snap_store.proofs.Prelude.{◌≡◌, length, Utf8, shadow, chars, behind_name}
use Rattle.snap_store.proofs.legacy.behind_name.Given as goal

abbrev pub invariant-loop-letter : goal.invariant-loop-letter
invariant-loop-letter l = record {
  utf8 : shadow (Utf8 l.rest) × shadow (Utf8 l.letters);
  same : behind_name (chars l.letters) (chars l.rest) ≡ behind_name (chars l.fn.name) (chars l.fn.line);
}

abbrev pub decreases-loop-letter : goal.decreases-loop-letter
decreases-loop-letter l = length (chars l.letters)
