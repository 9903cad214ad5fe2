use Rattle.snap_select.proofs.Prelude.{◌≡◌, ◌≤◌, [], length, Utf8, shadow, chars, Parts, outcome, ready}
use Rattle.snap_select.proofs.parts.read_segments.Given as goal

-- the segments so far, and what is left, come to what the whole comes to
abbrev pub invariant-segments : goal.invariant-segments
invariant-segments l = record {
  utf8 : shadow (Utf8 l.rest);
  same : (ps : Parts) → outcome (ready ps []) (chars l.fn.text) ≡ outcome (ready ps l.segments.items) (chars l.rest);
  within : length (chars l.rest) ≤ length (chars l.fn.text);
}

abbrev pub decreases-segments : goal.decreases-segments
decreases-segments l = length (chars l.rest)
