use Rattle.snap_select.proofs.Prelude.{◌≡◌, List, [], length, ◌≤◌, Utf8, shadow, chars, outcome, inside, in_quotes, Parts, Segment}
use Rattle.snap_select.proofs.quotes.read_escaped.Given as goal

-- the key so far, and what is left, come to what the whole comes to
abbrev pub invariant-loop-c : goal.invariant-loop-c
invariant-loop-c l = record {
  utf8 : shadow (Utf8 l.rest);
  same : (ps : Parts) (ss : List Segment) → outcome (inside ps ss (in_quotes [])) (chars l.fn.text) ≡ outcome (inside ps ss (in_quotes l.key)) (chars l.rest);
  within : length (chars l.rest) ≤ length (chars l.fn.text);
}

abbrev pub decreases-loop-c : goal.decreases-loop-c
decreases-loop-c l = length (chars l.rest)
