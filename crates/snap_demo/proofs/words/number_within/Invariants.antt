use Rattle.snap_demo.proofs.Prelude.{◌≡◌, ◌≤◌, length}
use denote.Shadow.{shadow}
use denote.Text.{Utf8}
use Rattle.std.specs.Str.{chars}
use Rattle.snap_demo.specs.Words.{at_most, digits_number}
use Rattle.snap_demo.proofs.words.number_within.Given as goal

abbrev pub invariant-loop-c : goal.invariant-loop-c
invariant-loop-c l = record {
  utf8 : shadow (Utf8 l.rest);
  same : at_most l.most (digits_number l.number (chars l.rest)) ≡ at_most l.most (digits_number 0 (chars l.initial.text));
  few : l.number ≤ l.most;
}

abbrev pub decreases-loop-c : goal.decreases-loop-c
decreases-loop-c l = length (chars l.rest)
