use denote.Shadow.{shadow}
use denote.Text.{Utf8}
use Rattle.snap_explain.proofs.Prelude.{◌≡◌, length, chars}
use Rattle.snap_explain.specs.Starts.{after_blanks}
use Rattle.snap_explain.proofs.start.skip_blanks.Given as goal

abbrev pub invariant-blanks : goal.invariant-blanks
invariant-blanks l = record {
  same : after_blanks (chars l.rest) ≡ after_blanks (chars l.fn.text);
  utf8 : shadow (Utf8 l.rest);
}

abbrev pub decreases-blanks : goal.decreases-blanks
decreases-blanks l = length (chars l.rest)
