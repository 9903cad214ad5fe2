use denote.Shadow.{shadow}
use denote.Text.{Utf8}
use Rattle.snap_mask.proofs.Prelude.{◌≡◌, length, chars, beginning_in}
use Rattle.snap_mask.proofs.beginning.beginning_in.Given as goal

abbrev pub invariant-blanks : goal.invariant-blanks
invariant-blanks l = record {
  same : beginning_in (chars l.rest) ≡ beginning_in (chars l.fn.text);
  utf8 : shadow (Utf8 l.rest);
}

abbrev pub decreases-blanks : goal.decreases-blanks
decreases-blanks l = length (chars l.rest)
