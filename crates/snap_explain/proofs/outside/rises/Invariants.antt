use denote.Shadow.{shadow}
use denote.Text.{Utf8}
use Rattle.snap_explain.proofs.Prelude.{◌≡◌, ◌+◌, ◌≤◌, length, chars}
use Rattle.snap_path.specs.Paths.{components}
use Rattle.snap_explain.specs.Outside.{rises}
use Rattle.snap_explain.proofs.outside.rises.Given as goal

abbrev pub invariant-loop-part : goal.invariant-loop-part
invariant-loop-part l = record {
  utf8 : shadow (Utf8 l.rest);
  same : rises l.below (components (chars l.rest)) ≡ rises 0 (components (chars l.fn.path));
  few : l.below + length (chars l.rest) ≤ length (chars l.fn.path);
}

abbrev pub decreases-loop-part : goal.decreases-loop-part
decreases-loop-part l = length (chars l.rest)
