use Rattle.snap_text.proofs.Prelude.{length, IsPlainFormatter, chars, normal_of}
use denote.Text.{Utf8}
use denote.Shadow.{shadow}
use Rattle.snap_text.proofs.Shown.{IsShown}
use Rattle.snap_text.proofs.contents.TextSnapshotContentsDisplay.fmt.Given as goal

abbrev pub invariant-loop-line : goal.invariant-loop-line
invariant-loop-line g l = record {
  utf8 : shadow (Utf8 l.rest);
  shown : IsPlainFormatter l.initial.f → IsShown g.W.Write.write_str_gives l.initial.f l.byte (normal_of l.self) (chars l.rest) l.f;
}

abbrev pub decreases-loop-line : goal.decreases-loop-line
decreases-loop-line g l = length (chars l.rest)
