use Rattle.snap_pending.proofs.Prelude.{length, chars, lines, records_of}
use denote.Text.{Utf8}
use denote.Shadow.{shadow}
use Rattle.snap_pending.proofs.LinesRead.{Told, Refused}
use Rattle.snap_pending.proofs.loading.read_lines.Given as goal

abbrev pub invariant-loop-line : goal.invariant-loop-line
invariant-loop-line l = record {
  utf8 : shadow (Utf8 l.rest);
  told : Told (lines (chars l.fn.text)) (lines (chars l.rest)) (records_of l.records);
  refused : Refused l.path (lines (chars l.fn.text)) (lines (chars l.rest));
}

abbrev pub decreases-loop-line : goal.decreases-loop-line
decreases-loop-line l = length (chars l.rest)
