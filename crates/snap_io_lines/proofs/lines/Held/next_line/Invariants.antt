use Rattle.snap_io_lines.proofs.Prelude.{◌≡◌, ◌<◌, ◌≤◌, ◌+◌, length, Lacks, SpendsOf}
use Rattle.snap_io_lines.proofs.Pieces.{IsGathered}
use Rattle.snap_io_lines.proofs.lines.Held.next_line.Given as goal

abbrev pub invariant-pieces : goal.invariant-pieces
invariant-pieces g l = record {
  gathered : IsGathered l.fn.self (g.S.Source.left l.fn.source) l.line.items l.self (g.S.Source.left l.source);
  unbroken : Lacks 10 l.line.items;
  within : length l.line.items ≤ 1048576;
  spent : SpendsOf l.fn.budget l.budget (g.S.Source.left l.fn.source) (g.S.Source.left l.source);
  some : 0 < l.budget;
  bound : l.budget + length l.self ≤ l.fn.budget + length l.fn.self;
  count : g.S.Source.faults l.source ≡ g.S.Source.faults l.fn.source;
}

abbrev pub decreases-pieces : goal.decreases-pieces
decreases-pieces g l = l.budget
