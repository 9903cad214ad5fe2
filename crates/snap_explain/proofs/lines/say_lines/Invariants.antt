use Rattle.snap_explain.proofs.Prelude.{◌≡◌, ◌<◌, ◌≤◌, ◌+◌, ℕ, List, Some, length, SpendsOf, ReplacementView, AreRules}
use Rattle.snap_explain.proofs.Turns.{SoFar}
use Rattle.snap_explain.proofs.lines.say_lines.Given as goal

abbrev pub invariant-lines : goal.invariant-lines
invariant-lines g l = record {
  so_far : (rules : List ReplacementView) (input w : List ℕ) → AreRules l.fn.rules rules → g.S.Source.left l.fn.source ≡ Some input → g.K.Sink.written l.fn.sink ≡ Some w
      → SoFar rules input w l.held (g.S.Source.left l.source) (g.K.Sink.written l.sink) l.number l.found;
  spent : SpendsOf 1099511627777 l.budget (g.S.Source.left l.fn.source) (g.S.Source.left l.source);
  some : 0 < l.budget;
  bound : l.number + (l.budget + length l.held) ≤ 1099511627777;
  read_count : g.S.Source.faults l.source ≡ g.S.Source.faults l.fn.source;
  write_count : g.K.Sink.faults l.sink ≡ g.K.Sink.faults l.fn.sink;
}

abbrev pub decreases-lines : goal.decreases-lines
decreases-lines g l = l.budget + length l.held
