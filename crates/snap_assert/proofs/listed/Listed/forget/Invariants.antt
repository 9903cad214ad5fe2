use Rattle.snap_assert.proofs.Prelude.{◌≡◌}
use Rattle.snap_assert.proofs.Covering.{IsForgetting}
use Rattle.snap_assert.proofs.listed.Listed.forget.Given as goal

abbrev pub invariant-loop-path : goal.invariant-loop-path
invariant-loop-path l = record {
  forgetting : IsForgetting l.fn.self.waiting.keys l.self.waiting.keys l.gone l.path-index;
  folders : l.self.folders.keys ≡ l.fn.self.folders.keys;
}
