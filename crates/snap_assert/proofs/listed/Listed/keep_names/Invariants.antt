use Rattle.snap_assert.proofs.Prelude.{◌≡◌}
use Rattle.snap_assert.proofs.Covering.{IsKeeping}
use Rattle.snap_assert.proofs.listed.Listed.keep_names.Given as goal

abbrev pub invariant-loop-name : goal.invariant-loop-name
invariant-loop-name l = record {
  keeping : IsKeeping l.fn.self.waiting.keys l.self.waiting.keys l.folder l.names l.name-index;
  folders : l.self.folders.keys ≡ l.fn.self.folders.keys;
}
