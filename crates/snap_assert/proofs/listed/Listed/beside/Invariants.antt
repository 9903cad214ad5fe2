use Rattle.snap_assert.proofs.Prelude.{◌≡◌, ◌++◌, filter, is_stray}
use Rattle.snap_assert.proofs.listed.Listed.beside.Given as goal

abbrev pub invariant-loop-kept : goal.invariant-loop-kept
invariant-loop-kept l = l.strays.items ++ filter (is_stray l.path) l.kept-iterator ≡ filter (is_stray l.path) l.self.waiting.keys
