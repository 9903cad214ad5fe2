use Rattle.snap_run_requests.proofs.Prelude.{ℕ, ◌<◌, ◌≤◌, get_or, pair_trees}
use Rattle.snap_run_requests.specs.Keys.{times}
use Rattle.snap_run_requests.specs.declared.key.Key.TheVariants.{Module}
use Rattle.snap_run_requests.proofs.pairs.key_twice.Given as goal

-- none of the keys so far stands twice
abbrev pub invariant-loop-key : goal.invariant-loop-key
invariant-loop-key l = (k : ℕ) → k < l.key-index → times (get_or l.key-items k Module) (pair_trees l.pairs) ≤ 1
