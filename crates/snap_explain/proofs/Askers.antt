-- Which document asked for a path first.
use Rattle.snap_explain.proofs.Prelude.{◌≡◌, ℕ, List, Some, None, cond, ap}
use Rattle.std.specs.Prelude.{is_some}
use Rattle.snap_explain.specs.Asked.{Seen, first_asker, with_asker, with_path}

pub asker_known : (number : ℕ) (path : List ℕ) (seen : Seen) (first : ℕ) → first_asker path seen ≡ Some first → with_asker number path seen ≡ seen
asker_known number path seen first is = ap (λ found. cond (is_some found) seen (with_path number path seen)) is

pub asker_new : (number : ℕ) (path : List ℕ) (seen : Seen) → first_asker path seen ≡ None → with_asker number path seen ≡ with_path number path seen
asker_new number path seen is = ap (λ found. cond (is_some found) seen (with_path number path seen)) is
