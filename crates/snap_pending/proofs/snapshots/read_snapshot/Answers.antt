use Rattle.snap_pending.proofs.Prelude.{ap, sym, ◌∙◌, subst, Plain, pair_trees, dict_of, HeldEnd}
use Rattle.snap_pending.proofs.snapshots.read_snapshot.Goals as goal

pub returns-in-Map : goal.returns-in-Map
returns-in-Map c = λ plain made.
    let told = dict_of _ c.in-Map.pairs plain c.in-Map.is made in
    let P : Plain → Type 0 = λ t. HeldEnd t c.snapshot_of_pairs.result in
    subst P (sym told.is) (c.snapshot_of_pairs.ensures told.held (ap pair_trees c.as_slice.ensures ∙ told.made))
