use Rattle.snap_pending.proofs.Prelude.{ap, sym, ◌∙◌, subst, Plain, pair_trees, dict_of, RecordEnd}
use Rattle.snap_pending.proofs.lines.read_record.Goals as goal

pub returns-in-Map : goal.returns-in-Map
returns-in-Map c = λ plain made.
    let told = dict_of _ c.in-Map.pairs plain c.in-Map.is made in
    let P : Plain → Type 0 = λ t. RecordEnd t c.record_of_pairs.result in
    subst P (sym told.is) (c.record_of_pairs.ensures told.held (ap pair_trees c.as_slice.ensures ∙ told.made))
