use Rattle.snap_mask.proofs.Prelude.{tree, err_from_is_err_and}
use Rattle.snap_mask.proofs.LinesRead.{refused_key, is_refused_key}
use Rattle.snap_mask.proofs.record.record_of.Goals as goal

pub returns-in_err-record-clause-why : goal.returns-in_err-record-clause-why
returns-in_err-record-clause-why g c = λ views are.
    let told = err_from_is_err_and c.from_residual-in_err-record.result c.from_residual-in_err-record.ensures.1 in
    rw (told.1, told.2)
    (refused_key views c.args.line.now (tree c.in_ok-value.value) (tree c.in_ok-value-2.value) c.in_err-record.field-0.0 are.masking c.in_ok-value.ensures.read (c.in_ok-value-2.ensures views are)
    (is_refused_key c.in_err-record.field-0.0 (tree c.in_ok-value-2.value) c.in_err-record.ensures.refused))
