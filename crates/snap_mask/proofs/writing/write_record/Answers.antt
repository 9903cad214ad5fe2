use Rattle.snap_mask.proofs.Prelude.{ap, sym, ◌∙◌, encode_utf8_all, encodes-chars, err_from_is_err_and}
use Rattle.snap_mask.proofs.RecordsWritten.{filled_line, refuses_record, record_begun, record_written}
use Rattle.snap_mask.proofs.writing.write_record.Goals as goal

pub returns-in_err-record-clause-refused : goal.returns-in_err-record-clause-refused
returns-in_err-record-clause-refused g c = λ views are.
    let told = err_from_is_err_and c.from_residual.result c.from_residual.ensures.1 in
    rw (told.1, told.2) (refuses_record views c.in_err-record.field-0.0 c.args.line.now (filled_line _ _ c.is_empty.ensures c.if-is_empty.false) (c.in_err-record.ensures.why views are))

pub returns-in_err-write_all-clause-written : goal.returns-in_err-write_all-clause-written
returns-in_err-write_all-clause-written g c = λ views w are before.
    let told = err_from_is_err_and c.from_residual-in_err-write_all.result c.from_residual-in_err-write_all.ensures.1 in
    let made = c.in_ok-record.ensures.given views are in
    rw (told.1, told.2)
    (record_begun views c.args.line.now made.0 c.as_bytes.result.now w _ (filled_line _ _ c.is_empty.ensures c.if-is_empty.false) made.1
    (c.as_bytes.ensures.value ∙ sym (encodes-chars c.as_str.result.now c.as_str.utf8) ∙ ap encode_utf8_all (c.as_str.ensures ∙ made.2)) (c.in_err-write_all.ensures.part w before))

pub returns-clause-written : goal.returns-clause-written
returns-clause-written g c = λ views w are before.
    let made = c.in_ok-record.ensures.given views are in
    record_written views c.args.line.now made.0 c.as_bytes.result.now w _ (filled_line _ _ c.is_empty.ensures c.if-is_empty.false) made.1
    (c.as_bytes.ensures.value ∙ sym (encodes-chars c.as_str.result.now c.as_str.utf8) ∙ ap encode_utf8_all (c.as_str.ensures ∙ made.2)) (c.in_ok-write_all.ensures.all w before)
