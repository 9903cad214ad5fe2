use Rattle.snap_scan_properties.proofs.Prelude.{◌∙◌, [], sym, ap, chars-nil, chars, is_nothing}
use Rattle.snap_scan_properties.proofs.Uris.{some-refused, some-empty, some-read}
use Rattle.std.proofs.lemmas.Result.{err_from_is_err_and}
use Rattle.snap_scan_properties.proofs.tag.scan_some_uri.Goals as goal

pub returns-in_err-text-clause-value : goal.returns-in_err-text-clause-value
returns-in_err-text-clause-value c =
    let told = err_from_is_err_and c.from_residual.result c.from_residual.ensures.1 in
    rw (told.1, told.2) (some-refused c.args.cursor.now (chars []) c.in_err-text.field-0.0 chars-nil c.in_err-text.ensures.value)

pub returns-then-is_nothing-clause-value : goal.returns-then-is_nothing-clause-value
returns-then-is_nothing-clause-value c =
    some-empty c.args.cursor.now c.scan_tag_uri.new.cursor (chars []) c.in_ok-text.text chars-nil c.in_ok-text.ensures.value
    (ap is_nothing (sym c.as_str.ensures) ∙ sym c.is_nothing.ensures ∙ c.if-is_nothing.true)

pub returns-clause-value : goal.returns-clause-value
returns-clause-value c =
    some-read c.args.cursor.now c.scan_tag_uri.new.cursor (chars []) c.in_ok-text.text chars-nil c.in_ok-text.ensures.value
    (ap is_nothing (sym c.as_str.ensures) ∙ sym c.is_nothing.ensures ∙ c.if-is_nothing.false)
