use Rattle.snap_scan_tokens.proofs.Prelude.{◌≡◌, ◌∙◌, Some, None, false, slice_index, is_break, Place, escaped, further_digits}
use Rattle.snap_scan_tokens.proofs.Backslashes.{escape-code}
use Rattle.snap_scan_tokens.proofs.escapes.scan_escape.Goals as goal

pub returns-in-Err-clause-value : goal.returns-in-Err-clause-value
returns-in-Err-clause-value c =
    λ text.
    let p : Place = c.args.cursor.now in
    let broken : is_break (slice_index p.left 0) ≡ false = cc in
    let none : escaped (slice_index p.left 0) ≡ None = cc in
    let code : further_digits (slice_index p.left 0) ≡ Some c.in-Some-further_digits.further = cc in
    escape-code text c.in-Some-further_digits.further p c.skip-in-Some-further_digits.new.self broken none code c.skip-in-Some-further_digits.ensures.value
    ∙ c.in-Err.ensures.value text
