use Rattle.snap_scan_properties.proofs.Prelude.{◌||◌, ◌∙◌, ℕ, List, Bool, not, Result, sym, ap, chars, ScanInfo, is_nothing, ends_name, Found, found}
use Rattle.snap_scan_properties.proofs.Names.{anchor-refused, anchor-read}
use Rattle.snap_scan_properties.proofs.anchor.scan_anchor.Goals as goal

pub returns-then-is_unnamed-clause-value : goal.returns-then-is_unnamed-clause-value
returns-then-is_unnamed-clause-value c =
    let text : List ℕ = chars c.take_run-name.result.now in
    let f : ℕ → Bool = λ n. is_nothing text || not (ends_name n) in
    anchor-refused c.args.cursor.now c.skip.new.self c.take_run-name.new.cursor text c.skip.ensures.value c.take_run-name.ensures.text c.take_run-name.ensures.place
    (ap f (sym c.ch.ensures) ∙ sym c.is_unnamed.ensures ∙ c.if-is_unnamed.true)

pub returns-clause-value : goal.returns-clause-value
returns-clause-value c =
    let text : List ℕ = chars c.take_run-name.result.now in
    let f : ℕ → Bool = λ n. is_nothing text || not (ends_name n) in
    let g : List ℕ → Result (Found (List ℕ)) ScanInfo = λ l. found l c.take_run-name.new.cursor in
    anchor-read c.args.cursor.now c.skip.new.self c.take_run-name.new.cursor text c.skip.ensures.value c.take_run-name.ensures.text c.take_run-name.ensures.place
    (ap f (sym c.ch.ensures) ∙ sym c.is_unnamed.ensures ∙ c.if-is_unnamed.false) ∙ ap g (sym c.in_ok-name.ensures)
