use Rattle.snap_assert_settings.proofs.Prelude.{map, ap, sym, ◌∙◌, list_any, redaction_of, redactions_of, take_all, shown_redactions, calls}
use Rattle.std.proofs.lemmas.Result.{err_from_is_err_and}
use Rattle.snap_assert_settings.proofs.CopiedLists.{one_copied, none_calls, one_calls, stops_all}
use Rattle.snap_assert_settings.proofs.redactions.Redactions.try_clone.Goals as goal

pub loop-selector-preserved : goal.loop-selector-preserved
loop-selector-preserved g c =
    let ps = c.as_slice-selector-items.result.now in
    let i = c.loop-selector.selector-index in
    let p = c.loop-selector-item.result in
    record {
      equal = one_copied ps i p (c.in_ok-own.own, c.in_ok-copy.copy) (redactions_of c.loop-selector.copies) (redactions_of c.push.new.self) c.loop-selector-test.true
          c.loop-selector-item.is c.loop-selector.invariant.equal c.in_ok-own.ensures c.in_ok-copy.ensures.equal c.in_ok-push.ensures.ok;
      none = none_calls ps i p c.loop-selector-test.true c.loop-selector-item.is c.loop-selector.invariant.none c.in_ok-copy.ensures.end;
    }

pub returns-in_err-copy-clause-end : goal.returns-in_err-copy-clause-end
returns-in_err-copy-clause-end g c =
    let told = err_from_is_err_and c.from_residual-in_err-copy.result c.from_residual-in_err-copy.ensures.1 in
    let ps = c.as_slice-selector-items.result.now in
    rw (told.1, told.2)
    (stops_all _ _ c.in_err-copy.field-0.0
    (λ called. ap (list_any calls) (sym c.as_slice-selector-items.ensures)
    ∙ one_calls ps c.loop-selector.selector-index c.loop-selector-item.result c.loop-selector-test.true c.loop-selector-item.is called)
    c.in_err-copy.ensures.end)

pub returns-clause-equal : goal.returns-clause-equal
returns-clause-equal g c =
    c.loop-selector.invariant.equal
    ∙ ap (λ qs. shown_redactions (map redaction_of qs)) (take_all c.loop-selector.selector-index c.as_slice-selector-items.result.now c.loop-selector-test.false)
    ∙ ap shown_redactions c.as_slice-selector-items.ensures

pub returns-clause-end : goal.returns-clause-end
returns-clause-end g c =
    ap (list_any calls) (sym c.as_slice-selector-items.ensures)
    ∙ sym (ap (λ qs. list_any calls (map redaction_of qs)) (take_all c.loop-selector.selector-index c.as_slice-selector-items.result.now c.loop-selector-test.false))
    ∙ c.loop-selector.invariant.none
