use Rattle.snap_pending.proofs.Prelude.{refl, ap, sym, ◌∙◌, Some, codes, last_filled}
use Rattle.std.proofs.lemmas.Result.{err_from_is_err_and}
use Rattle.snap_pending.specs.Told.IsOtherRecord.{other_new, other_old}
use Rattle.snap_pending.specs.Told.LacksInRecord.{lacks_run, lacks_line, lacks_in_new, lacks_in_old}
use Rattle.snap_pending.proofs.Parts.{held_refused, may_tell}
use Rattle.snap_pending.proofs.lines.record_of_pairs.Goals as goal

pub returns-in_err-new : goal.returns-in_err-new
returns-in_err-new c =
    let told = err_from_is_err_and c.from_residual.result c.from_residual.ensures.1 in
    rw (told.1, told.2) (λ entries made.
    held_refused entries (last_filled (codes "new") entries) c.in_err-new.field-0.0 (c.in_err-new.ensures entries made)
    (λ value is other. other_new entries value refl is other) (λ value is lacks. lacks_in_new entries value refl is lacks))

pub returns-in_err-old : goal.returns-in_err-old
returns-in_err-old c =
    let told = err_from_is_err_and c.from_residual-in_err-old.result c.from_residual-in_err-old.ensures.1 in
    rw (told.1, told.2) (λ entries made.
    held_refused entries (last_filled (codes "old") entries) c.in_err-old.field-0.0 (c.in_err-old.ensures entries made)
    (λ value is other. other_old entries value refl is other) (λ value is lacks. lacks_in_old entries value refl is lacks))

pub returns-in_default : goal.returns-in_default
returns-in_default c = λ entries made. lacks_run entries refl (sym (c.in_default.ensures.made entries made))

pub returns-in_default-line_named : goal.returns-in_default-line_named
returns-in_default-line_named c = λ entries made. lacks_line entries refl (sym (c.in_default-line_named.ensures.made entries made))

pub returns : goal.returns
returns c = λ entries made. record {
  entries = entries;
  tree_is = refl;
  run_is = sym (c.in-Some.ensures.made entries made) ∙ ap Some (sym (c.new.ensures.run ∙ c.in_ok-run_id.ensures));
  line_is = sym (c.in-Some-line_named.ensures.made entries made) ∙ ap Some (sym c.new.ensures.line);
  new_is = may_tell _ c.in_ok-new.new _ c.new.ensures.made (c.in_ok-new.ensures entries made);
  old_is = may_tell _ c.in_ok-old.old _ c.new.ensures.stood (c.in_ok-old.ensures entries made);
}
