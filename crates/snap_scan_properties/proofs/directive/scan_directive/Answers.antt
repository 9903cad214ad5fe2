use Rattle.snap_scan_properties.proofs.Prelude.{refl, subst, codes, IsRefusedBy, Mark, explained}
use Rattle.snap_scan_properties.proofs.Names.{explained-answer}
use Rattle.snap_scan_tokens.proofs.Explained.{explained-at}
use Rattle.std.proofs.lemmas.Result.{err_from_is_err_and}
use Rattle.snap_scan_properties.proofs.directive.scan_directive.Goals as goal

pub returns-in_err-name-clause-cause : goal.returns-in_err-name-clause-cause
returns-in_err-name-clause-cause c =
    let told = err_from_is_err_and c.from_residual.result c.from_residual.ensures.1 in
    rw (told.1, told.2) (explained-at c.args.cursor.now c.skip.new.self (codes "%") c.in_err-name.field-0.0 (rw c.requires refl) refl c.skip.ensures.travels.sum c.skip.ensures.travels.lighter c.in_err-name.ensures.cause)

pub returns-in_err-directive-clause-cause : goal.returns-in_err-directive-clause-cause
returns-in_err-directive-clause-cause c =
    let told = err_from_is_err_and c.from_residual-in_err-directive.result c.from_residual-in_err-directive.ensures.1 in
    let error = c.in_err-directive.field-0.0 in
    let P : Mark → Type 0 = λ m. IsRefusedBy (codes "%") m error in
    rw (told.1, told.2) (explained c.args.cursor.now (codes "%") error (rw c.requires refl) refl (subst P c.mark-mark.ensures c.in_err-directive.ensures.cause))

pub returns-clause-cause : goal.returns-clause-cause
returns-clause-cause c =
    explained-answer c.args.cursor.now c.mark-mark.result c.close.result (rw c.requires refl) c.mark-mark.ensures c.close.ensures.cause
