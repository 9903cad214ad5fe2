use Rattle.snap_scan_properties.proofs.Prelude.{refl, subst, codes, IsRefusedBy, Mark, explained}
use Rattle.std.proofs.lemmas.Result.{err_from_is_err_and}
use Rattle.snap_scan_properties.proofs.tag.scan_tag.Goals as goal

pub returns-in_err-tag-clause-cause : goal.returns-in_err-tag-clause-cause
returns-in_err-tag-clause-cause c =
    let told = err_from_is_err_and c.from_residual.result c.from_residual.ensures.1 in
    let error = c.in_err-tag.field-0.0 in
    let P : Mark → Type 0 = λ m. IsRefusedBy (codes "!") m error in
    rw (told.1, told.2) (explained c.args.cursor.now (codes "!") error (rw c.requires refl) refl (subst P c.mark-mark.ensures c.in_err-tag.ensures.cause))
