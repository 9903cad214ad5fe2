use Rattle.snap_run_requests.proofs.Prelude.{refl, assertion_table}
use Rattle.std.proofs.lemmas.Result.{err_from_is_err_and}
use Rattle.snap_run_requests.proofs.request.file_at.Goals as goal

pub returns-in_err-file : goal.returns-in_err-file
returns-in_err-file c =
    let told = err_from_is_err_and c.from_residual.result c.from_residual.ensures.1 in
    rw (told.1, told.2) (record { holds = c.in_err-file.ensures assertion_table (record { needed = refl; takes = λ value. refl }) })
