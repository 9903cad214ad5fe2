use Rattle.snap_run_requests.proofs.Prelude.{refl, assertion_table}
use Rattle.std.proofs.lemmas.Result.{err_from_is_err_and}
use Rattle.snap_run_requests.proofs.request.told_in.Goals as goal

pub returns-in-Some : goal.returns-in-Some
returns-in-Some c = record { holds = c.in-Some.ensures assertion_table refl }

pub returns-in_err-module_name : goal.returns-in_err-module_name
returns-in_err-module_name c =
    let told = err_from_is_err_and c.from_residual.result c.from_residual.ensures.1 in
    rw (told.1, told.2) (record { holds = c.in_err-module_name.ensures assertion_table (record { needed = refl; takes = λ value. refl }) })

pub returns-in_err-expr : goal.returns-in_err-expr
returns-in_err-expr c =
    let told = err_from_is_err_and c.from_residual-in_err-expr.result c.from_residual-in_err-expr.ensures.1 in
    rw (told.1, told.2) (record { holds = c.in_err-expr.ensures assertion_table (record { needed = refl; takes = λ value. refl }) })

pub returns-in_err-name : goal.returns-in_err-name
returns-in_err-name c =
    let told = err_from_is_err_and c.from_residual-in_err-name.result c.from_residual-in_err-name.ensures.1 in
    rw (told.1, told.2) (record { holds = c.in_err-name.ensures assertion_table (record { refuses = λ value none. none }) })

pub returns-in_err-function : goal.returns-in_err-function
returns-in_err-function c =
    let told = err_from_is_err_and c.from_residual-in_err-function.result c.from_residual-in_err-function.ensures.1 in
    rw (told.1, told.2) (record { holds = c.in_err-function.ensures assertion_table (record { refuses = λ value none. none }) })

pub returns-in_err-suffix : goal.returns-in_err-suffix
returns-in_err-suffix c =
    let told = err_from_is_err_and c.from_residual-in_err-suffix.result c.from_residual-in_err-suffix.ensures.1 in
    rw (told.1, told.2) (record { holds = c.in_err-suffix.ensures assertion_table (record { refuses = λ value none. none }) })
