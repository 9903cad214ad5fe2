use Rattle.snap_run_requests.proofs.Prelude.{block_table}
use Rattle.std.proofs.lemmas.Result.{err_from_is_err_and}
use Rattle.snap_run_requests.proofs.PairsFaults.{no_word}
use Rattle.snap_run_requests.proofs.request.block_of_pairs.Goals as goal

pub returns-in_err-word : goal.returns-in_err-word
returns-in_err-word c =
    let told = err_from_is_err_and c.from_residual.result c.from_residual.ensures.1 in
    rw (told.1, told.2) (record { holds = c.in_err-word.ensures block_table (record { refuses = λ value none. no_word _ none }) })
