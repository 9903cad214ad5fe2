use Rattle.snap_scan.proofs.Prelude.{here}
use Rattle.std.proofs.lemmas.Result.{err_from_is_err_and}
use Rattle.snap_scan.specs.Fetching.{block_style}
use Rattle.snap_scan.proofs.Reading.{does-block, fails-block, innermost-is}
use Rattle.snap_scan.proofs.fetcher.Fetcher.fetch_block_scalar.Goals as goal

pub returns-clause-value : goal.returns-clause-value
returns-clause-value c =
    does-block (block_style c.args.literal) c.args.literal _ _ _ _ _ _ _ _ c.in_ok-save_simple_key.ensures.value.0 c.in_ok-save_simple_key.ensures.value.1 c.allow_simple_key.ensures.value (innermost-is c.innermost.result _ c.innermost.ensures)
    c.in_ok-scalar.ensures.value (c.in_ok-scalar.ensures.travels.onward _ (here _)) c.in_ok-scalar.ensures.falls c.in_ok-scalar.ensures.mark.0 c.in_ok-scalar.ensures.mark.1 (rw c.block_style.ensures at c.push_token.ensures.value)

pub returns-in_err-scalar-clause-value : goal.returns-in_err-scalar-clause-value
returns-in_err-scalar-clause-value c =
    let told = err_from_is_err_and c.from_residual-in_err-scalar.result c.from_residual-in_err-scalar.ensures.1 in
    rw (told.1, told.2) (fails-block (block_style c.args.literal) c.args.literal _ _ _ _ c.in_err-scalar.field-0.0 c.scan_block_scalar.new.cursor
    c.in_ok-save_simple_key.ensures.value.0 c.in_ok-save_simple_key.ensures.value.1 c.allow_simple_key.ensures.value (innermost-is c.innermost.result _ c.innermost.ensures)
    c.in_err-scalar.ensures.value c.in_err-scalar.ensures.cause)
