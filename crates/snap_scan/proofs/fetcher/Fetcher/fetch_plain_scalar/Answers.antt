use Rattle.snap_scan.proofs.Prelude.{here}
use Rattle.snap_scan.proofs.Reading.{does-plain, innermost-is}
use Rattle.snap_scan.proofs.fetcher.Fetcher.fetch_plain_scalar.Goals as goal

pub returns-clause-value : goal.returns-clause-value
returns-clause-value c =
    does-plain _ _ _ _ _ _ _ _ _ _ c.in_ok-save_simple_key.ensures.value.0 c.in_ok-save_simple_key.ensures.value.1 c.allow_simple_key.ensures.value c.mark-mark.ensures (innermost-is c.innermost.result _ c.innermost.ensures)
    c.in_flow-in_flow.ensures c.in_ok-scalar.ensures.value (c.in_ok-scalar.ensures.travels.onward _ (here _)) c.in_ok-scalar.ensures.falls c.push_token.ensures.value
