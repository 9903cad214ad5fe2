use Rattle.snap_scan.proofs.Prelude.{ap, ◌∙◌, Mark}
use Rattle.snap_scan.proofs.Stepping.{does-token}
use Rattle.snap_scan.proofs.fetcher.Fetcher.fetch_token.Goals as goal

pub returns-clause-value : goal.returns-clause-value
returns-clause-value c =
    does-token _ _ _ _ _ _ _ _ c.in_ok-stale_simple_keys.ensures.value.0 c.in_ok-stale_simple_keys.ensures.value.1
    (c.col.ensures ∙ ap (λ (m : Mark). m.col) c.mark-mark.ensures) c.in_ok-unroll_indent.ensures.value
    c.in_flow.ensures c.kind_here-kind.ensures.kind c.fetch_kind.ensures.value
