use Rattle.snap_scan.proofs.Prelude.{ap, ◌∙◌, Mark, here}
use Rattle.snap_scan_tokens.specs.Quoted.{style_of, quoted_from}
use Rattle.snap_scan.proofs.Reading.{does-quoted}
use Rattle.snap_scan.proofs.fetcher.Fetcher.fetch_quoted.Goals as goal

pub returns-clause-value : goal.returns-clause-value
returns-clause-value c =
    does-quoted (style_of c.args.quotes) (quoted_from c.args.quotes) _ _ _ _ _ _ _ _ _ c.in_ok-save_simple_key.ensures.value.0 c.in_ok-save_simple_key.ensures.value.1 c.allow_simple_key.ensures.value
    (c.index-self.ensures ∙ ap (λ (m : Mark). m.index) c.mark.ensures) c.mark-mark.ensures c.in_ok-text.ensures.value
    (c.in_ok-text.ensures.travels.onward _ (here _)) c.in_ok-text.ensures.falls (rw c.style.ensures at c.push_token.ensures.value)
