use Rattle.snap_scan.proofs.Prelude.{here, state_of}
use Rattle.snap_scan_tokens.specs.declared.token.TokenType.TheVariants as t
use Rattle.snap_scan.proofs.Reading.{does-directive}
use Rattle.snap_scan.proofs.fetcher.Fetcher.fetch_directive.Goals as goal

pub returns-in-Version-clause-value : goal.returns-in-Version-clause-value
returns-in-Version-clause-value c =
    does-directive (state_of c.args.self.now) _ _ _ _ _ (t.VersionDirective _ _) _ _ tt
    c.in_ok-unroll_indent.ensures.value c.in_ok-remove_simple_key.ensures.value.0 c.in_ok-remove_simple_key.ensures.value.1 c.allow_simple_key.ensures.value
    c.mark-mark.ensures (c.in_ok-major.ensures.travels.onward _ (here _)) c.in_ok-major.ensures.falls c.push_token.ensures.value

pub returns-in_ok-tag-in-Tag-clause-value : goal.returns-in_ok-tag-in-Tag-clause-value
returns-in_ok-tag-in-Tag-clause-value c =
    does-directive (state_of c.args.self.now) _ _ _ _ _ (t.TagDirective _) _ _ tt
    c.in_ok-unroll_indent.ensures.value c.in_ok-remove_simple_key.ensures.value.0 c.in_ok-remove_simple_key.ensures.value.1 c.allow_simple_key.ensures.value
    c.mark-mark.ensures (c.in_ok-major.ensures.travels.onward _ (here _)) c.in_ok-major.ensures.falls c.push_token-in-Tag.ensures.value
