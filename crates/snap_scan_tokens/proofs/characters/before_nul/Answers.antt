use Rattle.snap_scan_tokens.proofs.Prelude.{sym, chars}
use Rattle.snap_scan_tokens.proofs.Nuls.{no_nul, cut_at_nul}
use Rattle.snap_scan_tokens.proofs.characters.before_nul.Goals as goal

pub returns-in-None : goal.returns-in-None
returns-in-None c = sym (no_nul (chars c.args.text.now) c.in-None.ensures.cut)

pub returns-in-Some : goal.returns-in-Some
returns-in-Some c = cut_at_nul (chars c.args.text.now) _ _ c.in-Some.ensures.cut
