use Rattle.snap_parse_events.proofs.Prelude.{◌≡◌, rules}
use Rattle.snap_scan_tokens.specs.declared.token.TokenType.TheVariants as k
use Rattle.snap_parse_events.proofs.Openings.{alias-founded, behind-alias}
use Rattle.snap_parse_events.proofs.machine.Machine.parse_node_from.Goals as goal

pub returns-in-Alias-clause-sound : goal.returns-in-Alias-clause-sound
returns-in-Alias-clause-sound c =
    λ source took here all.
    let is : c.args.token.1 ≡ k.Alias c.in-Alias.name = search rules in
    c.parse_alias.ensures.sound source (alias-founded source c.args.token c.args.self.now.tokens c.in-Alias.name is took)
    (behind-alias source c.args.token c.args.self.now.tokens c.in-Alias.name c.args.behind c.args.self.now.outer.items is took here all)
