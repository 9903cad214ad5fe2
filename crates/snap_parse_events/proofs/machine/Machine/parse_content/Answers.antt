use Rattle.snap_parse_events.proofs.Prelude.{◌≡◌, rules}
use Rattle.snap_scan_tokens.specs.declared.token.TokenType.TheVariants as k
use Rattle.snap_parse_events.proofs.Openings.{list-begins, dict-begins, sequence-begins, mapping-begins}
use Rattle.snap_parse_events.proofs.machine.Machine.parse_content.Goals as goal

pub returns-in_ok-begin-in-FlowSequenceStart-clause-sound : goal.returns-in_ok-begin-in-FlowSequenceStart-clause-sound
returns-in_ok-begin-in-FlowSequenceStart-clause-sound c =
    λ source took here all.
    let is : c.args.token.1 ≡ k.FlowSequenceStart = search rules in
    c.in_ok-begin-in-FlowSequenceStart.ensures.sound source (list-begins source c.args.token c.args.self.now.tokens c.args.self.now.outer.items is took all) here

pub returns-in_ok-begin-in-FlowMappingStart-clause-sound : goal.returns-in_ok-begin-in-FlowMappingStart-clause-sound
returns-in_ok-begin-in-FlowMappingStart-clause-sound c =
    λ source took here all.
    let is : c.args.token.1 ≡ k.FlowMappingStart = search rules in
    c.in_ok-begin-in-FlowMappingStart.ensures.sound source (dict-begins source c.args.token c.args.self.now.tokens c.args.self.now.outer.items is took all) here

pub returns-in_ok-begin-in-BlockSequenceStart-clause-sound : goal.returns-in_ok-begin-in-BlockSequenceStart-clause-sound
returns-in_ok-begin-in-BlockSequenceStart-clause-sound c =
    λ source took here all.
    let is : c.args.token.1 ≡ k.BlockSequenceStart = search rules in
    c.in_ok-begin-in-BlockSequenceStart.ensures.sound source (sequence-begins source c.args.token c.args.self.now.tokens c.args.self.now.outer.items is took all) here

pub returns-in_ok-begin-in-BlockMappingStart-clause-sound : goal.returns-in_ok-begin-in-BlockMappingStart-clause-sound
returns-in_ok-begin-in-BlockMappingStart-clause-sound c =
    λ source took here all.
    let is : c.args.token.1 ≡ k.BlockMappingStart = search rules in
    c.in_ok-begin-in-BlockMappingStart.ensures.sound source (mapping-begins source c.args.token c.args.self.now.tokens c.args.self.now.outer.items is took all) here
