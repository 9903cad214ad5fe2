use Rattle.snap_emit.proofs.Prelude.{◌≡◌, [], ap, refl, chars}
use Rattle.snap_parse_events.specs.Meaning.{ahead}
use Rattle.snap_parse_events.specs.Nodes.{stream_events}
use Rattle.snap_parse_events.specs.Parsing.{meaning}
use Rattle.snap_emit.proofs.ReadTexts.{built-in, built-of-stream, built-cause}
use Rattle.snap_emit.proofs.loaded.load_tree.Goals as goal

pub returns-in-Ok-clause-nodes : goal.returns-in-Ok-clause-nodes
returns-in-Ok-clause-nodes c =
    λ nodes is.
    let will = c.new-parser.ensures.gives is.tokens (stream_events nodes) is.owes is.yields in
    built-in c.load.new.receiver c.into_loaded.result nodes (c.in-Ok.ensures.gives _ _ refl will [] c.new-builder.ensures) c.into_loaded.ensures

pub returns-in-Ok-clause-stream : goal.returns-in-Ok-clause-stream
returns-in-Ok-clause-stream c =
    let at : meaning c.new-parser.result ≡ ahead = ap meaning c.new-parser.ensures.start in
    let told = c.in-Ok.ensures.stream refl at in
    built-of-stream c.load.new.receiver c.into_loaded.result told.events told.stream (told.gets [] c.new-builder.ensures) c.into_loaded.ensures

pub returns-in-Ok-clause-cause : goal.returns-in-Ok-clause-cause
returns-in-Ok-clause-cause c =
    let at : meaning c.new-parser.result ≡ ahead = ap meaning c.new-parser.ensures.start in
    let told = c.in-Ok.ensures.stream refl at in
    built-cause (chars c.args.text.now) c.load.new.receiver c.into_loaded.result told.events (told.gets [] c.new-builder.ensures) c.into_loaded.ensures
