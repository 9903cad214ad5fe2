use Rattle.snap_parse.proofs.Prelude.{◌≡◌, [], Bool, ap, ◌∙◌, refl, Parsing, meaning, stream_events, scan_error}
use Rattle.snap_parse_events.specs.Meaning.{ahead, is_inside}
use Rattle.snap_parse_events.specs.declared.error.LoadError.TheVariants.{OutOfMemory}
use Rattle.snap_parse.proofs.Loading.{made, made-nodes}
use Rattle.snap_parse.proofs.load.YamlLoader.load_documents.Goals as goal

pub returns-in-Ok-clause-documents : goal.returns-in-Ok-clause-documents
returns-in-Ok-clause-documents c =
    let at : meaning c.new-parser.result ≡ ahead = ap meaning c.new-parser.ensures.start in
    let told = c.in-Ok.ensures.stream refl at in
    made c.load.new.receiver c.into_documents.result told.events told.stream (told.gets [] c.new-loader.ensures) c.into_documents.ensures.ok

pub returns-in-Ok-clause-nodes : goal.returns-in-Ok-clause-nodes
returns-in-Ok-clause-nodes c =
    λ nodes is.
    let will = c.new-parser.ensures.gives is.tokens (stream_events nodes) is.owes is.yields in
    made-nodes c.load.new.receiver c.into_documents.result nodes (c.in-Ok.ensures.gives _ _ refl will [] c.new-loader.ensures) c.into_documents.ensures.ok

pub returns-clause-memory : goal.returns-clause-memory
returns-clause-memory c =
    λ nodes is.
    let will = c.new-parser.ensures.gives is.tokens (stream_events nodes) is.owes is.yields in
    let f : Parsing → Bool = λ v. is_inside (meaning v) in
    let e : c.in-Err.error ≡ OutOfMemory = c.in-Err.ensures.memory _ (ap f c.new-parser.ensures.start) will in
    c.refusal.ensures ∙ ap scan_error e
