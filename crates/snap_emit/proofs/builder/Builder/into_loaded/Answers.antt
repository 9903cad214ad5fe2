use Rattle.snap_emit.proofs.Prelude.{ap}
use Rattle.snap_parse.specs.Aliases.{has_alias}
use Rattle.snap_parse.specs.Steps.{start, steps}
use Rattle.snap_emit.specs.Built.{BuildState, Documents, documents_seen}
use Rattle.snap_emit.proofs.Building.{told-loaded}
use Rattle.snap_emit.proofs.builder.Builder.into_loaded.Goals as goal

pub returns : goal.returns
returns c =
    λ events told.
    let was = told c.if-self.false in
    let f : BuildState → Documents = λ s. s.documents in
    told-loaded (steps events start).documents (has_alias events) c.args.self.has_alias (documents_seen c.args.self.ended) c.one_document.result
    (ap f was.0) was.1 c.one_document.ensures
