use Rattle.snap_parse_events.proofs.Prelude.{◌∙◌, ap, ℕ, Option, Names, id_of}
use Rattle.snap_parse_events.proofs.Naming.{known-is}
use Rattle.snap_parse_events.proofs.anchors.Anchors.id_of.Goals as goal

pub returns-clause-id : goal.returns-clause-id
returns-clause-id c =
    let f : Names → Option ℕ = λ v. id_of c.args.name.now v in
    c.copied.ensures ∙ c.get.ensures.value ∙ ap f c.self.view_is

pub returns-clause-known : goal.returns-clause-known
returns-clause-known c =
    let f : Names → Option ℕ = λ v. id_of c.args.name.now v in
    known-is c.copied.result c.args.name.now c.args.self.now (c.copied.ensures ∙ c.get.ensures.value ∙ ap f c.self.view_is)
