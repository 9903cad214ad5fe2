use Rattle.snap_front.proofs.Prelude.{sym, ap, ◌∙◌, refl, position}
use Rattle.std.proofs.lemmas.Result.{on_ok_weaker}
use Rattle.snap_front.specs.Documents.{with_document}
use Rattle.snap_front.specs.Stored.{docs_in, is_named, seen}
use Rattle.snap_front.proofs.Named.{held, missing}
use Rattle.snap_front.proofs.store.put_held.Goals as goal

pub returns-in-Some-clause-ok : goal.returns-in-Some-clause-ok
returns-in-Some-clause-ok c =
    let at = sym (ap (position (is_named c.args.name.now)) c.as_slice.ensures.value) ∙ sym c.place_of.ensures ∙ c.in-Some.is in
    sym ((held c.args.name.now c.args.docs.now.items c.in-Some.at c.index_mut.result.now at c.index_mut.ensures.value).put (c.index_mut.result.now.0, c.replace.new.dest) refl)
    ∙ ap (λ h. with_document c.args.name.now (seen h) (docs_in c.args.docs.now.items)) c.replace.ensures.after

pub returns-in-None-clause-ok : goal.returns-in-None-clause-ok
returns-in-None-clause-ok c =
    let at = sym (ap (position (is_named c.args.name.now)) c.as_slice.ensures.value) ∙ sym c.place_of.ensures ∙ c.in-None.is in
    on_ok_weaker c.push.result (λ same. ap docs_in same ∙ sym ((missing c.args.name.now c.args.docs.now.items at).put c.args.held)) c.push.ensures.ok
