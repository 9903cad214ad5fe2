use Rattle.snap_front.proofs.Prelude.{sym, ap, ◌∙◌, refl, position, subst, tree, steps_of}
use Rattle.snap_front.specs.Commands.{ReplyView, no_name, reply_of}
use Rattle.snap_front.specs.Documents.{document_in}
use Rattle.snap_front.specs.Heads.{IsChanged, remove_head}
use Rattle.snap_front.specs.Stored.{docs_of, is_named, seen}
use Rattle.snap_front.proofs.Named.{held, missing}
use Rattle.snap_front.proofs.Storing.{changed-there, changed-missing}
use Rattle.snap_front.proofs.store.FrontStore.remove.Goals as goal

pub returns-in_default : goal.returns-in_default
returns-in_default c =
    let at = sym (ap (position (is_named c.args.name.now)) c.as_slice.ensures.value) ∙ sym c.place_of.ensures ∙ c.in_default.is in
    changed-missing (λ d. remove_head (steps_of c.args.path.now) d.head) c.args.name.now (docs_of c.args.self.now) (document_in c.args.name.now (docs_of c.args.self.now)) no_name
    (missing c.args.name.now c.args.self.now.docs.items at).there refl

pub returns-in-Ok : goal.returns-in-Ok
returns-in-Ok c =
    let at = sym (ap (position (is_named c.args.name.now)) c.as_slice.ensures.value) ∙ sym c.place_of.ensures ∙ c.in-Some.is in
    let there = held c.args.name.now c.args.self.now.docs.items c.in-Some.at c.index_mut.result.now at c.index_mut.ensures.value in
    changed-there (λ d. remove_head (steps_of c.args.path.now) d.head) c.args.name.now (docs_of c.args.self.now) _ (seen c.index_mut.result.now.1) (tree c.remove_value.new.head) _ there.there
    (sym (there.put (c.index_mut.result.now.0, record { head = c.remove_value.new.head; body = c.index_mut.result.now.1.body }) refl)) c.in-Ok.ensures.changed

pub returns-in-Err : goal.returns-in-Err
returns-in-Err c =
    let at = sym (ap (position (is_named c.args.name.now)) c.as_slice.ensures.value) ∙ sym c.place_of.ensures ∙ c.in-Some.is in
    let there = held c.args.name.now c.args.self.now.docs.items c.in-Some.at c.index_mut.result.now at c.index_mut.ensures.value in
    let old = tree c.index_mut.result.now.1.head in
    changed-there (λ d. remove_head (steps_of c.args.path.now) d.head) c.args.name.now (docs_of c.args.self.now) _ (seen c.index_mut.result.now.1) (tree c.remove_value.new.head) (reply_of c.reply.result) there.there
    (sym (there.put (c.index_mut.result.now.0, record { head = c.remove_value.new.head; body = c.index_mut.result.now.1.body }) refl))
    (subst (λ (r : ReplyView). IsChanged (remove_head (steps_of c.args.path.now) old) old (tree c.remove_value.new.head) r) (sym c.reply.ensures) c.in-Err.ensures.changed)
