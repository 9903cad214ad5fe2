use Rattle.snap_front.proofs.Prelude.{sym, ap, ◌∙◌, refl, position, subst, tree, steps_of}
use Rattle.snap_content.specs.Plain.{plain, content_of}
use Rattle.snap_content.specs.Tree.{Tree}
use Rattle.snap_front.specs.Commands.{ReplyView, done, no_name, reply_of}
use Rattle.snap_front.specs.Documents.{document_in, with_document}
use Rattle.snap_front.specs.Heads.{IsChanged, set_head}
use Rattle.snap_front.specs.Stored.{docs_of, is_named, seen}
use Rattle.snap_front.proofs.Named.{held, missing}
use Rattle.snap_front.proofs.Storing.{changed-there, changed-missing, same-again, on-err}
use Rattle.snap_front.proofs.store.FrontStore.set.Goals as goal

pub returns-in_default-clause-comes : goal.returns-in_default-clause-comes
returns-in_default-clause-comes c =
    let at = sym (ap (position (is_named c.args.name.now)) c.as_slice.ensures.value) ∙ sym c.place_of.ensures ∙ c.in_default.is in
    changed-missing (λ d. set_head (steps_of c.args.path.now) (content_of (plain (tree c.args.value.now))) d.head) c.args.name.now (docs_of c.args.self.now) (document_in c.args.name.now (docs_of c.args.self.now)) no_name
    (missing c.args.name.now c.args.self.now.docs.items at).there refl

pub returns-in_err-set_value-clause-err : goal.returns-in_err-set_value-clause-err
returns-in_err-set_value-clause-err c =
    let at = sym (ap (position (is_named c.args.name.now)) c.as_slice.ensures.value) ∙ sym c.place_of.ensures ∙ c.in-Some.is in
    let there = held c.args.name.now c.args.self.now.docs.items c.in-Some.at c.index_mut.result.now at c.index_mut.ensures.value in
    on-err c.from_residual-in_err-set_value.result
    (sym (there.put (c.index_mut.result.now.0, record { head = c.set_value.new.head; body = c.index_mut.result.now.1.body }) refl)
    ∙ ap (λ (x : Tree). with_document c.args.name.now (record { head = x; body = c.index_mut.result.now.1.body }) (docs_of c.args.self.now)) c.in_err-set_value.ensures.err
    ∙ same-again c.args.name.now (seen c.index_mut.result.now.1) (docs_of c.args.self.now) there.there)

pub returns-in-None-clause-comes : goal.returns-in-None-clause-comes
returns-in-None-clause-comes c =
    let at = sym (ap (position (is_named c.args.name.now)) c.as_slice.ensures.value) ∙ sym c.place_of.ensures ∙ c.in-Some.is in
    let there = held c.args.name.now c.args.self.now.docs.items c.in-Some.at c.index_mut.result.now at c.index_mut.ensures.value in
    let old = tree c.index_mut.result.now.1.head in
    changed-there (λ d. set_head (steps_of c.args.path.now) (content_of (plain (tree c.args.value.now))) d.head) c.args.name.now (docs_of c.args.self.now) _ (seen c.index_mut.result.now.1) (tree c.set_value.new.head) done there.there
    (sym (there.put (c.index_mut.result.now.0, record { head = c.set_value.new.head; body = c.index_mut.result.now.1.body }) refl))
    (subst (λ v. IsChanged (set_head (steps_of c.args.path.now) v old) old (tree c.set_value.new.head) done) c.in_ok-value.ensures (rw c.in-None.is at c.in_ok-set_value.ensures.ok))

pub returns-in-Some-2-clause-comes : goal.returns-in-Some-2-clause-comes
returns-in-Some-2-clause-comes c =
    let at = sym (ap (position (is_named c.args.name.now)) c.as_slice.ensures.value) ∙ sym c.place_of.ensures ∙ c.in-Some.is in
    let there = held c.args.name.now c.args.self.now.docs.items c.in-Some.at c.index_mut.result.now at c.index_mut.ensures.value in
    let old = tree c.index_mut.result.now.1.head in
    changed-there (λ d. set_head (steps_of c.args.path.now) (content_of (plain (tree c.args.value.now))) d.head) c.args.name.now (docs_of c.args.self.now) _ (seen c.index_mut.result.now.1) (tree c.set_value.new.head) (reply_of c.reply.result) there.there
    (sym (there.put (c.index_mut.result.now.0, record { head = c.set_value.new.head; body = c.index_mut.result.now.1.body }) refl))
    (subst (λ v. IsChanged (set_head (steps_of c.args.path.now) v old) old (tree c.set_value.new.head) (reply_of c.reply.result)) c.in_ok-value.ensures
    (subst (λ (r : ReplyView). IsChanged (set_head (steps_of c.args.path.now) (tree c.in_ok-value.value) old) old (tree c.set_value.new.head) r) (sym c.reply.ensures) (rw c.in-Some-2.is at c.in_ok-set_value.ensures.ok)))
