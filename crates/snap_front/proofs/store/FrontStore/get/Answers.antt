use Rattle.snap_front.proofs.Prelude.{sym, ap, ◌∙◌, refl, position, get_tree, steps_of}
use Rattle.snap_front.specs.Commands.{no_name, given, absent}
use Rattle.snap_front.specs.Documents.{document_in}
use Rattle.snap_front.specs.Heads.{found}
use Rattle.snap_front.specs.Stored.{docs_of, is_named, seen}
use Rattle.snap_front.proofs.Named.{held, missing}
use Rattle.snap_front.proofs.Storing.{told-there, told-missing}
use Rattle.snap_front.proofs.store.FrontStore.get.Goals as goal

pub returns-in_default : goal.returns-in_default
returns-in_default c =
    let at = sym (ap (position (is_named c.args.name.now)) c.as_slice.ensures.value) ∙ sym c.place_of.ensures ∙ c.in_default.is in
    told-missing (λ d. found (get_tree (steps_of c.args.path.now) d.head)) (docs_of c.args.self.now) (document_in c.args.name.now (docs_of c.args.self.now)) no_name (missing c.args.name.now c.args.self.now.docs.items at).there refl

pub returns-in_ok-try_clone-in-Some-get_tree : goal.returns-in_ok-try_clone-in-Some-get_tree
returns-in_ok-try_clone-in-Some-get_tree c =
    let at = sym (ap (position (is_named c.args.name.now)) c.as_slice.ensures.value) ∙ sym c.place_of.ensures ∙ c.in-Some.is in
    told-there (λ d. found (get_tree (steps_of c.args.path.now) d.head)) (docs_of c.args.self.now) (document_in c.args.name.now (docs_of c.args.self.now)) (seen c.index.result.now.1) _
    (held c.args.name.now c.args.self.now.docs.items c.in-Some.at c.index.result.now at c.index.ensures).there
    (ap given c.in_ok-try_clone-in-Some-get_tree.ensures ∙ ap found c.in-Some-get_tree.ensures)

pub returns-in-None : goal.returns-in-None
returns-in-None c =
    let at = sym (ap (position (is_named c.args.name.now)) c.as_slice.ensures.value) ∙ sym c.place_of.ensures ∙ c.in-Some.is in
    told-there (λ d. found (get_tree (steps_of c.args.path.now) d.head)) (docs_of c.args.self.now) (document_in c.args.name.now (docs_of c.args.self.now)) (seen c.index.result.now.1) absent
    (held c.args.name.now c.args.self.now.docs.items c.in-Some.at c.index.result.now at c.index.ensures).there (ap found c.in-None.ensures)
