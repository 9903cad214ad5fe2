use Rattle.snap_front.proofs.Prelude.{sym, ap, ◌∙◌, refl, position, tree, ℕ, List, subst}
use Rattle.snap_front.specs.Commands.{no_name, printed}
use Rattle.snap_front.specs.Documents.{document_in}
use Rattle.snap_front.specs.Heads.{printed_of}
use Rattle.snap_front.specs.Kept.{IsPrintOf}
use Rattle.snap_front.specs.Stored.{docs_of, is_named, seen}
use Rattle.snap_front.proofs.Maps.{map-in}
use Rattle.snap_front.proofs.Named.{held, missing}
use Rattle.snap_front.proofs.Storing.{told-there, told-missing}
use Rattle.snap_front.proofs.store.FrontStore.print.Goals as goal

pub returns-in_default-clause-comes : goal.returns-in_default-clause-comes
returns-in_default-clause-comes c =
    let at = sym (ap (position (is_named c.args.name.now)) c.as_slice.ensures.value) ∙ sym c.place_of.ensures ∙ c.in_default.is in
    told-missing (λ d. printed (printed_of d.head d.body)) (docs_of c.args.self.now) (document_in c.args.name.now (docs_of c.args.self.now)) no_name (missing c.args.name.now c.args.self.now.docs.items at).there refl

pub returns-clause-comes : goal.returns-clause-comes
returns-clause-comes c =
    let at = sym (ap (position (is_named c.args.name.now)) c.as_slice.ensures.value) ∙ sym c.place_of.ensures ∙ c.in-Some.is in
    told-there (λ d. printed (printed_of d.head d.body)) (docs_of c.args.self.now) (document_in c.args.name.now (docs_of c.args.self.now)) (seen c.index.result.now.1) (printed c.in_ok-text.text)
    (held c.args.name.now c.args.self.now.docs.items c.in-Some.at c.index.result.now at c.index.ensures).there (ap printed (c.in_ok-text.ensures.printed ∙ ap (printed_of (tree c.index.result.now.1.head)) c.as_str.ensures))

pub returns-clause-again : goal.returns-clause-again
returns-clause-again c = λ maps.
    let at = sym (ap (position (is_named c.args.name.now)) c.as_slice.ensures.value) ∙ sym c.place_of.ensures ∙ c.in-Some.is in
    let there = (held c.args.name.now c.args.self.now.docs.items c.in-Some.at c.index.result.now at c.index.ensures).there in
    let map = map-in c.args.name.now (docs_of c.args.self.now) (seen c.index.result.now.1) maps there in
    (seen c.index.result.now.1, subst (λ (b : List ℕ). IsPrintOf (tree c.index.result.now.1.head) b c.in_ok-text.text) c.as_str.ensures (c.in_ok-text.ensures.again map))
