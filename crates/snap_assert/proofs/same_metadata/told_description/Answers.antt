use Rattle.snap_assert.proofs.Prelude.{◌≡◌, ◌∙◌, sym, ap, None, Some}
use Rattle.snap_content.specs.Tree.{map}
use Rattle.snap_content.specs.View.{tree, pair_trees}
use Rattle.snap_content.proofs.Views.{tree-Map}
use Rattle.snap_assert.proofs.SameInfo.{description_is}
use Rattle.snap_assert.proofs.same_metadata.told_description.Goals as goal

pub returns-in-None : goal.returns-in-None
returns-in-None c = λ meta told.
    let is : tree c.args.content.now ≡ map (pair_trees c.as_slice.result.now)
    = ap tree c.in-Map.is ∙ tree-Map c.in-Map.pairs ∙ ap (λ xs. map (pair_trees xs)) (sym c.as_slice.ensures) in
    description_is (tree c.args.content.now) (pair_trees c.as_slice.result.now) meta None is c.in-None.ensures.tree told

pub returns-in_ok-from_str-in-Some : goal.returns-in_ok-from_str-in-Some
returns-in_ok-from_str-in-Some c = λ meta told.
    let is : tree c.args.content.now ≡ map (pair_trees c.as_slice.result.now)
    = ap tree c.in-Map.is ∙ tree-Map c.in-Map.pairs ∙ ap (λ xs. map (pair_trees xs)) (sym c.as_slice.ensures) in
    description_is (tree c.args.content.now) (pair_trees c.as_slice.result.now) meta (Some c.in_ok-from_str-in-Some.field-0) is
    (ap Some c.in_ok-from_str-in-Some.ensures ∙ c.in-Some.ensures.tree) told
