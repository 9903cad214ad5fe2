use Rattle.snap_run_requests.proofs.Prelude.{◌≡◌, ap, sym, subst, ◌∙◌, tree, pair_trees, replacement_of, IsRedaction, IsRedactionEnd}
use Rattle.std.specs.Result.{MatchResult}
use Rattle.snap_content.proofs.Views.{tree-Map}
use Rattle.snap_content.specs.Tree.{map}
use Rattle.snap_run_requests.proofs.redaction_items.read_redaction.Goals as goal

pub returns-in-Map : goal.returns-in-Map
returns-in-Map c =
    let is : tree c.args.content.now ≡ map (pair_trees c.as_slice.result.now) =
    ap tree c.in-Map.is ∙ tree-Map _ ∙ ap (λ ps. map (pair_trees ps)) (sym c.as_slice.ensures) in
    subst (λ t. MatchResult c.redaction_of_pairs.result (λ r. IsRedaction t (replacement_of r)) (λ stop. IsRedactionEnd t stop)) (sym is) c.redaction_of_pairs.ensures
