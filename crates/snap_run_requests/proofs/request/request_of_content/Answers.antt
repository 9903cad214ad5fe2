use Rattle.snap_run_requests.proofs.Prelude.{◌≡◌, ap, sym, subst, ◌∙◌, tree, pair_trees, request_of, IsRequest, IsTreeEnd}
use Rattle.std.specs.Result.{MatchResult}
use Rattle.snap_content.proofs.Views.{tree-Map}
use Rattle.snap_content.specs.Tree.{map}
use Rattle.snap_run_requests.proofs.request.request_of_content.Goals as goal

pub returns-in-Map : goal.returns-in-Map
returns-in-Map c =
    let is : tree c.args.content ≡ map (pair_trees c.into_vec.result.items) =
    ap tree c.in-Map.is ∙ tree-Map _ ∙ ap (λ ps. map (pair_trees ps)) (sym c.into_vec.ensures) in
    subst (λ t. MatchResult c.request_of_pairs.result (λ r. IsRequest t (request_of r)) (λ error. IsTreeEnd t error)) (sym is) c.request_of_pairs.ensures
