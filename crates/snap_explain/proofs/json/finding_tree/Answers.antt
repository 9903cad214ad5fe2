use Rattle.snap_explain.proofs.Prelude.{ap, ◌∙◌}
use Rattle.snap_content.specs.Tree.{map}
use Rattle.snap_store.proofs.Headers.{tree-pairs, in_front-none}
use Rattle.snap_explain.proofs.json.finding_tree.Goals as goal

pub returns : goal.returns
returns c = tree-pairs c.push_finding.new.pairs ∙ ap map (c.in_ok-push_finding.ensures ∙ in_front-none _ _ c.new-pairs.ensures)
