use Rattle.snap_run_requests.proofs.Prelude.{ap, sym, ◌∙◌, is_some, tree, pair_trees, last_in}
use Rattle.snap_run_requests.proofs.redaction_items.redactions_of_pairs.Goals as goal

pub returns-in-None : goal.returns-in-None
returns-in-None c = record {
  holds = record {
    value = tree c.in-Some.value.now;
    there = sym (c.in-Some.ensures.tree ∙ ap (λ name. last_in name (pair_trees c.args.pairs.now)) c.name.ensures.name);
    wrong = ap is_some (sym c.in-None.ensures);
  };
}
