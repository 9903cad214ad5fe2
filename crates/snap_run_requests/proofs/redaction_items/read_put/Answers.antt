use Rattle.snap_run_requests.proofs.Prelude.{refl, ap, sym, ◌∙◌, is_some, option_map, tree, pair_trees, last_in}
use Rattle.snap_run_requests.proofs.redaction_items.read_put.Goals as goal

pub returns-in-None : goal.returns-in-None
returns-in-None c = record {
  pairs = _;
  is = refl;
  holds = record {
    value = tree c.in-None-Some.sort.now;
    there = sym (ap (option_map (λ value. tree value.now)) (sym c.in-None-Some.is-1) ∙ c.value_named-sort.ensures.tree
        ∙ ap (λ name. last_in name (pair_trees c.args.pairs.now)) c.name-2.ensures.name);
    wrong = ap is_some (sym c.in-None.ensures);
  };
}
