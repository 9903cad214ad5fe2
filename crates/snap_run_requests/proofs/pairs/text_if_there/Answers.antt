use Rattle.snap_run_requests.proofs.Prelude.{is_some, ap, sym, ◌∙◌, tree, pair_trees, last_in}
use Rattle.snap_run_requests.proofs.pairs.text_if_there.Goals as goal

pub returns-in-None-as_str : goal.returns-in-None-as_str
returns-in-None-as_str c = λ table takes.
    record {
      value = tree c.in-Some.value.now;
      there = sym (c.in-Some.ensures.tree ∙ ap (λ name. last_in name (pair_trees c.args.pairs.now)) c.name.ensures.name);
      wrong = takes.refuses (tree c.in-Some.value.now) (ap is_some (sym c.in-None-as_str.ensures));
    }
