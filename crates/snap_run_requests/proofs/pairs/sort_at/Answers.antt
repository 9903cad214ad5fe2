use Rattle.snap_run_requests.proofs.Prelude.{ap, sym, ◌∙◌, is_some, tree, pair_trees}
use Rattle.snap_fields.specs.Fields.{last_in}
use Rattle.snap_run_requests.proofs.pairs.sort_at.Goals as goal

pub returns-in-None-as_bool : goal.returns-in-None-as_bool
returns-in-None-as_bool c = record {
  value = tree c.in-Some.value.now;
  there = sym (c.in-Some.ensures.tree ∙ ap (λ name. last_in name (pair_trees c.args.pairs.now)) c.name.ensures.name);
  wrong = ap is_some (sym c.in-None-as_bool.ensures);
}
