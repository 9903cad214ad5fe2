use Rattle.snap_run_requests.proofs.Prelude.{Some, is_some, ap, sym, ◌∙◌, tree, pair_trees, last_in, text_or_empty}
use Rattle.std.proofs.lemmas.Str.{chars-nil}
use Rattle.snap_run_requests.proofs.pairs.text_or_empty.Goals as goal

pub returns-in-None : goal.returns-in-None
returns-in-None c =
    ap text_or_empty (sym (c.in-None.ensures.tree ∙ ap (λ name. last_in name (pair_trees c.args.pairs.now)) c.name.ensures.name)) ∙ ap Some (sym chars-nil)

pub returns-in-None-as_str : goal.returns-in-None-as_str
returns-in-None-as_str c = λ table takes.
    record {
      value = tree c.in-Some.value.now;
      there = sym (c.in-Some.ensures.tree ∙ ap (λ name. last_in name (pair_trees c.args.pairs.now)) c.name.ensures.name);
      wrong = takes.refuses (tree c.in-Some.value.now) (ap is_some (sym c.in-None-as_str.ensures));
    }
