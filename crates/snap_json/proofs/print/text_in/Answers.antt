use Rattle.snap_json.proofs.Prelude.{◌++◌, ap, ◌∙◌, tree, json_text}
use Rattle.snap_json.proofs.Calls.{text_added, accepted_tree, refused_exit}
use Rattle.snap_json.proofs.print.text_in.Goals as goal

pub returns-in_err-write_value-clause-refused : goal.returns-in_err-write_value-clause-refused
returns-in_err-write_value-clause-refused c =
    refused_exit c.args.format (tree c.args.value.now) c.from_residual.result _ _ _ c.from_residual.ensures.1 c.in_err-write_value.ensures.wrote

pub returns-clause-value : goal.returns-clause-value
returns-clause-value c =
    text_added c.args.format (tree c.args.value.now) _ _ c.in_ok-write_value.ensures.wrote
    ∙ ap (λ x. x ++ json_text c.args.format (tree c.args.value.now)) c.empty-text.ensures

pub returns-clause-accepted : goal.returns-clause-accepted
returns-clause-accepted c = accepted_tree c.args.format (tree c.args.value.now) _ _ c.in_ok-write_value.ensures.wrote
