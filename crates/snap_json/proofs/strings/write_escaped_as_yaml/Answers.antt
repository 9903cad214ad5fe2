use Rattle.snap_json.proofs.Prelude.{escaped}
use Rattle.snap_json.proofs.Behind.{on_exit, stopped_begun}
use Rattle.snap_json.proofs.strings.write_escaped_as_yaml.Goals as goal

pub returns-in_err-push_escaped : goal.returns-in_err-push_escaped
returns-in_err-push_escaped c =
    on_exit c.from_residual.result c.from_residual.ensures.1
    (stopped_begun c.args.out.now c.push_escaped.new.out (escaped c.args.value) c.in_err-push_escaped.ensures.err)
