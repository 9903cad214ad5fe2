use Rattle.snap_json.proofs.Prelude.{ap, whole, escaped, json_escaped}
use Rattle.snap_json.proofs.Behind.{wrote_as}
use Rattle.snap_json.proofs.Runs.{as_yaml}
use Rattle.snap_json.proofs.strings.write_escaped.Goals as goal

pub returns-else-value-eq127 : goal.returns-else-value-eq127
returns-else-value-eq127 c =
    wrote_as c.write_escaped_as_yaml.result c.args.out.now c.write_escaped_as_yaml.new.out (whole (escaped c.args.value)) (whole (json_escaped c.args.value))
    (ap whole (as_yaml c.args.value c.if-value-eq127.false)) c.write_escaped_as_yaml.ensures
