use Rattle.snap_json.proofs.Prelude.{ap, chars, colon, json_string, whole}
use Rattle.snap_json.proofs.Behind.{on_exit, stopped_first, stopped_as, added_as, wrote_behind}
use Rattle.snap_json.proofs.keys.write_name.Goals as goal

pub returns-in_err-write_string : goal.returns-in_err-write_string
returns-in_err-write_string c =
    on_exit c.from_residual.result c.from_residual.ensures.1
    (stopped_first (whole (colon c.args.format))
    (stopped_as (whole (json_string (chars c.as_str.result.now))) (whole (json_string c.args.name.now))
    (ap (λ s. whole (json_string s)) c.as_str.ensures) c.in_err-write_string.ensures))

pub returns : goal.returns
returns c =
    wrote_behind c.write_colon.result c.write_colon.new.out (whole (colon c.args.format))
    (added_as (whole (json_string (chars c.as_str.result.now))) (whole (json_string c.args.name.now))
    (ap (λ s. whole (json_string s)) c.as_str.ensures) c.in_ok-write_string.ensures)
    c.write_colon.ensures
