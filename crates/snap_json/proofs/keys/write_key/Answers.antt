use Rattle.snap_json.proofs.Prelude.{ap, colon, key_plain, text_of_key, json_key, whole, key_written, tree}
use Rattle.snap_json.proofs.Behind.{on_exit, stopped_first, stopped_as, added_as, wrote_behind}
use Rattle.snap_json.proofs.keys.write_key.Goals as goal

pub returns-in_err-write_resolved_key : goal.returns-in_err-write_resolved_key
returns-in_err-write_resolved_key c =
    on_exit c.from_residual.result c.from_residual.ensures.1
    (stopped_first (whole (colon c.args.format))
    (stopped_as (key_written (key_plain (text_of_key (tree c.resolve_inner.result.now)))) (key_written (key_plain (json_key (tree c.args.key.now))))
    (ap (λ t. key_written (key_plain (text_of_key t))) c.resolve_inner.ensures) c.in_err-write_resolved_key.ensures))

pub returns : goal.returns
returns c =
    wrote_behind c.write_colon.result c.write_colon.new.out (whole (colon c.args.format))
    (added_as (key_written (key_plain (text_of_key (tree c.resolve_inner.result.now)))) (key_written (key_plain (json_key (tree c.args.key.now))))
    (ap (λ t. key_written (key_plain (text_of_key t))) c.resolve_inner.ensures) c.in_ok-write_resolved_key.ensures)
    c.write_colon.ensures
