use Rattle.snap_json.proofs.Prelude.{[], ◌∷◌, ◌++◌, flat_map, chars, json_escaped, whole}
use Rattle.snap_json.proofs.Behind.{on_exit, stopped_first, stopped_behind, wrote_behind}
use Rattle.snap_json.proofs.strings.write_string.Goals as goal

pub returns-in_err-write_char : goal.returns-in_err-write_char
returns-in_err-write_char c =
    on_exit c.from_residual.result c.from_residual.ensures.1
    (stopped_first (whole (flat_map json_escaped (chars c.args.value.now) ++ 34 ∷ [])) c.in_err-write_char.ensures)

pub returns-in_err-write_characters : goal.returns-in_err-write_characters
returns-in_err-write_characters c =
    on_exit c.from_residual-in_err-write_characters.result c.from_residual-in_err-write_characters.ensures.1
    (stopped_behind c.in_ok-write_char.ensures (stopped_first (whole (34 ∷ [])) c.in_err-write_characters.ensures))

pub returns : goal.returns
returns c =
    wrote_behind c.write_char-2.result c.write_char-2.new.out (whole (flat_map json_escaped (chars c.args.value.now) ++ 34 ∷ []))
    c.in_ok-write_char.ensures
    (wrote_behind c.write_char-2.result c.write_char-2.new.out (whole (34 ∷ [])) c.in_ok-write_characters.ensures c.write_char-2.ensures)
