use Rattle.snap_emit_values.proofs.Prelude.{[], ◌∷◌, sym, ◌∙◌, append-nil, chars_from_encodes, encode}
use Rattle.snap_emit_values.proofs.scalars.char_text.Goals as goal

pub returns : goal.returns
returns c =
    let value = c.args.value in
    sym (chars_from_encodes (value ∷ []) c.encode_utf8.result.now c.encode_utf8.utf8 (append-nil (encode value) ∙ sym c.encode_utf8.ensures.value))
