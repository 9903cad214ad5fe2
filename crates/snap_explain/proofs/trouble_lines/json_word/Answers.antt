use Rattle.std.specs.Prelude.{codes, encode_utf8_all, option_map, string_bytes}
use Rattle.snap_explain.proofs.Prelude.{◌++◌, ◌∙◌, append_assoc, chars}
use Rattle.snap_explain.proofs.JsonWords.{word_written}
use Rattle.snap_explain.proofs.trouble_lines.json_word.Goals as goal

pub returns : goal.returns
returns c =
    word_written string_bytes c.json_line.result c.args.number c.args.place (chars c.args.word.now) (option_map (λ text. chars text.now) c.path_of.result) c.args.file.now c.as_str.result.now
    (c.args.text.now ++ codes ": " ++ encode_utf8_all c.args.path.now) c.path_of.ensures (c.as_str.ensures.value ∙ (c.in_ok-text.ensures.ok ∙ simp append_assoc)) c.json_line.ensures
