use Rattle.snap_json.proofs.Prelude.{json_plain}
use Rattle.snap_json.proofs.OneLine.{text_clear}
use Rattle.snap_json.proofs.laws.texts_on_one_line_have_no_line_end.Goals as goal

pub returns : goal.returns
returns c = λ layout t one within. text_clear layout 0 (json_plain t) one within
