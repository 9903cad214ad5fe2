use Rattle.rows.proofs.ReadBack.{read_back}
use Rattle.rows.proofs.laws.a_text_on_a_line_is_read_back.Goals as goal

pub returns : goal.returns
returns c = read_back
