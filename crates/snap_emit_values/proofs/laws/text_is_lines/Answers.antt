use Rattle.snap_emit_values.proofs.Columned.{at-a-column, whole-text, dumped-open, dumped-whole}
use Rattle.snap_emit_values.proofs.laws.text_is_lines.Goals as goal

pub returns : goal.returns
returns c = record { at_a_column = at-a-column; whole = whole-text; dumped_open = dumped-open; dumped_whole = dumped-whole }
