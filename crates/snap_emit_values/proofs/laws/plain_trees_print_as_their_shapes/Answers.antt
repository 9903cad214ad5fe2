use Rattle.snap_emit_values.proofs.PlainShapes.{same-lines, plain-text, plain-document}
use Rattle.snap_emit_values.proofs.laws.plain_trees_print_as_their_shapes.Goals as goal

pub returns : goal.returns
returns c = record { same_lines = same-lines; same_text = plain-text; same_document = plain-document }
