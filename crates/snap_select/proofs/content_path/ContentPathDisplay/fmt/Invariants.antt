use Rattle.snap_select.proofs.Prelude.{take, HasWritten, IsPlainFormatter, map, step_of, path_text, items_of}
use Rattle.snap_select.proofs.content_path.ContentPathDisplay.fmt.Given as goal

abbrev pub invariant-loop-item : goal.invariant-loop-item
invariant-loop-item g l = IsPlainFormatter l.initial.f → HasWritten g.W.Write.write_str_gives l.initial.f (path_text (map step_of (take l.item-index (items_of l.self)))) l.f
