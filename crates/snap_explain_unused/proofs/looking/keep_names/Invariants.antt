use Rattle.snap_explain_unused.proofs.Prelude.{take, Adds}
use Rattle.snap_explain_unused.proofs.looking.keep_names.Given as goal

abbrev pub invariant-loop-name : goal.invariant-loop-name
invariant-loop-name l = Adds l.asked.keys l.folder (take l.name-index l.names) l.fn.unused.keys l.unused.keys
