use Rattle.snap_front.proofs.Prelude.{drop}
use Rattle.std.specs.Prelude.{map}
use Rattle.snap_content.specs.List.{items_of}
use Rattle.snap_front.specs.Commands.{command_of, reply_of}
use Rattle.snap_front.specs.Kept.{AreMaps, AreAgain}
use Rattle.snap_front.specs.Stored.{docs_of}
use Rattle.snap_front.proofs.Running.{GoesOn}
use Rattle.snap_front.proofs.runs.run_commands.Given as goal

-- a run of the commands that are left goes on to one of all of them; headers are maps, and what was printed is put again as it was
abbrev pub invariant-loop-command : goal.invariant-loop-command
invariant-loop-command l =
    GoesOn (map command_of l.commands) (map command_of (drop l.command-index l.commands)) (docs_of l.store) (map reply_of (items_of l.replies))
    × AreMaps (docs_of l.store) × AreAgain (map reply_of (items_of l.replies))
