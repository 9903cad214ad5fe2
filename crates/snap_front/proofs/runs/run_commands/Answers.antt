use Rattle.snap_front.proofs.Prelude.{[], ap, ◌∙◌}
use Rattle.std.specs.Prelude.{map}
use Rattle.snap_content.specs.List.{items_of}
use Rattle.snap_front.specs.Commands.{command_of, reply_of}
use Rattle.snap_front.specs.Stored.{docs_of}
use Rattle.snap_front.proofs.Bodies.{one-run}
use Rattle.snap_front.proofs.LastPut.{last-put, again-more}
use Rattle.snap_front.proofs.Maps.{maps-stay}
use Rattle.snap_front.proofs.Running.{one-more, at-end, pushed}
use Rattle.snap_front.proofs.runs.run_commands.Goals as goal

pub loop-command-preserved : goal.loop-command-preserved
loop-command-preserved c = (
  one-more (map command_of c.args.commands.now) c.args.commands.now c.loop-command.command-index c.command-item.result (docs_of c.loop-command.store) (docs_of c.apply.new.self) (items_of c.loop-command.replies)
      (items_of c.push.new.self) c.in_ok-apply.field-0 c.loop-command-test.true c.command-item.is c.loop-command.invariant.0 c.in_ok-apply.ensures.comes c.in_ok-push.ensures.ok,
  maps-stay (docs_of c.loop-command.store) (docs_of c.apply.new.self) (command_of c.command-item.result) (reply_of c.in_ok-apply.field-0) c.in_ok-apply.ensures.comes c.loop-command.invariant.1,
  again-more (map reply_of (items_of c.loop-command.replies)) (map reply_of (items_of c.push.new.self)) (reply_of c.in_ok-apply.field-0)
      (ap (map reply_of) c.in_ok-push.ensures.ok ∙ pushed (items_of c.loop-command.replies) c.in_ok-apply.field-0) c.loop-command.invariant.2 (c.in_ok-apply.ensures.again c.loop-command.invariant.1),
)

pub returns-clause-runs : goal.returns-clause-runs
returns-clause-runs c =
    at-end (map command_of c.args.commands.now) c.args.commands.now c.loop-command.command-index (docs_of c.loop-command.store) (map reply_of (items_of c.loop-command.replies)) c.loop-command-test.false c.loop-command.invariant.0

pub returns-clause-one : goal.returns-clause-one
returns-clause-one c = λ docs replies reads run.
    one-run [] docs (docs_of c.loop-command.store) (map command_of c.args.commands.now) replies (map reply_of (items_of c.loop-command.replies)) reads run
    (at-end (map command_of c.args.commands.now) c.args.commands.now c.loop-command.command-index (docs_of c.loop-command.store) (map reply_of (items_of c.loop-command.replies)) c.loop-command-test.false c.loop-command.invariant.0)

pub returns-clause-bodies : goal.returns-clause-bodies
returns-clause-bodies c = λ name words last.
    last-put [] (docs_of c.loop-command.store) (map command_of c.args.commands.now) (map reply_of (items_of c.loop-command.replies)) name words
    (at-end (map command_of c.args.commands.now) c.args.commands.now c.loop-command.command-index (docs_of c.loop-command.store) (map reply_of (items_of c.loop-command.replies)) c.loop-command-test.false c.loop-command.invariant.0) last

pub returns-clause-again : goal.returns-clause-again
returns-clause-again c = c.loop-command.invariant.2
