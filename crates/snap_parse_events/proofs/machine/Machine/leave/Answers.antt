use Rattle.snap_parse_events.proofs.Standing.{sound-popped}
use Rattle.snap_parse_events.proofs.machine.Machine.leave.Goals as goal

pub returns-in-Some-clause-sound : goal.returns-in-Some-clause-sound
returns-in-Some-clause-sound c =
    λ source feeds all. sound-popped source c.args.self.now.tokens c.in-Some.state c.pop_front.new.self.items c.args.self.now.outer.items c.in-Some.ensures.items feeds all
