use Rattle.snap_parse_events.proofs.Prelude.{rules}
use Rattle.snap_parse_events.proofs.Naming.{registers, registers-named}
use Rattle.snap_parse_events.proofs.anchors.Anchors.register.Goals as goal

pub returns-clause-ok : goal.returns-clause-ok
returns-clause-ok c =
    registers c.self.inside.next c.args.name c.self.inside.ids.entries c.insert.new.self.entries c.in-Some.next c.args.self.now c.self.view_is c.self.invariant
    (search rules) c.in_ok-insert.ensures.updates.0

pub returns-clause-named : goal.returns-clause-named
returns-clause-named c =
    registers-named c.self.inside.next c.args.name c.self.inside.ids.entries c.insert.new.self.entries c.in-Some.next c.args.self.now c.self.view_is
    (search rules) c.in_ok-insert.ensures.updates.0
