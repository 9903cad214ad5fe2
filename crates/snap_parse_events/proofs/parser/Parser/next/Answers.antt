use Rattle.snap_parse_events.proofs.Prelude.{◌≡◌, None, ◌∙◌, rules}
use Rattle.snap_parse_events.proofs.Giving.{next-event, next-refused, next-fails}
use Rattle.snap_parse_events.proofs.parser.Parser.next.Goals as goal

pub returns-in-Ok-clause-next : goal.returns-in-Ok-clause-next
returns-in-Ok-clause-next c =
    let well : c.self.inside.error ≡ None = search rules in
    next-event c.in-Ok.given.0 c.args.self.now c.self.inside.machine c.next.new.self c.self.inside.error c.self.view_is well c.in-Ok.ensures.event c.in-Ok.ensures.names
    (λ ts found takes step. c.in-Ok.ensures.twin ts found takes step)

pub returns-in-Err-clause-memory : goal.returns-in-Err-clause-memory
returns-in-Err-clause-memory c =
    λ events will.
    c.keep.ensures.result
    ∙ next-refused c.in-Err.error c.args.self.now c.self.inside.machine c.self.inside.error c.self.view_is (λ at. absurd (c.in-Err.ensures.ended at))
    (λ ts found takes step. c.in-Err.ensures.twin ts found takes step) events will

pub returns-in-Err-clause-fails : goal.returns-in-Err-clause-fails
returns-in-Err-clause-fails c =
    next-fails c.keep.result c.args.self.now c.self.inside.machine c.next.new.self c.self.inside.error c.keep.new.kept c.self.view_is (search rules) c.in-Err.ensures.same
    (λ events will.
    c.keep.ensures.result
    ∙ next-refused c.in-Err.error c.args.self.now c.self.inside.machine c.self.inside.error c.self.view_is (λ at. absurd (c.in-Err.ensures.ended at))
    (λ ts found takes step. c.in-Err.ensures.twin ts found takes step) events will)
