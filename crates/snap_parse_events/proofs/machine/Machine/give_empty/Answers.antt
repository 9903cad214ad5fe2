use Rattle.snap_parse_events.proofs.Prelude.{List, ℕ, None, ap, Event}
use Rattle.snap_scan_tokens.specs.declared.token.TScalarStyle.TheVariants as style
use Rattle.snap_parse_events.specs.declared.event.Event.TheVariants as e
use Rattle.snap_parse_events.proofs.machine.Machine.give_empty.Goals as goal

pub returns-clause-given : goal.returns-clause-given
returns-clause-given c = let f : List ℕ → Event = λ s. e.Scalar s style.Plain 0 None in ap f c.borrowed.ensures
