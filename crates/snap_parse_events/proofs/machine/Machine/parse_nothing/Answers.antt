use Rattle.snap_parse_events.proofs.Prelude.{List, ℕ, ap, Event}
use Rattle.snap_scan_tokens.specs.declared.token.TScalarStyle.TheVariants as style
use Rattle.snap_parse_events.specs.declared.event.Event.TheVariants as e
use Rattle.snap_parse_events.proofs.machine.Machine.parse_nothing.Goals as goal

pub returns-clause-text : goal.returns-clause-text
returns-clause-text c = let f : List ℕ → Event = λ s. e.Scalar s style.Plain c.args.anchor c.args.tag in ap f c.borrowed.ensures
