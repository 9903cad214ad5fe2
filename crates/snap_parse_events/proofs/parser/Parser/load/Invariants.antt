use Rattle.snap_parse_events.proofs.Prelude.{◌≡◌, Some, ScanError, source, events_left, Passing}
use Rattle.snap_parse_events.proofs.parser.Parser.load.Given as goal

abbrev pub invariant-events : goal.invariant-events
invariant-events g l = record {
  passing : Passing g.R.MarkedEventReceiver.told l.multi l.fn.receiver l.receiver l.fn.self l.self;
  source : source l.self ≡ source l.fn.self;
  failed : (why : ScanError) → l.fn.self.error ≡ Some why → (l.self ≡ l.fn.self) × (l.receiver ≡ l.fn.receiver);
}

abbrev pub decreases-events : goal.decreases-events
decreases-events g l = events_left l.self
