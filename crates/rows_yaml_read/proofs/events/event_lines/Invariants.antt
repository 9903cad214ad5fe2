use Rattle.snap_parse_events.specs.Parsing.{events_left}
use Rattle.rows_yaml_read.proofs.events.event_lines.Given as goal

abbrev pub decreases-events : goal.decreases-events
decreases-events l = events_left l.parser
