-- Which collections may begin where a node stands.
use Rattle.std.specs.Prelude.{Bool, true, false}
use Rattle.snap_parse_events.specs.declared.state.Context.{Context}
use Rattle.snap_parse_events.specs.declared.state.Context.TheVariants as x

-- collections in blocks
abbrev pub takes_blocks : Context → Bool
takes_blocks x.Flow = false
takes_blocks x.Block = true
takes_blocks x.Indentless = true

-- sequences without indentation of their own
abbrev pub takes_indentless : Context → Bool
takes_indentless x.Flow = false
takes_indentless x.Block = false
takes_indentless x.Indentless = true
