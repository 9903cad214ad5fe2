-- The documents of a text.
use Rattle.std.specs.Prelude.{◌≡◌, Bool, List, map}
use Rattle.snap_scan_tokens.specs.declared.info.ScanError.{ScanError}
use Rattle.snap_scan_tokens.specs.declared.info.ScanError.TheVariants.{OutOfMemory}
use Rattle.snap_parse_events.specs.declared.event.Event.{Event}
use Rattle.snap_parse_events.specs.Nodes.{Node, stream_events}
use Rattle.snap_parse_events.specs.Streams.{IsStream}
use Rattle.snap_parse_events.specs.declared.error.LoadError.{LoadError}
use Rattle.snap_parse_events.specs.declared.error.LoadError.TheVariants as l
use Rattle.snap_yaml.specs.Value.{Value}
use Rattle.snap_parse.specs.Aliases.{has_alias}
use Rattle.snap_parse.specs.Documents.{document_value}

-- the documents are the values of the nodes of a whole stream of events
pub record AreLoaded (documents : List Value) : Type 0 where
  pub events : List Event
  pub stream : IsStream events
  pub nodes : List Node
  pub of_nodes : events ≡ stream_events nodes
  pub are : documents ≡ map document_value nodes

-- the same, and it is told whether an alias is among the events
pub record AreLoadedOf (documents : List Value) (aliased : Bool) : Type 0 where
  pub loaded : AreLoaded documents
  pub told : aliased ≡ has_alias loaded.events

-- what is loaded of these documents: their values, and whether an alias stands in one
pub record AreValuesOf (nodes : List Node) (documents : List Value) (aliased : Bool) : Type 0 where
  pub are : documents ≡ map document_value nodes
  pub told : aliased ≡ has_alias (stream_events nodes)

-- the parser's own error, where no document was open before
abbrev pub scan_error : LoadError → ScanError
scan_error (l.Scan error) = error
scan_error l.InsideDocument = OutOfMemory
scan_error l.OutOfMemory = OutOfMemory
