-- Where a parser stands: its state, what that means, and how many events it can still give without a token.
use Rattle.std.specs.Prelude.{ℕ, ◌+◌, List, [], ◌∷◌}
use Rattle.snap_scan_tokens.specs.Causes.{Need, nothing, needed}
use Rattle.snap_scan_tokens.specs.declared.info.ScanInfo.TheVariants as i
use Rattle.snap_parse_events.specs.Meaning.{Open, due, given, sequence, key, value, Meaning, ahead, open_in, ended}
use Rattle.snap_parse_events.specs.declared.state.State.{State}
use Rattle.snap_parse_events.specs.declared.state.State.TheVariants as s
use Rattle.snap_parse_events.specs.declared.state.Stage.{Stage}
use Rattle.snap_parse_events.specs.declared.state.Stage.TheVariants as g

-- a stage, and where the parser goes on once what is open ends, the innermost first
pub record Spot : Type 0 where
  pub stage : Stage
  pub outer : List State

-- where a new parser stands
abbrev pub start_spot : Spot
start_spot = record { stage = g.Ahead; outer = [] }

-- what is open in a state, where this is open round it
abbrev pub opened : State → List Open → List Open
opened s.ImplicitDocumentStart os = []
opened s.DocumentStart os = []
opened s.DocumentContent os = due ∷ []
opened s.BlockNode os = due ∷ []
opened s.DocumentEnd os = given ∷ []
opened s.BlockSequenceEntry os = sequence ∷ os
opened s.IndentlessSequenceEntry os = sequence ∷ os
opened s.BlockMappingKey os = key ∷ os
opened s.BlockMappingValue os = value ∷ os
opened s.BlockMappingContent os = value ∷ os
opened s.FlowSequenceFirstEntry os = sequence ∷ os
opened s.FlowSequenceEntry os = sequence ∷ os
opened s.FlowSequenceEntryMappingKey os = key ∷ sequence ∷ os
opened s.FlowSequenceEntryMappingValue os = value ∷ sequence ∷ os
opened s.FlowSequenceEntryMappingEnd os = key ∷ sequence ∷ os
opened s.FlowMappingFirstKey os = key ∷ os
opened s.FlowMappingKey os = key ∷ os
opened s.FlowMappingValue os = value ∷ os
opened s.FlowMappingEmptyValue os = value ∷ os

-- what is open round a state; after the last stands the document's end
abbrev pub below : List State → List Open
below [] = given ∷ []
below (y ∷ ys) = opened y (below ys)

abbrev pub meaning_in : Stage → List State → Meaning
meaning_in g.Ahead ys = ahead
meaning_in (g.Open y) ys = open_in (opened y (below ys))
meaning_in g.Ended ys = ended

abbrev pub meaning_of : Spot → Meaning
meaning_of p = meaning_in p.stage p.outer

-- how many events can come in a state before a token is taken, where round it are so many
abbrev pub weighed : State → ℕ → ℕ
weighed s.ImplicitDocumentStart n = 1
weighed s.DocumentStart n = 0
weighed s.DocumentContent n = 3
weighed s.BlockNode n = 0
weighed s.DocumentEnd n = 1
weighed s.BlockSequenceEntry n = n
weighed s.IndentlessSequenceEntry n = n + 1
weighed s.BlockMappingKey n = n
weighed s.BlockMappingValue n = n + 1
weighed s.BlockMappingContent n = n + 2
weighed s.FlowSequenceFirstEntry n = n
weighed s.FlowSequenceEntry n = n
weighed s.FlowSequenceEntryMappingKey n = n + 1
weighed s.FlowSequenceEntryMappingValue n = n + 2
weighed s.FlowSequenceEntryMappingEnd n = n + 1
weighed s.FlowMappingFirstKey n = n + 2
weighed s.FlowMappingKey n = n
weighed s.FlowMappingValue n = n + 1
weighed s.FlowMappingEmptyValue n = n + 1

abbrev pub weight_below : List State → ℕ
weight_below [] = 1
weight_below (y ∷ ys) = weighed y (weight_below ys)

abbrev pub pending_in : Stage → List State → ℕ
pending_in g.Ahead ys = 0
pending_in (g.Open y) ys = weighed y (weight_below ys)
pending_in g.Ended ys = 0

abbrev pub pending : Spot → ℕ
pending p = pending_in p.stage p.outer

-- the signs that stand in a text whose parser comes to a state: those that explain the refusals there
abbrev pub signs_of : State → Need
signs_of s.BlockSequenceEntry = needed i.P8
signs_of s.BlockMappingKey = needed i.P5
signs_of s.BlockMappingValue = needed i.P5
signs_of s.BlockMappingContent = needed i.P5
signs_of s.FlowSequenceFirstEntry = needed i.P7
signs_of s.FlowSequenceEntry = needed i.P7
signs_of s.FlowSequenceEntryMappingKey = needed i.P7
signs_of s.FlowSequenceEntryMappingValue = needed i.P7
signs_of s.FlowSequenceEntryMappingEnd = needed i.P7
signs_of s.FlowMappingFirstKey = needed i.P6
signs_of s.FlowMappingKey = needed i.P6
signs_of s.FlowMappingValue = needed i.P6
signs_of s.FlowMappingEmptyValue = needed i.P6
signs_of _ = nothing
