-- Trees with their layout, as tokens show it: their tokens, and their events.
use Rattle.std.specs.Prelude.{ℕ, ◌≡◌, Bool, true, false, List, [], ◌∷◌, None}
use Rattle.snap_scan_tokens.specs.declared.token.TokenType.{TokenType}
use Rattle.snap_scan_tokens.specs.declared.token.TokenType.TheVariants as k
use Rattle.snap_scan_tokens.specs.declared.token.TScalarStyle.{TScalarStyle}
use Rattle.snap_scan_tokens.specs.declared.token.TEncoding.TheVariants.{Utf8}
use Rattle.snap_parse_events.specs.declared.event.Event.{Event}
use Rattle.snap_parse_events.specs.declared.event.Event.TheVariants as e

-- a scalar, a list or a dict in blocks or in flow, or a list at the column of its dict
mutual
  pub data Tree : Type 0 where
    scalar : TScalarStyle → List ℕ → Tree
    block_list : Trees → Tree
    -- a list at the column of its dict: no start and no end
    indentless_list : Tree → Trees → Tree
    block_dict : Entries → Tree
    flow_list : Trees → Tree
    flow_dict : Entries → Tree

  pub data Trees : Type 0 where
    no_items : Trees
    item : Tree → Trees → Trees

  pub data Entries : Type 0 where
    no_entries : Entries
    entry : Tree → Tree → Entries → Entries

abbrev mutual
  -- a tree may stand where block collections may (b), and lists without a start (i)
  pub IsFit : Bool → Bool → Tree → Type 0
  IsFit b i (scalar style text) = Unit {0}
  IsFit b i (block_list ts) = (b ≡ true) × AreFit true ts
  IsFit b i (indentless_list t ts) = (i ≡ true) × IsFit true false t × AreFit true ts
  IsFit b i (block_dict fs) = (b ≡ true) × FitEntries true true fs
  IsFit b i (flow_list ts) = AreFit false ts
  IsFit b i (flow_dict fs) = FitEntries false false fs

  pub AreFit : Bool → Trees → Type 0
  AreFit b no_items = Unit {0}
  AreFit b (item t ts) = IsFit b false t × AreFit b ts

  pub FitEntries : Bool → Bool → Entries → Type 0
  FitEntries b i no_entries = Unit {0}
  FitEntries b i (entry t u fs) = IsFit b i t × IsFit b i u × FitEntries b i fs

abbrev mutual
  -- the tokens of a tree, and then others
  pub tokens_onto : Tree → List TokenType → List TokenType
  tokens_onto (scalar style text) rest = k.Scalar style text ∷ rest
  tokens_onto (block_list ts) rest = k.BlockSequenceStart ∷ items_onto ts (k.BlockEnd ∷ rest)
  tokens_onto (indentless_list t ts) rest = k.BlockEntry ∷ tokens_onto t (items_onto ts rest)
  tokens_onto (block_dict fs) rest = k.BlockMappingStart ∷ entries_onto fs (k.BlockEnd ∷ rest)
  tokens_onto (flow_list no_items) rest = k.FlowSequenceStart ∷ k.FlowSequenceEnd ∷ rest
  tokens_onto (flow_list (item t ts)) rest = k.FlowSequenceStart ∷ tokens_onto t (flow_items_onto ts (k.FlowSequenceEnd ∷ rest))
  tokens_onto (flow_dict no_entries) rest = k.FlowMappingStart ∷ k.FlowMappingEnd ∷ rest
  tokens_onto (flow_dict (entry t u fs)) rest =
      k.FlowMappingStart ∷ k.Key ∷ tokens_onto t (k.Value ∷ tokens_onto u (flow_entries_onto fs (k.FlowMappingEnd ∷ rest)))

  pub items_onto : Trees → List TokenType → List TokenType
  items_onto no_items rest = rest
  items_onto (item t ts) rest = k.BlockEntry ∷ tokens_onto t (items_onto ts rest)

  pub entries_onto : Entries → List TokenType → List TokenType
  entries_onto no_entries rest = rest
  entries_onto (entry t u fs) rest = k.Key ∷ tokens_onto t (k.Value ∷ tokens_onto u (entries_onto fs rest))

  pub flow_items_onto : Trees → List TokenType → List TokenType
  flow_items_onto no_items rest = rest
  flow_items_onto (item t ts) rest = k.FlowEntry ∷ tokens_onto t (flow_items_onto ts rest)

  pub flow_entries_onto : Entries → List TokenType → List TokenType
  flow_entries_onto no_entries rest = rest
  flow_entries_onto (entry t u fs) rest = k.FlowEntry ∷ k.Key ∷ tokens_onto t (k.Value ∷ tokens_onto u (flow_entries_onto fs rest))

abbrev mutual
  -- the events of a tree, and then others
  pub events_onto : Tree → List Event → List Event
  events_onto (scalar style text) es = e.Scalar text style 0 None ∷ es
  events_onto (block_list ts) es = e.SequenceStart 0 ∷ item_events_onto ts (e.SequenceEnd ∷ es)
  events_onto (indentless_list t ts) es = e.SequenceStart 0 ∷ events_onto t (item_events_onto ts (e.SequenceEnd ∷ es))
  events_onto (block_dict fs) es = e.MappingStart 0 ∷ entry_events_onto fs (e.MappingEnd ∷ es)
  events_onto (flow_list ts) es = e.SequenceStart 0 ∷ item_events_onto ts (e.SequenceEnd ∷ es)
  events_onto (flow_dict fs) es = e.MappingStart 0 ∷ entry_events_onto fs (e.MappingEnd ∷ es)

  pub item_events_onto : Trees → List Event → List Event
  item_events_onto no_items es = es
  item_events_onto (item t ts) es = events_onto t (item_events_onto ts es)

  pub entry_events_onto : Entries → List Event → List Event
  entry_events_onto no_entries es = es
  entry_events_onto (entry t u fs) es = events_onto t (events_onto u (entry_events_onto fs es))

-- a document after `---`, and one without it, as a JSON text
abbrev pub document_tokens : Tree → List TokenType
document_tokens t = k.StreamStart Utf8 ∷ k.DocumentStart ∷ tokens_onto t (k.StreamEnd ∷ [])

abbrev pub bare_tokens : Tree → List TokenType
bare_tokens t = k.StreamStart Utf8 ∷ tokens_onto t (k.StreamEnd ∷ [])

-- the events of a stream of one document
abbrev pub document_events : Tree → List Event
document_events t = e.StreamStart ∷ e.DocumentStart ∷ events_onto t (e.DocumentEnd ∷ e.StreamEnd ∷ [])
