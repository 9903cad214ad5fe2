-- A tree's tokens yield its events.
use Rattle.snap_parse_events.proofs.Prelude.{◌≡◌, Bool, true, false, if◌then◌else◌, Option, None, Some, List, [], ◌∷◌, refl, ◌∙◌, subst, TokenType, Event, State, Spot, start_spot, Parsed, at, left_spot, node_step, filled_step, first_document_step, bare, parse_step, Yields, finished, then_one}
use Rattle.snap_scan_tokens.specs.declared.token.TokenType.TheVariants as k
use Rattle.snap_parse_events.specs.declared.event.Event.TheVariants as e
use Rattle.snap_parse_events.specs.Context.{takes_blocks, takes_indentless}
use Rattle.snap_parse_events.specs.declared.state.Context.{Context}
use Rattle.snap_parse_events.specs.declared.state.Context.TheVariants as x
use Rattle.snap_parse_events.specs.declared.state.State.TheVariants as s
use Rattle.snap_parse_events.specs.declared.state.Stage.TheVariants as g
use Rattle.snap_parse_events.specs.declared.state.Ends.TheVariants as n
use Rattle.snap_parse_events.specs.TokenTrees.{Tree, scalar, block_list, indentless_list, block_dict, flow_list, flow_dict, Trees, no_items, item, Entries, no_entries, entry, IsFit, AreFit, FitEntries, tokens_onto, items_onto, entries_onto, flow_items_onto, flow_entries_onto, events_onto, item_events_onto, entry_events_onto, document_tokens, bare_tokens, document_events}

-- a node's event, and then those after it
pub record NodeYields (c : Context) (y : State) (ys : List State) (ts : List TokenType) (es : List Event) : Type 0 where
  pub found : Parsed
  pub later : List Event
  pub step : node_step c y ys ts ≡ Some found
  pub more : Yields found.spot found.rest later
  pub same : found.event ∷ later ≡ es

-- a step that goes on as a node does
as-node : (p : Spot) (all : List TokenType) (c : Context) (y : State) (ys : List State) (ts : List TokenType) (es : List Event) → parse_step p all ≡ node_step c y ys ts → NodeYields c y ys ts es
    → Yields p all es
as-node p all c y ys ts es same h =
    let P : List Event → Type 0 = λ v. Yields p all v in
    subst P h.same (then_one p all h.found h.later (same ∙ h.step) h.more)

-- after a list without an end stands a token that ends it
abbrev pub ends_pair : List TokenType → Bool
ends_pair (k.Key ∷ ts) = true
ends_pair (k.Value ∷ ts) = true
ends_pair (k.BlockEnd ∷ ts) = true
ends_pair _ = false

-- no tree start_spot with a token that ends an empty node
filled-document : (y : State) (ys : List State) (t : Tree) (rest : List TokenType) → IsFit true false t
    → filled_step n.Document x.Block y ys (tokens_onto t rest) ≡ node_step x.Block y ys (tokens_onto t rest)
filled-document y ys (scalar style text) rest f = refl
filled-document y ys (block_list ts) rest f = refl
filled-document y ys (indentless_list t ts) rest f = absurd (let h = f.0 in cc)
filled-document y ys (block_dict fs) rest f = refl
filled-document y ys (flow_list no_items) rest f = refl
filled-document y ys (flow_list (item t ts)) rest f = refl
filled-document y ys (flow_dict no_entries) rest f = refl
filled-document y ys (flow_dict (entry t u fs)) rest f = refl

filled-entry : (y : State) (ys : List State) (t : Tree) (rest : List TokenType) → IsFit true false t
    → filled_step n.BlockEntry x.Block y ys (tokens_onto t rest) ≡ node_step x.Block y ys (tokens_onto t rest)
filled-entry y ys (scalar style text) rest f = refl
filled-entry y ys (block_list ts) rest f = refl
filled-entry y ys (indentless_list t ts) rest f = absurd (let h = f.0 in cc)
filled-entry y ys (block_dict fs) rest f = refl
filled-entry y ys (flow_list no_items) rest f = refl
filled-entry y ys (flow_list (item t ts)) rest f = refl
filled-entry y ys (flow_dict no_entries) rest f = refl
filled-entry y ys (flow_dict (entry t u fs)) rest f = refl

filled-indentless : (y : State) (ys : List State) (t : Tree) (rest : List TokenType) → IsFit true false t
    → filled_step n.IndentlessEntry x.Block y ys (tokens_onto t rest) ≡ node_step x.Block y ys (tokens_onto t rest)
filled-indentless y ys (scalar style text) rest f = refl
filled-indentless y ys (block_list ts) rest f = refl
filled-indentless y ys (indentless_list t ts) rest f = absurd (let h = f.0 in cc)
filled-indentless y ys (block_dict fs) rest f = refl
filled-indentless y ys (flow_list no_items) rest f = refl
filled-indentless y ys (flow_list (item t ts)) rest f = refl
filled-indentless y ys (flow_dict no_entries) rest f = refl
filled-indentless y ys (flow_dict (entry t u fs)) rest f = refl

filled-pair : (y : State) (ys : List State) (t : Tree) (rest : List TokenType)
    → filled_step n.BlockPair x.Indentless y ys (tokens_onto t rest) ≡ node_step x.Indentless y ys (tokens_onto t rest)
filled-pair y ys (scalar style text) rest = refl
filled-pair y ys (block_list ts) rest = refl
filled-pair y ys (indentless_list t ts) rest = refl
filled-pair y ys (block_dict fs) rest = refl
filled-pair y ys (flow_list no_items) rest = refl
filled-pair y ys (flow_list (item t ts)) rest = refl
filled-pair y ys (flow_dict no_entries) rest = refl
filled-pair y ys (flow_dict (entry t u fs)) rest = refl

filled-flow-key : (y : State) (ys : List State) (t : Tree) (rest : List TokenType)
    → filled_step n.FlowKey x.Flow y ys (tokens_onto t rest) ≡ node_step x.Flow y ys (tokens_onto t rest)
filled-flow-key y ys (scalar style text) rest = refl
filled-flow-key y ys (block_list ts) rest = refl
filled-flow-key y ys (indentless_list t ts) rest = refl
filled-flow-key y ys (block_dict fs) rest = refl
filled-flow-key y ys (flow_list no_items) rest = refl
filled-flow-key y ys (flow_list (item t ts)) rest = refl
filled-flow-key y ys (flow_dict no_entries) rest = refl
filled-flow-key y ys (flow_dict (entry t u fs)) rest = refl

filled-flow-value : (y : State) (ys : List State) (t : Tree) (rest : List TokenType)
    → filled_step n.FlowValue x.Flow y ys (tokens_onto t rest) ≡ node_step x.Flow y ys (tokens_onto t rest)
filled-flow-value y ys (scalar style text) rest = refl
filled-flow-value y ys (block_list ts) rest = refl
filled-flow-value y ys (indentless_list t ts) rest = refl
filled-flow-value y ys (block_dict fs) rest = refl
filled-flow-value y ys (flow_list no_items) rest = refl
filled-flow-value y ys (flow_list (item t ts)) rest = refl
filled-flow-value y ys (flow_dict no_entries) rest = refl
filled-flow-value y ys (flow_dict (entry t u fs)) rest = refl

-- an item of a flow sequence is no end of it
flow-item : (ys : List State) (t : Tree) (rest : List TokenType) → parse_step (at s.FlowSequenceFirstEntry ys) (tokens_onto t rest) ≡ node_step x.Flow s.FlowSequenceEntry ys (tokens_onto t rest)
flow-item ys (scalar style text) rest = refl
flow-item ys (block_list ts) rest = refl
flow-item ys (indentless_list t ts) rest = refl
flow-item ys (block_dict fs) rest = refl
flow-item ys (flow_list no_items) rest = refl
flow-item ys (flow_list (item t ts)) rest = refl
flow-item ys (flow_dict no_entries) rest = refl
flow-item ys (flow_dict (entry t u fs)) rest = refl

-- a first document without a mark
bare-start : (ys : List State) (t : Tree) (rest : List TokenType) → IsFit true false t → first_document_step ys (tokens_onto t rest) ≡ bare ys (tokens_onto t rest)
bare-start ys (scalar style text) rest f = refl
bare-start ys (block_list ts) rest f = refl
bare-start ys (indentless_list t ts) rest f = absurd (let h = f.0 in cc)
bare-start ys (block_dict fs) rest f = refl
bare-start ys (flow_list no_items) rest f = refl
bare-start ys (flow_list (item t ts)) rest f = refl
bare-start ys (flow_dict no_entries) rest f = refl
bare-start ys (flow_dict (entry t u fs)) rest f = refl

never : {T : Type 0} → false ≡ true → T
never h = absurd (cc)

pick : (b : Bool) (v w : Option Parsed) → b ≡ true → (if b then v else w) ≡ v
pick true v w h = refl
pick false v w h = absurd (cc)

-- a token that ends a pair ends a list without an end
indentless-end : (ys : List State) (rest : List TokenType) (es : List Event) → ends_pair rest ≡ true → Yields (left_spot ys) rest es → Yields (at s.IndentlessSequenceEntry ys) rest (e.SequenceEnd ∷ es)
indentless-end ys (k.Key ∷ ts) es o h = then_one (at s.IndentlessSequenceEntry ys) (k.Key ∷ ts) (record { event = e.SequenceEnd; spot = left_spot ys; rest = k.Key ∷ ts }) es refl h
indentless-end ys (k.Value ∷ ts) es o h = then_one (at s.IndentlessSequenceEntry ys) (k.Value ∷ ts) (record { event = e.SequenceEnd; spot = left_spot ys; rest = k.Value ∷ ts }) es refl h
indentless-end ys (k.BlockEnd ∷ ts) es o h = then_one (at s.IndentlessSequenceEntry ys) (k.BlockEnd ∷ ts) (record { event = e.SequenceEnd; spot = left_spot ys; rest = k.BlockEnd ∷ ts }) es refl h
indentless-end ys _ es o h = never o

-- after an entry stands the next key or the end
entries-end : (fs : Entries) (rest : List TokenType) → ends_pair (entries_onto fs (k.BlockEnd ∷ rest)) ≡ true
entries-end no_entries rest = refl
entries-end (entry t u fs) rest = refl

abbrev went : Event → Spot → List TokenType → Parsed
went event spot rest = record { event = event; spot = spot; rest = rest }

mutual
  pub node : (t : Tree) (c : Context) → IsFit (takes_blocks c) (takes_indentless c) t → (y : State) (ys : List State) (rest : List TokenType) (es : List Event) → (takes_indentless c ≡ true → ends_pair rest ≡ true) → Yields (at y ys) rest es
      → NodeYields c y ys (tokens_onto t rest) (events_onto t es)
  node (scalar style text) c f y ys rest es o h = record { found = went (e.Scalar text style 0 None) (at y ys) rest; later = es; step = refl; more = h; same = refl }
  node (block_list ts) c f y ys rest es o h = record {
    found = went (e.SequenceStart 0) (at s.BlockSequenceEntry (y ∷ ys)) (items_onto ts (k.BlockEnd ∷ rest));
    later = item_events_onto ts (e.SequenceEnd ∷ es);
    step = pick (takes_blocks c) _ None f.0;
    more = items ts f.1 (y ∷ ys) rest es h;
    same = refl;
  }
  node (indentless_list t ts) c f y ys rest es o h = record {
    found = went (e.SequenceStart 0) (at s.IndentlessSequenceEntry (y ∷ ys)) (k.BlockEntry ∷ tokens_onto t (items_onto ts rest));
    later = events_onto t (item_events_onto ts (e.SequenceEnd ∷ es));
    step = pick (takes_indentless c) _ None f.0;
    more =
        let next : List TokenType = items_onto ts rest in
        let later : List Event = item_events_onto ts (e.SequenceEnd ∷ es) in
        as-node (at s.IndentlessSequenceEntry (y ∷ ys)) (k.BlockEntry ∷ tokens_onto t next) x.Block s.IndentlessSequenceEntry (y ∷ ys) (tokens_onto t next) (events_onto t later)
        (filled-indentless s.IndentlessSequenceEntry (y ∷ ys) t next f.1)
        (node t x.Block f.1 s.IndentlessSequenceEntry (y ∷ ys) next later never (indentless ts f.2 (y ∷ ys) rest es (o f.0) h));
    same = refl;
  }
  node (block_dict fs) c f y ys rest es o h = record {
    found = went (e.MappingStart 0) (at s.BlockMappingKey (y ∷ ys)) (entries_onto fs (k.BlockEnd ∷ rest));
    later = entry_events_onto fs (e.MappingEnd ∷ es);
    step = pick (takes_blocks c) _ None f.0;
    more = entries fs f.1 (y ∷ ys) rest es h;
    same = refl;
  }
  node (flow_list no_items) c f y ys rest es o h = record {
    found = went (e.SequenceStart 0) (at s.FlowSequenceFirstEntry (y ∷ ys)) (k.FlowSequenceEnd ∷ rest);
    later = e.SequenceEnd ∷ es;
    step = refl;
    more = then_one (at s.FlowSequenceFirstEntry (y ∷ ys)) (k.FlowSequenceEnd ∷ rest) (went e.SequenceEnd (at y ys) rest) es refl h;
    same = refl;
  }
  node (flow_list (item t ts)) c f y ys rest es o h = record {
    found = went (e.SequenceStart 0) (at s.FlowSequenceFirstEntry (y ∷ ys)) (tokens_onto t (flow_items_onto ts (k.FlowSequenceEnd ∷ rest)));
    later = events_onto t (item_events_onto ts (e.SequenceEnd ∷ es));
    step = refl;
    more =
        as-node (at s.FlowSequenceFirstEntry (y ∷ ys)) (tokens_onto t (flow_items_onto ts (k.FlowSequenceEnd ∷ rest))) x.Flow s.FlowSequenceEntry (y ∷ ys)
        (tokens_onto t (flow_items_onto ts (k.FlowSequenceEnd ∷ rest))) (events_onto t (item_events_onto ts (e.SequenceEnd ∷ es)))
        (flow-item (y ∷ ys) t (flow_items_onto ts (k.FlowSequenceEnd ∷ rest)))
        (node t x.Flow f.0 s.FlowSequenceEntry (y ∷ ys) (flow_items_onto ts (k.FlowSequenceEnd ∷ rest)) (item_events_onto ts (e.SequenceEnd ∷ es)) never
        (flow-items ts f.1 (y ∷ ys) rest es h));
    same = refl;
  }
  node (flow_dict no_entries) c f y ys rest es o h = record {
    found = went (e.MappingStart 0) (at s.FlowMappingFirstKey (y ∷ ys)) (k.FlowMappingEnd ∷ rest);
    later = e.MappingEnd ∷ es;
    step = refl;
    more = then_one (at s.FlowMappingFirstKey (y ∷ ys)) (k.FlowMappingEnd ∷ rest) (went e.MappingEnd (at y ys) rest) es refl h;
    same = refl;
  }
  node (flow_dict (entry t u fs)) c f y ys rest es o h = record {
    found = went (e.MappingStart 0) (at s.FlowMappingFirstKey (y ∷ ys)) (k.Key ∷ tokens_onto t (k.Value ∷ tokens_onto u (flow_entries_onto fs (k.FlowMappingEnd ∷ rest))));
    later = events_onto t (events_onto u (entry_events_onto fs (e.MappingEnd ∷ es)));
    step = refl;
    more =
        let next : List TokenType = flow_entries_onto fs (k.FlowMappingEnd ∷ rest) in
        let later : List Event = entry_events_onto fs (e.MappingEnd ∷ es) in
        let after : List TokenType = k.Value ∷ tokens_onto u next in
        as-node (at s.FlowMappingFirstKey (y ∷ ys)) (k.Key ∷ tokens_onto t after) x.Flow s.FlowMappingValue (y ∷ ys) (tokens_onto t after) (events_onto t (events_onto u later))
        (filled-flow-key s.FlowMappingValue (y ∷ ys) t after) (node t x.Flow f.0 s.FlowMappingValue (y ∷ ys) after (events_onto u later) never
        (as-node (at s.FlowMappingValue (y ∷ ys)) after x.Flow s.FlowMappingKey (y ∷ ys) (tokens_onto u next) (events_onto u later)
        (filled-flow-value s.FlowMappingKey (y ∷ ys) u next) (node u x.Flow f.1 s.FlowMappingKey (y ∷ ys) next later never (flow-entries fs f.2 (y ∷ ys) rest es h))));
    same = refl;
  }

  items : (ts : Trees) → AreFit true ts → (ys : List State) (rest : List TokenType) (es : List Event) → Yields (left_spot ys) rest es
      → Yields (at s.BlockSequenceEntry ys) (items_onto ts (k.BlockEnd ∷ rest)) (item_events_onto ts (e.SequenceEnd ∷ es))
  items no_items f ys rest es h = then_one (at s.BlockSequenceEntry ys) (k.BlockEnd ∷ rest) (went e.SequenceEnd (left_spot ys) rest) es refl h
  items (item t ts) f ys rest es h =
      let next : List TokenType = items_onto ts (k.BlockEnd ∷ rest) in
      let later : List Event = item_events_onto ts (e.SequenceEnd ∷ es) in
      as-node (at s.BlockSequenceEntry ys) (k.BlockEntry ∷ tokens_onto t next) x.Block s.BlockSequenceEntry ys (tokens_onto t next) (events_onto t later)
      (filled-entry s.BlockSequenceEntry ys t next f.0) (node t x.Block f.0 s.BlockSequenceEntry ys next later never (items ts f.1 ys rest es h))

  indentless : (ts : Trees) → AreFit true ts → (ys : List State) (rest : List TokenType) (es : List Event) → ends_pair rest ≡ true → Yields (left_spot ys) rest es
      → Yields (at s.IndentlessSequenceEntry ys) (items_onto ts rest) (item_events_onto ts (e.SequenceEnd ∷ es))
  indentless no_items f ys rest es o h = indentless-end ys rest es o h
  indentless (item t ts) f ys rest es o h =
      let next : List TokenType = items_onto ts rest in
      let later : List Event = item_events_onto ts (e.SequenceEnd ∷ es) in
      as-node (at s.IndentlessSequenceEntry ys) (k.BlockEntry ∷ tokens_onto t next) x.Block s.IndentlessSequenceEntry ys (tokens_onto t next) (events_onto t later)
      (filled-indentless s.IndentlessSequenceEntry ys t next f.0) (node t x.Block f.0 s.IndentlessSequenceEntry ys next later never (indentless ts f.1 ys rest es o h))

  entries : (fs : Entries) → FitEntries true true fs → (ys : List State) (rest : List TokenType) (es : List Event) → Yields (left_spot ys) rest es
      → Yields (at s.BlockMappingKey ys) (entries_onto fs (k.BlockEnd ∷ rest)) (entry_events_onto fs (e.MappingEnd ∷ es))
  entries no_entries f ys rest es h = then_one (at s.BlockMappingKey ys) (k.BlockEnd ∷ rest) (went e.MappingEnd (left_spot ys) rest) es refl h
  entries (entry t u fs) f ys rest es h =
      let next : List TokenType = entries_onto fs (k.BlockEnd ∷ rest) in
      let later : List Event = entry_events_onto fs (e.MappingEnd ∷ es) in
      let after : List TokenType = k.Value ∷ tokens_onto u next in
      as-node (at s.BlockMappingKey ys) (k.Key ∷ tokens_onto t after) x.Indentless s.BlockMappingValue ys (tokens_onto t after) (events_onto t (events_onto u later))
      (filled-pair s.BlockMappingValue ys t after) (node t x.Indentless f.0 s.BlockMappingValue ys after (events_onto u later) (λ _. refl)
      (as-node (at s.BlockMappingValue ys) after x.Indentless s.BlockMappingKey ys (tokens_onto u next) (events_onto u later)
      (filled-pair s.BlockMappingKey ys u next) (node u x.Indentless f.1 s.BlockMappingKey ys next later (λ _. entries-end fs rest) (entries fs f.2 ys rest es h))))

  flow-items : (ts : Trees) → AreFit false ts → (ys : List State) (rest : List TokenType) (es : List Event) → Yields (left_spot ys) rest es
      → Yields (at s.FlowSequenceEntry ys) (flow_items_onto ts (k.FlowSequenceEnd ∷ rest)) (item_events_onto ts (e.SequenceEnd ∷ es))
  flow-items no_items f ys rest es h = then_one (at s.FlowSequenceEntry ys) (k.FlowSequenceEnd ∷ rest) (went e.SequenceEnd (left_spot ys) rest) es refl h
  flow-items (item t ts) f ys rest es h =
      let next : List TokenType = flow_items_onto ts (k.FlowSequenceEnd ∷ rest) in
      let later : List Event = item_events_onto ts (e.SequenceEnd ∷ es) in
      as-node (at s.FlowSequenceEntry ys) (k.FlowEntry ∷ tokens_onto t next) x.Flow s.FlowSequenceEntry ys (tokens_onto t next) (events_onto t later)
      (flow-item ys t next) (node t x.Flow f.0 s.FlowSequenceEntry ys next later never (flow-items ts f.1 ys rest es h))

  flow-entries : (fs : Entries) → FitEntries false false fs → (ys : List State) (rest : List TokenType) (es : List Event) → Yields (left_spot ys) rest es
      → Yields (at s.FlowMappingKey ys) (flow_entries_onto fs (k.FlowMappingEnd ∷ rest)) (entry_events_onto fs (e.MappingEnd ∷ es))
  flow-entries no_entries f ys rest es h = then_one (at s.FlowMappingKey ys) (k.FlowMappingEnd ∷ rest) (went e.MappingEnd (left_spot ys) rest) es refl h
  flow-entries (entry t u fs) f ys rest es h =
      let next : List TokenType = flow_entries_onto fs (k.FlowMappingEnd ∷ rest) in
      let later : List Event = entry_events_onto fs (e.MappingEnd ∷ es) in
      let after : List TokenType = k.Value ∷ tokens_onto u next in
      as-node (at s.FlowMappingKey ys) (k.FlowEntry ∷ k.Key ∷ tokens_onto t after) x.Flow s.FlowMappingValue ys (tokens_onto t after) (events_onto t (events_onto u later))
      (filled-flow-key s.FlowMappingValue ys t after) (node t x.Flow f.0 s.FlowMappingValue ys after (events_onto u later) never
      (as-node (at s.FlowMappingValue ys) after x.Flow s.FlowMappingKey ys (tokens_onto u next) (events_onto u later)
      (filled-flow-value s.FlowMappingKey ys u next) (node u x.Flow f.1 s.FlowMappingKey ys next later never (flow-entries fs f.2 ys rest es h))))

ending : Yields (at s.DocumentEnd []) (k.StreamEnd ∷ []) (e.DocumentEnd ∷ e.StreamEnd ∷ [])
ending =
    then_one (at s.DocumentEnd []) (k.StreamEnd ∷ []) (went e.DocumentEnd (at s.DocumentStart []) (k.StreamEnd ∷ [])) (e.StreamEnd ∷ []) refl
    (then_one (at s.DocumentStart []) (k.StreamEnd ∷ []) (went e.StreamEnd (record { stage = g.Ended; outer = [] }) []) [] refl (finished (record { stage = g.Ended; outer = [] }) [] refl))

-- one document of one node
pub document : (t : Tree) → IsFit true false t → Yields start_spot (document_tokens t) (document_events t)
document t f =
    let es : List Event = e.DocumentEnd ∷ e.StreamEnd ∷ [] in
    let ts : List TokenType = tokens_onto t (k.StreamEnd ∷ []) in
    then_one start_spot (document_tokens t) (went e.StreamStart (at s.ImplicitDocumentStart []) (k.DocumentStart ∷ ts)) (e.DocumentStart ∷ events_onto t es) refl
    (then_one (at s.ImplicitDocumentStart []) (k.DocumentStart ∷ ts) (went e.DocumentStart (at s.DocumentContent []) ts) (events_onto t es) refl
    (as-node (at s.DocumentContent []) ts x.Block s.DocumentEnd [] ts (events_onto t es) (filled-document s.DocumentEnd [] t (k.StreamEnd ∷ []) f)
    (node t x.Block f s.DocumentEnd [] (k.StreamEnd ∷ []) es never ending)))

-- the same without a mark
pub bare-document : (t : Tree) → IsFit true false t → Yields start_spot (bare_tokens t) (document_events t)
bare-document t f =
    let es : List Event = e.DocumentEnd ∷ e.StreamEnd ∷ [] in
    let ts : List TokenType = tokens_onto t (k.StreamEnd ∷ []) in
    then_one start_spot (bare_tokens t) (went e.StreamStart (at s.ImplicitDocumentStart []) ts) (e.DocumentStart ∷ events_onto t es) refl
    (then_one (at s.ImplicitDocumentStart []) ts (went e.DocumentStart (at s.BlockNode []) ts) (events_onto t es) (bare-start [] t (k.StreamEnd ∷ []) f)
    (as-node (at s.BlockNode []) ts x.Block s.DocumentEnd [] ts (events_onto t es) refl
    (node t x.Block f s.DocumentEnd [] (k.StreamEnd ∷ []) es never ending)))
