-- The tokens of a JSON text yield the events of one document of its node.
use Rattle.snap_parse_laws_json.proofs.Prelude.{◌≡◌, Bool, true, false, List, [], ◌∷◌, ◌++◌, refl, sym, ◌∙◌, ap, subst, append_assoc, ◌||◌, TokenType, Utf8, is_refused, has_refused, items_refused, entries_refused, json_tokens, item_tokens, entry_tokens, key_tokens, json_stream_tokens, or_parts}
use Rattle.snap_content.specs.Plain as p
use Rattle.snap_scan_tokens.specs.declared.token.TokenType.TheVariants as k
use Rattle.snap_parse_events.specs.declared.event.Event.{Event}
use Rattle.snap_parse_events.specs.declared.event.Event.TheVariants as e
use Rattle.snap_parse_events.specs.Nodes.{node_onto, nodes_onto, pairs_onto, stream_events}
use Rattle.snap_parse_events.specs.Place.{start_spot}
use Rattle.snap_parse_events.specs.TokenTrees.{IsFit, AreFit, FitEntries, tokens_onto, flow_items_onto, flow_entries_onto, events_onto, item_events_onto, entry_events_onto, bare_tokens}
use Rattle.snap_parse_events.specs.Twin.{Yields}
use Rattle.snap_parse_events.proofs.TreeRuns.{bare-document}
use Rattle.snap_parse_laws_json.specs.Nodes.{json_tree, json_trees, json_entries, json_node, json_nodes, json_pairs}

mutual
  fit : (x : p.Plain) (b i : Bool) → IsFit b i (json_tree x)
  fit p.null b i = tt
  fit (p.bool c) b i = tt
  fit (p.int z) b i = tt
  fit (p.text s) b i = tt
  fit (p.list xs) b i = fit-items xs
  fit (p.dict es) b i = fit-entries es

  fit-items : (xs : p.Plains) → AreFit false (json_trees xs)
  fit-items p.no_items = tt
  fit-items (p.item x xs) = (fit x false false, fit-items xs)

  fit-entries : (es : p.Entries) → FitEntries false false (json_entries es)
  fit-entries p.no_entries = tt
  fit-entries (p.entry q v es) = (fit q false false, fit v false false, fit-entries es)

mutual
  events : (x : p.Plain) (es : List Event) → events_onto (json_tree x) es ≡ node_onto (json_node x) es
  events p.null es = refl
  events (p.bool c) es = refl
  events (p.int z) es = refl
  events (p.text s) es = refl
  events (p.list xs) es = let f : List Event → List Event = λ v. e.SequenceStart 0 ∷ v in ap f (item-events xs (e.SequenceEnd ∷ es))
  events (p.dict fs) es = let f : List Event → List Event = λ v. e.MappingStart 0 ∷ v in ap f (entry-events fs (e.MappingEnd ∷ es))

  item-events : (xs : p.Plains) (es : List Event) → item_events_onto (json_trees xs) es ≡ nodes_onto (json_nodes xs) es
  item-events p.no_items es = refl
  item-events (p.item x xs) es =
      let f : List Event → List Event = λ v. events_onto (json_tree x) v in
      ap f (item-events xs es) ∙ events x (nodes_onto (json_nodes xs) es)

  entry-events : (fs : p.Entries) (es : List Event) → entry_events_onto (json_entries fs) es ≡ pairs_onto (json_pairs fs) es
  entry-events p.no_entries es = refl
  entry-events (p.entry q v fs) es =
      let f : List Event → List Event = λ z. events_onto (json_tree q) (events_onto (json_tree v) z) in
      let g : List Event → List Event = λ z. events_onto (json_tree q) z in
      let rest : List Event = pairs_onto (json_pairs fs) es in
      ap f (entry-events fs es) ∙ ap g (events v rest) ∙ events q (node_onto (json_node v) rest)

-- a key that is a text
key : (q : p.Plain) (rest : List TokenType) → is_refused q ≡ false → key_tokens q ++ rest ≡ k.Key ∷ tokens_onto (json_tree q) (k.Value ∷ rest)
key p.null rest h = absurd (cc)
key (p.bool b) rest h = absurd (cc)
key (p.int z) rest h = absurd (cc)
key (p.text s) rest h = refl
key (p.list xs) rest h = absurd (cc)
key (p.dict es) rest h = absurd (cc)

mutual
  tokens : (x : p.Plain) (rest : List TokenType) → has_refused x ≡ false → json_tokens x ++ rest ≡ tokens_onto (json_tree x) rest
  tokens p.null rest h = refl
  tokens (p.bool c) rest h = refl
  tokens (p.int z) rest h = refl
  tokens (p.text s) rest h = refl
  tokens (p.list p.no_items) rest h = refl
  tokens (p.list (p.item x xs)) rest h =
      let two = or_parts (has_refused x) (items_refused xs) h in
      let f : List TokenType → List TokenType = λ v. k.FlowSequenceStart ∷ v in
      let g : List TokenType → List TokenType = λ v. k.FlowSequenceStart ∷ (json_tokens x ++ v) in
      let split : json_tokens x ++ (item_tokens xs ++ k.FlowSequenceEnd ∷ []) ++ rest ≡ json_tokens x ++ (item_tokens xs ++ (k.FlowSequenceEnd ∷ rest)) = simp append_assoc in
      ap f split ∙ ap g (items xs (k.FlowSequenceEnd ∷ rest) two.1) ∙ ap f (tokens x (flow_items_onto (json_trees xs) (k.FlowSequenceEnd ∷ rest)) two.0)
  tokens (p.dict p.no_entries) rest h = refl
  tokens (p.dict (p.entry q v es)) rest h =
      let two = or_parts (is_refused q) (has_refused v || entries_refused es) h in
      let others = or_parts (has_refused v) (entries_refused es) two.1 in
      let f : List TokenType → List TokenType = λ z. k.FlowMappingStart ∷ z in
      let g : List TokenType → List TokenType = λ z. k.FlowMappingStart ∷ (key_tokens q ++ (json_tokens v ++ z)) in
      let w : List TokenType → List TokenType = λ z. k.FlowMappingStart ∷ (key_tokens q ++ z) in
      let next : List TokenType = flow_entries_onto (json_entries es) (k.FlowMappingEnd ∷ rest) in
      let split : key_tokens q ++ json_tokens v ++ (entry_tokens es ++ k.FlowMappingEnd ∷ []) ++ rest
      ≡ key_tokens q ++ (json_tokens v ++ (entry_tokens es ++ (k.FlowMappingEnd ∷ rest))) = simp append_assoc in
      ap f split ∙ ap g (entries es (k.FlowMappingEnd ∷ rest) others.1) ∙ ap w (tokens v next others.0) ∙ ap f (key q (tokens_onto (json_tree v) next) two.0)

  items : (xs : p.Plains) (rest : List TokenType) → items_refused xs ≡ false → item_tokens xs ++ rest ≡ flow_items_onto (json_trees xs) rest
  items p.no_items rest h = refl
  items (p.item x xs) rest h =
      let two = or_parts (has_refused x) (items_refused xs) h in
      let f : List TokenType → List TokenType = λ v. k.FlowEntry ∷ v in
      let g : List TokenType → List TokenType = λ v. k.FlowEntry ∷ (json_tokens x ++ v) in
      let split : json_tokens x ++ item_tokens xs ++ rest ≡ json_tokens x ++ (item_tokens xs ++ rest) = append_assoc (json_tokens x) (item_tokens xs) rest in
      ap f split ∙ ap g (items xs rest two.1) ∙ ap f (tokens x (flow_items_onto (json_trees xs) rest) two.0)

  entries : (es : p.Entries) (rest : List TokenType) → entries_refused es ≡ false → entry_tokens es ++ rest ≡ flow_entries_onto (json_entries es) rest
  entries p.no_entries rest h = refl
  entries (p.entry q v es) rest h =
      let two = or_parts (is_refused q) (has_refused v || entries_refused es) h in
      let others = or_parts (has_refused v) (entries_refused es) two.1 in
      let f : List TokenType → List TokenType = λ z. k.FlowEntry ∷ z in
      let g : List TokenType → List TokenType = λ z. k.FlowEntry ∷ (key_tokens q ++ (json_tokens v ++ z)) in
      let w : List TokenType → List TokenType = λ z. k.FlowEntry ∷ (key_tokens q ++ z) in
      let next : List TokenType = flow_entries_onto (json_entries es) rest in
      let split : key_tokens q ++ json_tokens v ++ entry_tokens es ++ rest ≡ key_tokens q ++ (json_tokens v ++ (entry_tokens es ++ rest)) = simp append_assoc in
      ap f split ∙ ap g (entries es rest others.1) ∙ ap w (tokens v next others.0) ∙ ap f (key q (tokens_onto (json_tree v) next) two.0)

-- the tokens of a JSON text yield the events of one document
pub json-events : (x : p.Plain) → has_refused x ≡ false → Yields start_spot (json_stream_tokens x) (stream_events (json_node x ∷ []))
json-events x h =
    let f : List TokenType → List TokenType = λ v. k.StreamStart Utf8 ∷ v in
    let same : json_stream_tokens x ≡ bare_tokens (json_tree x) = ap f (tokens x (k.StreamEnd ∷ []) h) in
    let g : List Event → List Event = λ v. e.StreamStart ∷ e.DocumentStart ∷ v in
    let P : List TokenType → Type 0 = λ v. Yields start_spot v (stream_events (json_node x ∷ [])) in
    let Q : List Event → Type 0 = λ v. Yields start_spot (bare_tokens (json_tree x)) v in
    subst P (sym same) (subst Q (ap g (events x (e.DocumentEnd ∷ e.StreamEnd ∷ []))) (bare-document (json_tree x) (fit x true false)))
