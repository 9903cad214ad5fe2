-- Where a number is kept as its text in a document, it stands among the events.
use Rattle.snap_emit.proofs.Prelude.{◌≡◌, Bool, true, false, ◌||◌, List, [], ◌∷◌, Option, Some, None, refl, sym, ◌∙◌, if◌then◌else◌, unwrap_or, or_from, or_left, or_right, has_number_text, have_number_texts, are_number_texts_in}
use Rattle.snap_parse_events.specs.Nodes as n
use Rattle.snap_parse_events.specs.declared.event.Event.{Event}
use Rattle.snap_parse_events.specs.declared.event.Event.TheVariants as e
use Rattle.snap_parse.specs.Documents.{paired, behind, and_some, node_value, values_in, values_in_pairs, document_value, scalar_value}
use Rattle.snap_yaml.specs.Readers.{is_bad}
use Rattle.snap_yaml.specs.Value.{Value, values_of, pairs_of, bad_value}
use Rattle.snap_emit.specs.Readings.{is_kept_among}

abbrev is_kept : Option Value → Bool
is_kept None = false
is_kept (Some v) = has_number_text v

abbrev are_kept : List Value → Bool
are_kept vs = have_number_texts (values_of vs)

abbrev are_kept_in : List (Value × Value) → Bool
are_kept_in ps = are_number_texts_in (pairs_of ps)

-- none among the values of a mapping's nodes is none in its pairs
if-none : (c : Bool) (ps qs : List (Value × Value)) → are_kept_in ps ≡ false → are_kept_in qs ≡ false → are_kept_in (if c then ps else qs) ≡ false
if-none true ps qs h k = h
if-none false ps qs h k = k

mutual
  paired-none : (vs : List Value) → are_kept vs ≡ false → are_kept_in (paired vs) ≡ false
  paired-none [] h = refl
  paired-none (v ∷ vs) h =
      let first = or_left (has_number_text v) (are_kept vs) h in
      let rest = or_right (has_number_text v) (are_kept vs) h in
      if-none (is_bad v) (paired vs) (behind v vs) (paired-none vs rest) (behind-none v vs first rest)

  behind-none : (key : Value) (vs : List Value) → has_number_text key ≡ false → are_kept vs ≡ false → are_kept_in (behind key vs) ≡ false
  behind-none key [] is h = refl
  behind-none key (v ∷ vs) is h =
      let first = or_left (has_number_text v) (are_kept vs) h in
      let rest = or_right (has_number_text v) (are_kept vs) h in
      or_from (has_number_text key) (has_number_text v || are_kept_in (paired vs)) is (or_from (has_number_text v) (are_kept_in (paired vs)) first (paired-none vs rest))

some-none : (o : Option Value) (vs : List Value) → is_kept o ≡ false → are_kept vs ≡ false → are_kept (and_some o vs) ≡ false
some-none None vs is h = h
some-none (Some v) vs is h = or_from (has_number_text v) (are_kept vs) is h

-- none among the events of a node, and those after it, is none in its value, and none among those after it
mutual
  node-none : (x : n.Node) (es : List Event) → is_kept_among (n.node_onto x es) ≡ false → (is_kept (node_value x) ≡ false) × (is_kept_among es ≡ false)
  node-none (n.alias id) es h = (refl, h)
  node-none (n.scalar text style id tag) es h =
      (or_left (has_number_text (scalar_value text style tag)) (is_kept_among es) h, or_right (has_number_text (scalar_value text style tag)) (is_kept_among es) h)
  node-none (n.list id xs) es h = nodes-none xs (e.SequenceEnd ∷ es) h
  node-none (n.dict id ps) es h = let found = pairs-none ps (e.MappingEnd ∷ es) h in (paired-none (values_in_pairs ps) found.0, found.1)

  nodes-none : (xs : n.Nodes) (es : List Event) → is_kept_among (n.nodes_onto xs es) ≡ false → (are_kept (values_in xs) ≡ false) × (is_kept_among es ≡ false)
  nodes-none n.no_nodes es h = (refl, h)
  nodes-none (n.node x xs) es h =
      let first = node-none x (n.nodes_onto xs es) h in
      let rest = nodes-none xs es first.1 in
      (some-none (node_value x) (values_in xs) first.0 rest.0, rest.1)

  pairs-none : (ps : n.Pairs) (es : List Event) → is_kept_among (n.pairs_onto ps es) ≡ false → (are_kept (values_in_pairs ps) ≡ false) × (is_kept_among es ≡ false)
  pairs-none n.no_pairs es h = (refl, h)
  pairs-none (n.pair x y ps) es h =
      let key = node-none x (n.node_onto y (n.pairs_onto ps es)) h in
      let value = node-none y (n.pairs_onto ps es) key.1 in
      let rest = pairs-none ps es value.1 in
      (some-none (node_value x) (and_some (node_value y) (values_in_pairs ps)) key.0 (some-none (node_value y) (values_in_pairs ps) value.0 rest.0), rest.1)

document-none : (o : Option Value) → is_kept o ≡ false → has_number_text (unwrap_or o bad_value) ≡ false
document-none None h = refl
document-none (Some v) h = h

otherwise : (is has : Bool) → (is ≡ false → has ≡ false) → has ≡ true → is ≡ true
otherwise true has none h = refl
otherwise false has none h = sym (none refl) ∙ h

pub kept-among : (x : n.Node) → has_number_text (document_value x) ≡ true → is_kept_among (n.stream_events (x ∷ [])) ≡ true
kept-among x h =
    otherwise (is_kept_among (n.stream_events (x ∷ []))) (has_number_text (document_value x))
    (λ none. document-none (node_value x) (node-none x (e.DocumentEnd ∷ e.StreamEnd ∷ []) none).0) h
