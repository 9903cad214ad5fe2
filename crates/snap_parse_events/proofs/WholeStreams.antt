-- Events that may come, up to a stream's end, are those of documents.
use Rattle.snap_parse_events.proofs.Prelude.{◌≡◌, true, Option, None, Some, List, [], ◌∷◌, ◌++◌, refl, sym, ◌∙◌, ap, subst, not, option_and_then, list_all, and_parts, Event, Open, due, given, sequence, key, value, Meaning, ahead, open_in, ended, given_in, leaf, start, after, after_all, is_stream_end}
use Rattle.snap_parse_events.specs.declared.event.Event.TheVariants as e
use Rattle.snap_parse_events.specs.Nodes.{stream_events, Node, alias, scalar, list, dict, Nodes, no_nodes, node, Pairs, no_pairs, pair, node_onto, nodes_onto, pairs_onto, documents_onto}
use Rattle.snap_parse_events.specs.Streams.{HasNoEnd, IsStream, AreDocuments, AreFront}

-- these events end what is open, and the stream
abbrev Completes : List Open → List Event → Type 0
Completes [] es = (ds : List Node) × (es ≡ documents_onto ds (e.StreamEnd ∷ []))
Completes (due ∷ os) es = (n : Node) × (rest : List Event) × (es ≡ node_onto n (e.DocumentEnd ∷ rest)) × Completes os rest
Completes (given ∷ os) es = (rest : List Event) × (es ≡ e.DocumentEnd ∷ rest) × Completes os rest
Completes (sequence ∷ os) es = (ns : Nodes) × (rest : List Event) × (es ≡ nodes_onto ns (e.SequenceEnd ∷ rest)) × Completes os rest
Completes (key ∷ os) es = (ps : Pairs) × (rest : List Event) × (es ≡ pairs_onto ps (e.MappingEnd ∷ rest)) × Completes os rest
Completes (value ∷ os) es = (n : Node) × (ps : Pairs) × (rest : List Event) × (es ≡ node_onto n (pairs_onto ps (e.MappingEnd ∷ rest))) × Completes os rest

abbrev CompletesAt : Option (List Open) → List Event → Type 0
CompletesAt None es = ⊥
CompletesAt (Some os) es = Completes os es

abbrev CompletesIn : Option Meaning → List Event → Type 0
CompletesIn None es = ⊥
CompletesIn (Some ahead) es = Unit {0}
CompletesIn (Some (open_in os)) es = Completes os es
CompletesIn (Some ended) es = Unit {0}

-- a node in front
add-node : (n : Node) (os : List Open) (es : List Event) → CompletesAt (given_in os) es → Completes os (node_onto n es)
add-node n [] es c = absurd c
add-node n (due ∷ os) es c = let f : List Event → List Event = λ v. node_onto n v in (n, c.0, ap f c.1, c.2)
add-node n (given ∷ os) es c = absurd c
add-node n (sequence ∷ os) es c = let f : List Event → List Event = λ v. node_onto n v in (node n c.0, c.1, ap f c.2, c.3)
add-node n (key ∷ os) es c = let f : List Event → List Event = λ v. node_onto n v in (pair n c.0 c.1, c.2, ap f c.3, c.4)
add-node n (value ∷ os) es c = let f : List Event → List Event = λ v. node_onto n v in (n, c.0, c.1, ap f c.2, c.3)

leaf-at : (o : Option (List Open)) (es : List Event) → CompletesIn (leaf o) es → CompletesAt o es
leaf-at None es c = absurd c
leaf-at (Some os) es c = c

-- a list, once its items and what follows are known
add-list : (o : Option (List Open)) (es : List Event) → CompletesIn (start sequence o) es → (ns : Nodes) × (rest : List Event) × (es ≡ nodes_onto ns (e.SequenceEnd ∷ rest)) × CompletesAt o rest
add-list None es c = absurd c
add-list (Some os) es c = c

add-dict : (o : Option (List Open)) (es : List Event) → CompletesIn (start key o) es → (ps : Pairs) × (rest : List Event) × (es ≡ pairs_onto ps (e.MappingEnd ∷ rest)) × CompletesAt o rest
add-dict None es c = absurd c
add-dict (Some os) es c = c

-- one event in front
step-completes : (x : Event) (os : List Open) (es : List Event) → not (is_stream_end x) ≡ true → CompletesIn (after x (open_in os)) es → Completes os (x ∷ es)
step-completes e.StreamStart os es go c = absurd c
step-completes e.StreamEnd os es go c = absurd (cc)
step-completes e.DocumentStart [] es go c =
    let more = c.3 in
    let f : List Event → List Event = λ v. e.DocumentStart ∷ node_onto c.0 (e.DocumentEnd ∷ v) in
    let g : List Event → List Event = λ v. e.DocumentStart ∷ v in
    (c.0 ∷ more.0, ap g c.2 ∙ ap f more.1)
step-completes e.DocumentStart (o ∷ os) es go c = absurd c
step-completes e.DocumentEnd [] es go c = absurd c
step-completes e.DocumentEnd (due ∷ os) es go c = absurd c
step-completes e.DocumentEnd (given ∷ []) es go c = (es, refl, c)
step-completes e.DocumentEnd (given ∷ (o ∷ os)) es go c = absurd c
step-completes e.DocumentEnd (sequence ∷ os) es go c = absurd c
step-completes e.DocumentEnd (key ∷ os) es go c = absurd c
step-completes e.DocumentEnd (value ∷ os) es go c = absurd c
step-completes (e.Alias id) os es go c = add-node (alias id) os es (leaf-at (given_in os) es c)
step-completes (e.Scalar text style id tag) os es go c = add-node (scalar text style id tag) os es (leaf-at (given_in os) es c)
step-completes (e.SequenceStart id) os es go c =
    let k = add-list (given_in os) es c in
    let P : List Event → Type 0 = λ v. Completes os (e.SequenceStart id ∷ v) in
    subst P (sym k.2) (add-node (list id k.0) os k.1 k.3)
step-completes e.SequenceEnd [] es go c = absurd c
step-completes e.SequenceEnd (due ∷ os) es go c = absurd c
step-completes e.SequenceEnd (given ∷ os) es go c = absurd c
step-completes e.SequenceEnd (sequence ∷ os) es go c = (no_nodes, es, refl, c)
step-completes e.SequenceEnd (key ∷ os) es go c = absurd c
step-completes e.SequenceEnd (value ∷ os) es go c = absurd c
step-completes (e.MappingStart id) os es go c =
    let k = add-dict (given_in os) es c in
    let P : List Event → Type 0 = λ v. Completes os (e.MappingStart id ∷ v) in
    subst P (sym k.2) (add-node (dict id k.0) os k.1 k.3)
step-completes e.MappingEnd [] es go c = absurd c
step-completes e.MappingEnd (due ∷ os) es go c = absurd c
step-completes e.MappingEnd (given ∷ os) es go c = absurd c
step-completes e.MappingEnd (sequence ∷ os) es go c = absurd c
step-completes e.MappingEnd (key ∷ os) es go c = (no_pairs, es, refl, c)
step-completes e.MappingEnd (value ∷ os) es go c = absurd c

-- the stream's end alone
end-completes : (os : List Open) (n : Meaning) → after_all (e.StreamEnd ∷ []) (open_in os) ≡ Some n → Completes os (e.StreamEnd ∷ [])
end-completes [] n h = ([], refl)
end-completes (o ∷ os) n h = absurd (cc)

rest-completes : (m : Option Meaning) (es : List Event) (n : Meaning) → ((os : List Open) → after_all es (open_in os) ≡ Some n → Completes os es) → option_and_then (after_all es) m ≡ Some n → CompletesIn m es
rest-completes None es n f h = absurd (cc)
rest-completes (Some ahead) es n f h = tt
rest-completes (Some (open_in os)) es n f h = f os h
rest-completes (Some ended) es n f h = tt

completes : (front : List Event) (os : List Open) (n : Meaning) → HasNoEnd front → after_all (front ++ e.StreamEnd ∷ []) (open_in os) ≡ Some n → Completes os (front ++ e.StreamEnd ∷ [])
completes [] os n go h = end-completes os n h
completes (x ∷ front) os n go h =
    let k = and_parts (not (is_stream_end x)) (list_all (λ event. not (is_stream_end event)) front) go in
    step-completes x os (front ++ e.StreamEnd ∷ []) k.0
    (rest-completes (after x (open_in os)) (front ++ e.StreamEnd ∷ []) n (λ ps hp. completes front ps n k.1 hp) h)

-- what may come from the stream's start to its end is a stream of documents
whole : (front : List Event) (n : Meaning) → HasNoEnd front → after_all (front ++ e.StreamEnd ∷ []) ahead ≡ Some n → AreDocuments (front ++ e.StreamEnd ∷ [])
whole [] n go h = absurd (cc)
whole (e.StreamStart ∷ front) n go h =
    let k = and_parts true (list_all (λ event. not (is_stream_end event)) front) go in
    let c = completes front [] n k.1 h in
    let f : List Event → List Event = λ v. e.StreamStart ∷ v in
    (c.0, ap f c.1)
whole (e.StreamEnd ∷ front) n go h = absurd (cc)
whole (e.DocumentStart ∷ front) n go h = absurd (cc)
whole (e.DocumentEnd ∷ front) n go h = absurd (cc)
whole ((e.Alias id) ∷ front) n go h = absurd (cc)
whole ((e.Scalar text style id tag) ∷ front) n go h = absurd (cc)
whole ((e.SequenceStart id) ∷ front) n go h = absurd (cc)
whole (e.SequenceEnd ∷ front) n go h = absurd (cc)
whole ((e.MappingStart id) ∷ front) n go h = absurd (cc)
whole (e.MappingEnd ∷ front) n go h = absurd (cc)

pub whole-streams : (events : List Event) → IsStream events → AreDocuments events
whole-streams events s =
    let f : List Event → Option Meaning = λ v. after_all v ahead in
    let d = whole s.front ended s.first (ap f (sym s.split) ∙ s.allowed) in
    (d.0, s.split ∙ d.1)

-- whatever is open can be ended
ending : (os : List Open) → (es : List Event) × Completes os es
ending [] = (e.StreamEnd ∷ [], ([], refl))
ending (due ∷ os) = let k = ending os in (node_onto (alias 0) (e.DocumentEnd ∷ k.0), (alias 0, k.0, refl, k.1))
ending (given ∷ os) = let k = ending os in (e.DocumentEnd ∷ k.0, (k.0, refl, k.1))
ending (sequence ∷ os) = let k = ending os in (e.SequenceEnd ∷ k.0, (no_nodes, k.0, refl, k.1))
ending (key ∷ os) = let k = ending os in (e.MappingEnd ∷ k.0, (no_pairs, k.0, refl, k.1))
ending (value ∷ os) = let k = ending os in (node_onto (alias 0) (e.MappingEnd ∷ k.0), (alias 0, no_pairs, k.0, refl, k.1))

abbrev Front : List Open → List Event → Type 0
Front os front = (rest : List Event) × Completes os (front ++ rest)

-- one event in front, after which something is open
step-front : (x : Event) (os : List Open) (front : List Event) (m : Option Meaning) (n : Meaning) → not (is_stream_end x) ≡ true → after x (open_in os) ≡ m
    → ((ps : List Open) → after_all front (open_in ps) ≡ Some n → Front ps front) → option_and_then (after_all front) m ≡ Some n → Front os (x ∷ front)
step-front x os front None n go is f h = absurd (cc)
step-front x os front (Some ahead) n go is f h =
    let P : Option Meaning → Type 0 = λ v. CompletesIn v (front ++ []) in
    ([], step-completes x os (front ++ []) go (subst P (sym is) tt))
step-front x os front (Some (open_in ps)) n go is f h =
    let k = f ps h in
    let P : Option Meaning → Type 0 = λ v. CompletesIn v (front ++ k.0) in
    (k.0, step-completes x os (front ++ k.0) go (subst P (sym is) k.1))
step-front x os front (Some ended) n go is f h =
    let P : Option Meaning → Type 0 = λ v. CompletesIn v (front ++ []) in
    ([], step-completes x os (front ++ []) go (subst P (sym is) tt))

fronts : (front : List Event) (os : List Open) (n : Meaning) → HasNoEnd front → after_all front (open_in os) ≡ Some n → Front os front
fronts [] os n go h = ending os
fronts (x ∷ front) os n go h =
    let k = and_parts (not (is_stream_end x)) (list_all (λ event. not (is_stream_end event)) front) go in
    step-front x os front (after x (open_in os)) n k.0 refl (λ ps hp. fronts front ps n k.1 hp) h

-- what may come from the stream's start is the front of a stream of documents
pub whole-fronts : (events : List Event) (n : Meaning) → HasNoEnd events → after_all events ahead ≡ Some n → AreFront events
whole-fronts [] n go h = (stream_events [], ([], refl))
whole-fronts (e.StreamStart ∷ front) n go h =
    let k = and_parts true (list_all (λ event. not (is_stream_end event)) front) go in
    let c = fronts front [] n k.1 h in
    let f : List Event → List Event = λ v. e.StreamStart ∷ v in
    (c.0, (c.1.0, ap f c.1.1))
whole-fronts (e.StreamEnd ∷ front) n go h = absurd (cc)
whole-fronts (e.DocumentStart ∷ front) n go h = absurd (cc)
whole-fronts (e.DocumentEnd ∷ front) n go h = absurd (cc)
whole-fronts ((e.Alias id) ∷ front) n go h = absurd (cc)
whole-fronts ((e.Scalar text style id tag) ∷ front) n go h = absurd (cc)
whole-fronts ((e.SequenceStart id) ∷ front) n go h = absurd (cc)
whole-fronts (e.SequenceEnd ∷ front) n go h = absurd (cc)
whole-fronts ((e.MappingStart id) ∷ front) n go h = absurd (cc)
whole-fronts (e.MappingEnd ∷ front) n go h = absurd (cc)
