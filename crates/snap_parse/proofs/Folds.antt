-- The steps over a stream's events give the documents of its nodes.
use Rattle.snap_parse.proofs.Prelude.{◌≡◌, ◌||◌, is_alias, has_alias, Bool, true, false, if◌then◌else◌, Option, None, Some, List, [], ◌∷◌, ◌++◌, map, refl, sym, ◌∙◌, ap, append_assoc, append-nil, unwrap_or, Event, Node, alias, scalar, list, dict, Nodes, no_nodes, node, Pairs, no_pairs, pair, node_onto, nodes_onto, pairs_onto, documents_onto, stream_events, Value, hash, bad_value, is_bad, paired, behind, and_some, node_value, values_in, values_in_pairs, document_value, Held, in_list, in_dict, LoadState, start, put_in, put, closed, step, steps}
use Rattle.snap_parse_events.specs.declared.event.Event.TheVariants as e
use Rattle.snap_yaml.specs.Value.{pairs_of}

pub steps-more : (xs : List Event) (x : Event) (s : LoadState) → steps (xs ++ x ∷ []) s ≡ step x (steps xs s)
steps-more [] x s = refl
steps-more (y ∷ ys) x s = steps-more ys x (step y s)

or-turned : (a b c : Bool) → (a || (b || c)) ≡ (b || (a || c))
or-turned true true c = refl
or-turned true false c = refl
or-turned false b c = refl

-- an alias is among events where it is the last one, or among those before
pub alias-more : (xs : List Event) (x : Event) → has_alias (xs ++ x ∷ []) ≡ (is_alias x || has_alias xs)
alias-more [] x = refl
alias-more (y ∷ ys) x = ap (λ b. is_alias y || b) (alias-more ys x) ∙ or-turned (is_alias y) (is_alias x) (has_alias ys)

-- values go in one after the other
abbrev feed : List Value → Held → Held
feed [] h = h
feed (v ∷ vs) h = feed vs (put_in v h)

feed-list : (vs us : List Value) → feed vs (in_list us) ≡ in_list (us ++ vs)
feed-list [] us = ap in_list (sym (append-nil us))
feed-list (v ∷ vs) us = feed-list vs (us ++ v ∷ []) ∙ ap in_list (append_assoc us (v ∷ []) vs)

abbrev dict_with : List (Value × Value) → Value
dict_with ps = hash (pairs_of ps)

feed-if : (b : Bool) (v : Value) (vs : List Value) (ps : List (Value × Value)) → closed (feed vs (in_dict ps None)) ≡ dict_with (ps ++ paired vs)
    → closed (feed vs (in_dict ps (Some v))) ≡ dict_with (ps ++ behind v vs)
    → closed (feed vs (in_dict ps (if b then None else Some v))) ≡ dict_with (ps ++ (if b then paired vs else behind v vs))
feed-if true v vs ps h k = h
feed-if false v vs ps h k = k

mutual
  feed-key : (vs : List Value) (ps : List (Value × Value)) → closed (feed vs (in_dict ps None)) ≡ dict_with (ps ++ paired vs)
  feed-key [] ps = ap dict_with (sym (append-nil ps))
  feed-key (v ∷ vs) ps = feed-if (is_bad v) v vs ps (feed-key vs ps) (feed-value vs v ps)

  feed-value : (vs : List Value) (k : Value) (ps : List (Value × Value)) → closed (feed vs (in_dict ps (Some k))) ≡ dict_with (ps ++ behind k vs)
  feed-value [] k ps = ap dict_with (sym (append-nil ps))
  feed-value (v ∷ vs) k ps = feed-key vs (ps ++ (k, v) ∷ []) ∙ ap dict_with (append_assoc ps ((k, v) ∷ []) (paired vs))

abbrev at : List Value → Option Value → List Held → LoadState
at ds n hs = record { documents = ds; node = n; held = hs }

abbrev put_some : Option Value → LoadState → LoadState
put_some None s = s
put_some (Some v) s = put v s

-- one node, and then the others
one-steps : {S : LoadState} (o : Option Value) (more es : List Event) (vs : List Value) (h : Held) (ds : List Value) (n : Option Value) (hs : List Held)
    → S ≡ steps more (put_some o (at ds n (h ∷ hs))) → ((g : Held) → steps more (at ds n (g ∷ hs)) ≡ steps es (at ds n (feed vs g ∷ hs)))
    → S ≡ steps es (at ds n (feed (and_some o vs) h ∷ hs))
one-steps None more es vs h ds n hs a k = a ∙ k h
one-steps (Some v) more es vs h ds n hs a k = a ∙ k (put_in v h)

mutual
  node-steps : (x : Node) (es : List Event) (ds : List Value) (n : Option Value) (hs : List Held) → steps (node_onto x es) (at ds n hs) ≡ steps es (put_some (node_value x) (at ds n hs))
  node-steps (alias id) es ds n hs = refl
  node-steps (scalar text style id tag) es ds n hs = refl
  node-steps (list id xs) es ds n hs =
      let f : Held → LoadState = λ h. steps es (put (closed h) (at ds n hs)) in
      nodes-steps xs (e.SequenceEnd ∷ es) ds n (in_list []) hs ∙ ap f (feed-list (values_in xs) [])
  node-steps (dict id ps) es ds n hs =
      let f : Value → LoadState = λ v. steps es (put v (at ds n hs)) in
      pairs-steps ps (e.MappingEnd ∷ es) ds n (in_dict [] None) hs ∙ ap f (feed-key (values_in_pairs ps) [])

  nodes-steps : (xs : Nodes) (es : List Event) (ds : List Value) (n : Option Value) (h : Held) (hs : List Held) → steps (nodes_onto xs es) (at ds n (h ∷ hs)) ≡ steps es (at ds n (feed (values_in xs) h ∷ hs))
  nodes-steps no_nodes es ds n h hs = refl
  nodes-steps (node x xs) es ds n h hs =
      one-steps (node_value x) (nodes_onto xs es) es (values_in xs) h ds n hs (node-steps x (nodes_onto xs es) ds n (h ∷ hs)) (λ g. nodes-steps xs es ds n g hs)

  pairs-steps : (ps : Pairs) (es : List Event) (ds : List Value) (n : Option Value) (h : Held) (hs : List Held) → steps (pairs_onto ps es) (at ds n (h ∷ hs)) ≡ steps es (at ds n (feed (values_in_pairs ps) h ∷ hs))
  pairs-steps no_pairs es ds n h hs = refl
  pairs-steps (pair x y ps) es ds n h hs =
      one-steps (node_value x) (node_onto y (pairs_onto ps es)) es (and_some (node_value y) (values_in_pairs ps)) h ds n hs (node-steps x (node_onto y (pairs_onto ps es)) ds n (h ∷ hs))
      (λ g. one-steps (node_value y) (pairs_onto ps es) es (values_in_pairs ps) g ds n hs (node-steps y (pairs_onto ps es) ds n (g ∷ hs)) (λ k. pairs-steps ps es ds n k hs))

put-top : (o : Option Value) (es : List Event) (ds : List Value) → steps (e.DocumentEnd ∷ es) (put_some o (at ds None [])) ≡ steps es (at (ds ++ unwrap_or o bad_value ∷ []) None [])
put-top None es ds = refl
put-top (Some v) es ds = refl

documents-steps : (xs : List Node) (es : List Event) (ds : List Value) → steps (documents_onto xs es) (at ds None []) ≡ steps es (at (ds ++ map document_value xs) None [])
documents-steps [] es ds = let f : List Value → LoadState = λ v. steps es (at v None []) in ap f (sym (append-nil ds))
documents-steps (x ∷ xs) es ds =
    let f : List Value → LoadState = λ v. steps es (at v None []) in
    node-steps x (e.DocumentEnd ∷ documents_onto xs es) ds None [] ∙ put-top (node_value x) (documents_onto xs es) ds ∙ documents-steps xs es (ds ++ document_value x ∷ [])
    ∙ ap f (append_assoc ds (document_value x ∷ []) (map document_value xs))

-- the loader's fold gives each document's value
pub stream-steps : (xs : List Node) → (steps (stream_events xs) start).documents ≡ map document_value xs
stream-steps xs =
    let f : LoadState → List Value = λ v. v.documents in
    ap f (documents-steps xs (e.StreamEnd ∷ []) [])
