-- Documents as trees, with anchors and aliases, and their events.
use Rattle.std.specs.Prelude.{ℕ, List, [], ◌∷◌, Option}
use Rattle.snap_scan_tokens.specs.declared.token.TScalarStyle.{TScalarStyle}
use Rattle.snap_scan_tokens.specs.declared.tag.Tag.{Tag}
use Rattle.snap_parse_events.specs.declared.event.Event.{Event}
use Rattle.snap_parse_events.specs.declared.event.Event.TheVariants as e

-- a node of a document: an alias by its number, a scalar, a list of nodes, or a dict of pairs of nodes, with anchors
mutual
  pub data Node : Type 0 where
    alias : ℕ → Node
    -- the text, how it is written, its anchor and its tag
    scalar : List ℕ → TScalarStyle → ℕ → Option Tag → Node
    list : ℕ → Nodes → Node
    dict : ℕ → Pairs → Node

  pub data Nodes : Type 0 where
    no_nodes : Nodes
    node : Node → Nodes → Nodes

  pub data Pairs : Type 0 where
    no_pairs : Pairs
    pair : Node → Node → Pairs → Pairs

abbrev mutual
  -- the events of a node, and then others
  pub node_onto : Node → List Event → List Event
  node_onto (alias id) es = e.Alias id ∷ es
  node_onto (scalar text style id tag) es = e.Scalar text style id tag ∷ es
  node_onto (list id ns) es = e.SequenceStart id ∷ nodes_onto ns (e.SequenceEnd ∷ es)
  node_onto (dict id ps) es = e.MappingStart id ∷ pairs_onto ps (e.MappingEnd ∷ es)

  pub nodes_onto : Nodes → List Event → List Event
  nodes_onto no_nodes es = es
  nodes_onto (node n ns) es = node_onto n (nodes_onto ns es)

  pub pairs_onto : Pairs → List Event → List Event
  pairs_onto no_pairs es = es
  pairs_onto (pair n m ps) es = node_onto n (node_onto m (pairs_onto ps es))

-- the events of documents of one node each, and then others
abbrev pub documents_onto : List Node → List Event → List Event
documents_onto [] es = es
documents_onto (d ∷ ds) es = e.DocumentStart ∷ node_onto d (e.DocumentEnd ∷ documents_onto ds es)

-- the events of a whole stream
abbrev pub stream_events : List Node → List Event
stream_events ds = e.StreamStart ∷ documents_onto ds (e.StreamEnd ∷ [])
