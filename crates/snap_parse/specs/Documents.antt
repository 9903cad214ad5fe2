-- The values of documents, from their nodes.
use Rattle.std.specs.Prelude.{ℕ, List, [], ◌∷◌, Option, None, Some, unwrap_or, if◌then◌else◌}
use Rattle.snap_scan_tokens.specs.declared.tag.Tag.{Tag}
use Rattle.snap_scan_tokens.specs.declared.token.TScalarStyle.{TScalarStyle}
use Rattle.snap_scan_tokens.specs.declared.token.TScalarStyle.TheVariants as style
use Rattle.snap_parse_events.specs.Nodes.{Node, alias, scalar, list, dict, Nodes, no_nodes, node, Pairs, no_pairs, pair}
use Rattle.snap_yaml.specs.Value.{Value, string, array, hash, bad_value, values_of, pairs_of}
use Rattle.snap_yaml.specs.Readers.{is_bad}
use Rattle.snap_yaml.specs.Typing.{typed_yaml, tagged}

-- what a plain scalar is, by its tag where it has one
abbrev pub plain_value : List ℕ → Option Tag → Value
plain_value text None = typed_yaml text
plain_value text (Some tag) = tagged tag.handle tag.suffix text

-- a scalar that isn't plain is a text, whatever its tag says
abbrev pub scalar_value : List ℕ → TScalarStyle → Option Tag → Value
scalar_value text style.Plain tag = plain_value text tag
scalar_value text _ tag = string text

-- of the values in a mapping, in order: a bad value where a key is due is dropped, each key takes the next, and a last key alone
-- is dropped
abbrev mutual
  pub paired : List Value → List (Value × Value)
  paired [] = []
  paired (v ∷ vs) = if is_bad v then paired vs else behind v vs

  pub behind : Value → List Value → List (Value × Value)
  behind key [] = []
  behind key (v ∷ vs) = (key, v) ∷ paired vs

-- a value, where there is one, before others
abbrev pub and_some : Option Value → List Value → List Value
and_some None vs = vs
and_some (Some v) vs = v ∷ vs

abbrev mutual
  -- an alias has no value
  pub node_value : Node → Option Value
  node_value (alias id) = None
  node_value (scalar text style id tag) = Some (scalar_value text style tag)
  node_value (list id ns) = Some (array (values_of (values_in ns)))
  node_value (dict id ps) = Some (hash (pairs_of (paired (values_in_pairs ps))))

  pub values_in : Nodes → List Value
  values_in no_nodes = []
  values_in (node n ns) = and_some (node_value n) (values_in ns)

  -- keys and values in turn, without the aliases
  pub values_in_pairs : Pairs → List Value
  values_in_pairs no_pairs = []
  values_in_pairs (pair n m ps) = and_some (node_value n) (and_some (node_value m) (values_in_pairs ps))

-- the value of a document: that of its node; a bad value where its node has none
abbrev pub document_value : Node → Value
document_value n = unwrap_or (node_value n) bad_value
