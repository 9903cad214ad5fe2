-- The value of the node of a JSON text.
use Rattle.snap_parse.proofs.Prelude.{◌≡◌, true, false, Option, Some, refl, ap, ◌∙◌, IsWithin, AreWithin, AreEntriesWithin, json_node, json_nodes, json_pairs, paired, node_value, values_in, values_in_pairs, document_value, read_value, read_values, read_pairs}
use Rattle.snap_content.specs.Plain as p
use Rattle.snap_yaml.specs.Value as v
use Rattle.snap_parse.proofs.PrintedValues.{number-read, never-bad, pair-read, item-read, value-of}

mutual
  value-read : (x : p.Plain) → IsWithin x → node_value (json_node x) ≡ Some (read_value x)
  value-read p.null within = refl
  value-read (p.bool true) within = refl
  value-read (p.bool false) within = refl
  value-read (p.int z) within = ap Some (number-read z within)
  value-read (p.text s) within = refl
  value-read (p.list items) within = let f : v.Values → Option v.Value = λ u. Some (v.array u) in ap f (values-read items within)
  value-read (p.dict entries) within = let f : v.ValuePairs → Option v.Value = λ u. Some (v.hash u) in ap f (pairs-read entries within)

  values-read : (xs : p.Plains) → AreWithin xs → v.values_of (values_in (json_nodes xs)) ≡ read_values xs
  values-read p.no_items within = refl
  values-read (p.item x xs) within =
      let f : v.Values → v.Values = λ u. v.value (read_value x) u in
      item-read (node_value (json_node x)) (read_value x) (values_in (json_nodes xs)) (value-read x within.0) ∙ ap f (values-read xs within.1)

  pairs-read : (es : p.Entries) → AreEntriesWithin es → v.pairs_of (paired (values_in_pairs (json_pairs es))) ≡ read_pairs es
  pairs-read p.no_entries within = refl
  pairs-read (p.entry k x es) within =
      let f : v.ValuePairs → v.ValuePairs = λ u. v.pair (read_value k) (read_value x) u in
      pair-read (node_value (json_node k)) (node_value (json_node x)) (read_value k) (read_value x) (values_in_pairs (json_pairs es)) (value-read k within.0) (value-read x within.1.0) (never-bad k)
      ∙ ap f (pairs-read es within.1.1)

pub json-read : (x : p.Plain) → IsWithin x → document_value (json_node x) ≡ read_value x
json-read x within = value-of (node_value (json_node x)) (read_value x) (value-read x within)
