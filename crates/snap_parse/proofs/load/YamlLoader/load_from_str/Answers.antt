use Rattle.snap_parse.proofs.Prelude.{List, [], ◌∷◌, map, sym, ap, ◌∙◌, subst, chars, Value, json_node, node_of, AreLoaded}
use Rattle.snap_yaml.specs.View.{value_of, array_list, Array}
use Rattle.snap_parse.specs.LaidEvents.{layout_tree}
use Rattle.snap_parse.specs.TreeNodes.{tree_node}
use Rattle.snap_parse.proofs.LaidValues.{laid-value}
use Rattle.snap_parse.proofs.Loading.{printed-nodes, dumped-nodes, json-nodes, laid-nodes}
use Rattle.snap_parse.proofs.load.YamlLoader.load_from_str.Goals as goal

pub returns-in-Ok-clause-documents : goal.returns-in-Ok-clause-documents
returns-in-Ok-clause-documents c =
    let P : Array → Type 0 = λ list. AreLoaded (map value_of (array_list list)) in subst P (sym c.into_values.ensures) c.in-Ok.ensures.documents.loaded

pub returns-in-Ok-clause-printed : goal.returns-in-Ok-clause-printed
returns-in-Ok-clause-printed c =
    λ w p is.
    let f : Array → List Value = λ list. map value_of (array_list list) in
    ap f c.into_values.ensures ∙ (c.in-Ok.ensures.nodes (node_of w p ∷ []) (printed-nodes (chars c.args.source.now) w p is)).are

pub returns-in-Err-clause-memory : goal.returns-in-Err-clause-memory
returns-in-Err-clause-memory c = λ w p is. c.in-Err.ensures.memory (node_of w p ∷ []) (printed-nodes (chars c.args.source.now) w p is)

pub returns-in-Ok-clause-dumped : goal.returns-in-Ok-clause-dumped
returns-in-Ok-clause-dumped c =
    λ w p free is.
    let f : Array → List Value = λ list. map value_of (array_list list) in
    ap f c.into_values.ensures ∙ (c.in-Ok.ensures.nodes (node_of w p ∷ []) (dumped-nodes (chars c.args.source.now) w p free is)).are

pub returns-in-Err-clause-dumped_memory : goal.returns-in-Err-clause-dumped_memory
returns-in-Err-clause-dumped_memory c = λ w p free is. c.in-Err.ensures.memory (node_of w p ∷ []) (dumped-nodes (chars c.args.source.now) w p free is)

pub returns-in-Ok-clause-json : goal.returns-in-Ok-clause-json
returns-in-Ok-clause-json c =
    λ p is.
    let f : Array → List Value = λ list. map value_of (array_list list) in
    ap f c.into_values.ensures ∙ (c.in-Ok.ensures.nodes (json_node p ∷ []) (json-nodes (chars c.args.source.now) p is)).are

pub returns-in-Err-clause-json_memory : goal.returns-in-Err-clause-json_memory
returns-in-Err-clause-json_memory c = λ p is. c.in-Err.ensures.memory (json_node p ∷ []) (json-nodes (chars c.args.source.now) p is)

pub returns-in-Ok-clause-laid : goal.returns-in-Ok-clause-laid
returns-in-Ok-clause-laid c =
    λ d fits is.
    let f : Array → List Value = λ list. map value_of (array_list list) in
    let alone : Value → List Value = λ v. v ∷ [] in
    ap f c.into_values.ensures ∙ (c.in-Ok.ensures.nodes (tree_node (layout_tree d.tree) ∷ []) (laid-nodes (chars c.args.source.now) d fits is)).are ∙ ap alone (laid-value d.tree)

pub returns-in-Err-clause-laid_memory : goal.returns-in-Err-clause-laid_memory
returns-in-Err-clause-laid_memory c = λ d fits is. c.in-Err.ensures.memory (tree_node (layout_tree d.tree) ∷ []) (laid-nodes (chars c.args.source.now) d fits is)
