use Rattle.snap_emit_values.proofs.Prelude.{sym, ap, ◌∙◌, eqb, item_shapes, entry_shapes, node_shape, is_flat}
use Rattle.snap_emit_values.proofs.Trees.{flat_list, flat_dict}
use Rattle.snap_emit_values.proofs.emit.is_one_line.Goals as goal

pub returns-in-List : goal.returns-in-List
returns-in-List c =
    ap (λ n. eqb n 0) c.len.ensures ∙ sym (flat_list (item_shapes c.in-List.items)) ∙ sym (ap (λ n. is_flat (node_shape n)) c.in-List.is)

pub returns-in-Dict : goal.returns-in-Dict
returns-in-Dict c =
    ap (λ n. eqb n 0) c.len-in-Dict.ensures ∙ sym (flat_dict (entry_shapes c.in-Dict.entries)) ∙ sym (ap (λ n. is_flat (node_shape n)) c.in-Dict.is)
