use Rattle.snap_emit_values.proofs.Prelude.{◌∙◌, place}
use Rattle.snap_emit_values.proofs.Trees.{array_ends, hash_ends, hash_empty}
use Rattle.snap_emit_values.proofs.ending.+ending.Goals as goal

pub ends_in_block-returns-in-Some : goal.ends_in_block-returns-in-Some
ends_in_block-returns-in-Some t c =
    c.child_ends_in_block.ensures
    ∙ array_ends (place c.args.blocks) c.args.tree.now c.in-Array.items c.as_slice.result.now c.in-Some.field-0-1.now c.in-Some.item.now c.in-Array.is
    c.as_slice.ensures c.in-Some.ensures.cases.0

pub ends_in_block-returns-in-None-split_last : goal.ends_in_block-returns-in-None-split_last
ends_in_block-returns-in-None-split_last t c =
    hash_empty (place c.args.blocks) c.args.tree.now c.in-Hash.pairs c.as_slice-in-Hash.result.now c.in-Hash.is c.as_slice-in-Hash.ensures
    c.in-None-split_last.ensures.cases

pub ends_in_block-returns-in-Some-split_last : goal.ends_in_block-returns-in-Some-split_last
ends_in_block-returns-in-Some-split_last t c =
    c.child_ends_in_block-in-Some-split_last.ensures
    ∙ hash_ends (place c.args.blocks) c.args.tree.now c.in-Hash.pairs c.as_slice-in-Hash.result.now c.in-Some-split_last.field-0-1.now
    c.in-Some-split_last.field-0-0.now c.in-Hash.is c.as_slice-in-Hash.ensures c.in-Some-split_last.ensures.cases.0
