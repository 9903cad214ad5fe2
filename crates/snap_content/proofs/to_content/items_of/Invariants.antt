use Rattle.snap_content.proofs.Prelude.{◌≡◌, take, map, tree, item_list}
use Rattle.snap_content.proofs.to_content.items_of.Given as goal

-- the trees of the values so far
abbrev pub invariant-loop-value : goal.invariant-loop-value
invariant-loop-value g l = map tree (item_list l.items) ≡ map g.T.ToContent.meaning (take l.value-index l.fn.values)
