use Rattle.snap_emit_values.proofs.Trees.{array_seen, hash_seen}
use Rattle.snap_emit_values.proofs.node.Node.of_value.Goals as goal

pub returns-in-Array : goal.returns-in-Array
returns-in-Array c = array_seen _ _ _ c.in-Array.is c.as_slice.ensures

pub returns-in-Hash : goal.returns-in-Hash
returns-in-Hash c = hash_seen _ _ _ c.in-Hash.is c.as_slice-in-Hash.ensures
