use Rattle.snap_content.proofs.ListOrder.{items_order, pairs_order, fields_order}
use Rattle.snap_content.proofs.laws.lists_compare_as_their_trees.Goals as goal

pub returns-clause-items : goal.returns-clause-items
returns-clause-items c = items_order

pub returns-clause-pairs : goal.returns-clause-pairs
returns-clause-pairs c = pairs_order

pub returns-clause-fields : goal.returns-clause-fields
returns-clause-fields c = fields_order
