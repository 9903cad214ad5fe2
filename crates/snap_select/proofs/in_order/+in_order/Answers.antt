use Rattle.snap_select.proofs.ListsInOrder.{seq_in_order, map_in_order, struct_in_order, struct_variant_in_order}
use Rattle.snap_select.proofs.in_order.+in_order.Goals as goal

pub in_order-returns-in_ok-items_in_order-in-Seq :
    goal.in_order-returns-in_ok-items_in_order-in-Seq
in_order-returns-in_ok-items_in_order-in-Seq t c = seq_in_order _ _ _ c.in-Seq.is c.in_ok-items_in_order-in-Seq.ensures

pub in_order-returns-in_ok-pairs_in_order-in-Map :
    goal.in_order-returns-in_ok-pairs_in_order-in-Map
in_order-returns-in_ok-pairs_in_order-in-Map t c = map_in_order _ _ _ c.in-Map.is c.in_ok-pairs_in_order-in-Map.ensures

pub in_order-returns-in_ok-fields_in_order-in-Struct :
    goal.in_order-returns-in_ok-fields_in_order-in-Struct
in_order-returns-in_ok-fields_in_order-in-Struct t c = struct_in_order _ _ _ _ c.in-Struct.is c.in_ok-fields_in_order-in-Struct.ensures

pub in_order-returns-in_ok-fields-in-StructVariant :
    goal.in_order-returns-in_ok-fields-in-StructVariant
in_order-returns-in_ok-fields-in-StructVariant t c = struct_variant_in_order _ _ _ _ _ _ c.in-StructVariant.is c.in_ok-fields-in-StructVariant.ensures
