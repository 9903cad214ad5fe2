use Rattle.snap_content.proofs.Prelude.{sym, ◌∙◌, drop_all}
use Rattle.snap_content.proofs.Ordered.{struct_order, struct_variant_order, items_end, pairs_end, fields_end}
use Rattle.snap_content.proofs.+order.Goals as goal

pub content::Content::compare-returns-in-Equal-cmp-10 : goal.content::Content::compare-returns-in-Equal-cmp-10
content::Content::compare-returns-in-Equal-cmp-10 t c =
    struct_order _ _ _ _ _ _ _ _ c.in-Struct.is c.in-Struct-other.is c.cmp-in-Struct-other.ensures c.in-Equal-cmp-10.is
    c.compare-in-Equal-cmp-10.ensures

pub content::Content::compare-returns-in-Equal-cmp-13 : goal.content::Content::compare-returns-in-Equal-cmp-13
content::Content::compare-returns-in-Equal-cmp-13 t c =
    struct_variant_order _ _ _ _ _ _ _ _ _ _ _ _ _ _ c.in-StructVariant.is c.in-StructVariant-other.is c.cmp-in-StructVariant-other.ensures
    c.in-Equal-cmp-11.is c.cmp-in-Equal-cmp-11.ensures c.in-Equal-cmp-12.is c.cmp-in-Equal-cmp-12.ensures c.in-Equal-cmp-13.is
    c.compare-in-Equal-cmp-13.ensures

pub order::Items::compare-returns-else-is_empty : goal.order::Items::compare-returns-else-is_empty
order::Items::compare-returns-else-is_empty t c =
    items_end _ _ _ (drop_all _ _ c.loop-item-test.false) (sym c.is_empty.ensures ∙ c.if-is_empty.false) c.loop-item.invariant

pub order::Pairs::compare-returns-else-is_empty : goal.order::Pairs::compare-returns-else-is_empty
order::Pairs::compare-returns-else-is_empty t c =
    pairs_end _ _ _ (drop_all _ _ c.loop-key-test.false) (sym c.is_empty.ensures ∙ c.if-is_empty.false) c.loop-key.invariant

pub order::Fields::compare-returns-else-is_empty : goal.order::Fields::compare-returns-else-is_empty
order::Fields::compare-returns-else-is_empty t c =
    fields_end _ _ _ (drop_all _ _ c.loop-name-test.false) (sym c.is_empty.ensures ∙ c.if-is_empty.false) c.loop-name.invariant
