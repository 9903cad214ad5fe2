-- The order of a `Content`: that of the tree that it means.
use Rattle.std.specs.declared.cmp.Ordering.{Ordering}
use Rattle.snap_content.specs.declared.content.Content.{Content}
use Rattle.snap_content.specs.View.{tree}
use Rattle.snap_content.specs.Orders.{tree_cmp}

-- how what two values mean compares in the order of trees
abbrev pub content_cmp : Content → Content → Ordering
content_cmp x y = tree_cmp (tree x) (tree y)
