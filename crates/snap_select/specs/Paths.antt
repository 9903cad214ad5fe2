-- What a path is seen as.
use Rattle.std.specs.Prelude.{List}
use Rattle.snap_select.specs.declared.content_path.ContentPath.{ContentPath}
use Rattle.snap_select.specs.declared.path_item.PathItem.{PathItem}

-- the steps of a path
abbrev pub items_of : ContentPath → List PathItem
items_of path = path.items.now
