-- What a list is seen as.
use Rattle.std.specs.Prelude as std
use Rattle.snap_content.specs.declared.lists.List.{List}

-- the items of a list type
abbrev pub items_of : {T : Type 0} → List T → std.List T
items_of xs = xs.items.items
