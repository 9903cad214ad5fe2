-- What a selector is seen as.
use Rattle.snap_select.specs.Parts.{Parts}
use Rattle.snap_select.specs.declared.selector.Selector.{Selector}

-- the parts of a selector, as they are seen
abbrev pub parts_of : Selector → Parts
parts_of selector = selector.parts.items
