-- What is left of a tree that something was to be taken out of.
use Rattle.std.specs.Prelude.{◌≡◌, Option, None, Some}
use Rattle.snap_content.specs.Tree as t
use Rattle.snap_content.specs.View.{tree}
use Rattle.snap_content.specs.declared.content.Content.{Content}

-- what was taken out is the part that was there, and the tree is the one that was asked for; where nothing was, there is no such tree,
-- and the tree is as it was
abbrev pub IsRemoved : Option t.Tree → Option t.Tree → t.Tree → t.Tree → Option Content → Type 0
IsRemoved asked part old new (Some taken) = (asked ≡ Some new) × (part ≡ Some (tree taken))
IsRemoved asked part old new None = (asked ≡ None) × (new ≡ old)
