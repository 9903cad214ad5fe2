-- What is left of a tree, where a value was to be set in it.
use Rattle.std.specs.Prelude.{◌≡◌, Bool, true, false, Option, None, Some, Result, Ok, Err}
use Rattle.snap_content.specs.Tree as t

-- whether it was set: then the tree is the one that was asked for, and else there is none, and the tree is as it was; as it is after
-- an error
abbrev pub IsSet : {E : Type 0} → Option t.Tree → t.Tree → t.Tree → Result Bool E → Type 0
IsSet asked old new (Ok true) = asked ≡ Some new
IsSet asked old new (Ok false) = (asked ≡ None) × (new ≡ old)
IsSet asked old new (Err e) = new ≡ old
