-- The trees that std's plain forms stand for.
use Rattle.std.specs.Prelude.{Option, None, Some, List, map}
use Rattle.snap_content.specs.Tree as t

-- none, or the tree of what is there in `some`
abbrev pub option_tree : {X : Type 0} → (X → t.Tree) → Option X → t.Tree
option_tree meaning None = t.none
option_tree meaning (Some x) = t.some (meaning x)

-- the sequence of the elements' trees
abbrev pub list_tree : {X : Type 0} → (X → t.Tree) → List X → t.Tree
list_tree meaning xs = t.seq (t.trees_of (map meaning xs))
