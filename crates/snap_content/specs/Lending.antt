-- What a reference into a tree writes back.
use Rattle.std.specs.Prelude.{Some, ⊤, ◌≡◌}
use Rattle.std.specs.Borrow.{LendsSo, MutBor, Fml, RattleType}
use Rattle.std.specs.declared.boxed.Box.{Box}
use Rattle.std.specs.declared.alloc.Global.{Global}
use Rattle.std.specs.contracts.alloc.Global as global
use Rattle.std.specs.contracts.boxed.Box as box
use Rattle.std.specs.contracts.impls.GlobalAllocator.TheImpl.{ghosts}
use Rattle.snap_content.specs.Tree.{Tree}
use Rattle.snap_content.specs.View.{tree}
use Rattle.snap_content.specs.contracts.content.Content.{the_row}
use Rattle.snap_content.specs.declared.content.Content.{Content, Some as wrap, NewtypeStruct, NewtypeVariant, Some', NewtypeStruct', NewtypeVariant'}

-- once the borrow ends, the lender's tree is F of the tree that the borrow held last
abbrev pub LendsTree : MutBor Content → MutBor Content → (Tree → Tree) → Fml
LendsTree lender lent F = LendsSo the_row the_row lender (Some lent) (λ ends last. tree ends ≡ F (tree last)) (λ _. ⊤)

-- a `Box<Content>`, as the logic names it
abbrev pub box_row : RattleType
box_row = box.the_row the_row global.the_row ghosts

-- a wrapper with another box in it
abbrev pub with_wrapped : Content → Box Content Global → Content
with_wrapped (Some' place inner) b = wrap b
with_wrapped (NewtypeStruct' name place inner) b = NewtypeStruct name b
with_wrapped (NewtypeVariant' name index variant place inner) b = NewtypeVariant name index variant b
with_wrapped other b = other
