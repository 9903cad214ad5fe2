-- The calls of a visitor on a walk, in order.
use Rattle.std.specs.Prelude.{◌≡◌, ◌≤◌, ℕ, Bool, true, false, List}
use Rattle.std.specs.Fn.{Called}
use denote.Param.Members.{Mut}
use denote.Ref.{MutBor}
use Rattle.snap_content.specs.Tree as t
use Rattle.snap_content.specs.View.{tree}
use Rattle.snap_content.specs.Count.{count, is_leaf}
use Rattle.snap_content.specs.declared.content.Content.{Content}

-- a call of the visitor f on a node whose tree is x may answer r, and leave the tree y and the visitor f'
pub record Calls {F : Type 0} (g : Mut F (MutBor Content × Unit {0}) (Bool × (MutBor Content × Unit {0}))) (f : F) (x : t.Tree) (r : Bool) (y : t.Tree) (f' : F) : Type 0 where
  pub shown : MutBor Content
  pub left : MutBor Content
  pub shows : tree shown.now ≡ x
  pub leaves : tree left.now ≡ y
  pub called : Called g f (shown, tt) (r, (left, tt)) f'

-- no call leaves a node with more nodes in it
pub record NeverGrows {F : Type 0} (g : Mut F (MutBor Content × Unit {0}) (Bool × (MutBor Content × Unit {0}))) : Type 0 where
  pub at : (f : F) (x : t.Tree) (r : Bool) (y : t.Tree) (f' : F) → Calls g f x r y f' → count y ≤ count x

mutual
  -- the visitor is called on the node, and goes into what it leaves where it answers true
  pub data Walked {F : Type 0} (step : F → t.Tree → Bool → t.Tree → F → Type 0) : F → t.Tree → t.Tree → F → Type 0 where
    stays : {f g : F} {x y : t.Tree} → step f x false y g → Walked step f x y g
    enters : {f g h : F} {x y z : t.Tree} → step f x true y g → WalkedInside step g y z h → Walked step f x z h

  -- its children, one after another
  pub data WalkedInside {F : Type 0} (step : F → t.Tree → Bool → t.Tree → F → Type 0) : F → t.Tree → t.Tree → F → Type 0 where
    in_leaf : {f : F} {x : t.Tree} → is_leaf x ≡ true → WalkedInside step f x x f
    in_some : {f g : F} {x y : t.Tree} → Walked step f x y g → WalkedInside step f (t.some x) (t.some y) g
    in_newtype_struct : {f g : F} {name : List ℕ} {x y : t.Tree} → Walked step f x y g → WalkedInside step f (t.newtype_struct name x) (t.newtype_struct name y) g
    in_newtype_variant : {f g : F} {name : List ℕ} {index : ℕ} {variant : List ℕ} {x y : t.Tree} → Walked step f x y g → WalkedInside step f (t.newtype_variant name index variant x) (t.newtype_variant name index variant y) g
    in_seq : {f g : F} {xs ys : t.Trees} → ItemsWalked step f xs ys g → WalkedInside step f (t.seq xs) (t.seq ys) g
    in_tuple : {f g : F} {xs ys : t.Trees} → ItemsWalked step f xs ys g → WalkedInside step f (t.tuple xs) (t.tuple ys) g
    in_tuple_struct : {f g : F} {name : List ℕ} {xs ys : t.Trees} → ItemsWalked step f xs ys g → WalkedInside step f (t.tuple_struct name xs) (t.tuple_struct name ys) g
    in_tuple_variant : {f g : F} {name : List ℕ} {index : ℕ} {variant : List ℕ} {xs ys : t.Trees} → ItemsWalked step f xs ys g → WalkedInside step f (t.tuple_variant name index variant xs) (t.tuple_variant name index variant ys) g
    in_map : {f g : F} {ps qs : t.TreePairs} → PairsWalked step f ps qs g → WalkedInside step f (t.map ps) (t.map qs) g
    in_struct : {f g : F} {name : List ℕ} {us vs : t.TreeFields} → FieldsWalked step f us vs g → WalkedInside step f (t.struct name us) (t.struct name vs) g
    in_struct_variant : {f g : F} {name : List ℕ} {index : ℕ} {variant : List ℕ} {us vs : t.TreeFields} → FieldsWalked step f us vs g → WalkedInside step f (t.struct_variant name index variant us) (t.struct_variant name index variant vs) g

  pub data ItemsWalked {F : Type 0} (step : F → t.Tree → Bool → t.Tree → F → Type 0) : F → t.Trees → t.Trees → F → Type 0 where
    no_items : {f : F} → ItemsWalked step f t.no_trees t.no_trees f
    item : {f g h : F} {x y : t.Tree} {xs ys : t.Trees} → Walked step f x y g → ItemsWalked step g xs ys h → ItemsWalked step f (t.tree x xs) (t.tree y ys) h

  -- of a pair the key, then the value
  pub data PairsWalked {F : Type 0} (step : F → t.Tree → Bool → t.Tree → F → Type 0) : F → t.TreePairs → t.TreePairs → F → Type 0 where
    no_pairs : {f : F} → PairsWalked step f t.no_pairs t.no_pairs f
    pair : {f g h i : F} {k l v w : t.Tree} {ps qs : t.TreePairs} → Walked step f k l g → Walked step g v w h → PairsWalked step h ps qs i
        → PairsWalked step f (t.pair k v ps) (t.pair l w qs) i

  pub data FieldsWalked {F : Type 0} (step : F → t.Tree → Bool → t.Tree → F → Type 0) : F → t.TreeFields → t.TreeFields → F → Type 0 where
    no_fields : {f : F} → FieldsWalked step f t.no_fields t.no_fields f
    field : {f g h : F} {name : List ℕ} {x y : t.Tree} {us vs : t.TreeFields} → Walked step f x y g → FieldsWalked step g us vs h → FieldsWalked step f (t.field name x us) (t.field name y vs) h
