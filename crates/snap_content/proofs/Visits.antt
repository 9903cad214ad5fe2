-- One call of the visitor, and one level of a walk.
use Rattle.snap_content.proofs.Prelude.{◌≡◌, ◌≤◌, ℕ, Bool, true, false, List, refl, sym, ap, ◌∙◌, subst, MutBor, tree, item_list, item_trees, pair_list, pair_trees, field_list, field_trees, Items, Pairs, Fields, count, Calls, NeverGrows, Walked, stays, enters, WalkedInside, in_some, in_newtype_struct, in_newtype_variant, in_seq, in_tuple, in_tuple_struct, in_tuple_variant, in_map, in_struct, in_struct_variant, ItemsWalked, PairsWalked, FieldsWalked, Content}
use Rattle.std.specs.Fn.{Called}
use Rattle.std.specs.declared.boxed.Box.{Box}
use Rattle.std.specs.declared.alloc.Global.{Global}
use denote.Param.Members.{Mut}
use Rattle.snap_content.specs.Tree as t
use Rattle.snap_content.specs.declared.content.Content as v
use Rattle.snap_content.proofs.Views.{tree-Some, tree-NewtypeStruct, tree-NewtypeVariant, tree-Seq, tree-Tuple, tree-TupleStruct, tree-TupleVariant, tree-Map, tree-Struct, tree-StructVariant}

module _ {F : Type 0} (g : Mut F (MutBor Content × Unit {0}) (Bool × (MutBor Content × Unit {0}))) where
  pub calls_at : (f : F) (p q : MutBor Content) (r s : Bool) (h : F) → Called g f (p, tt) (r, (q, tt)) h → r ≡ s → Calls g f (tree p.now) s (tree q.now) h
  calls_at f p q r s h c e = subst (λ x. Calls g f (tree p.now) x (tree q.now) h) e (record { shown = p; left = q; shows = refl; leaves = refl; called = c })

  pub shrinks_at : (f : F) (p q : MutBor Content) (r : Bool) (h : F) (whole : Content) → NeverGrows g → Called g f (p, tt) (r, (q, tt)) h → whole ≡ q.now → count (tree whole) ≤ count (tree p.now)
  shrinks_at f p q r h whole n c e = subst (λ x. count (tree x) ≤ count (tree p.now)) (sym e) (n.at f (tree p.now) r (tree q.now) h (calls_at f p q r r h c refl))

  pub walked_on : (f : F) (p q : MutBor Content) (r : Bool) (h k : F) (whole : Content) (z : t.Tree) → Called g f (p, tt) (r, (q, tt)) h → r ≡ true → whole ≡ q.now
      → WalkedInside (Calls g) h (tree whole) z k → Walked (Calls g) f (tree p.now) z k
  walked_on f p q r h k whole z c e w inside = enters (calls_at f p q r true h c e) (subst (λ x. WalkedInside (Calls g) h (tree x) z k) w inside)

  pub walked_off : (f : F) (p q : MutBor Content) (r : Bool) (h : F) → Called g f (p, tt) (r, (q, tt)) h → r ≡ false → Walked (Calls g) f (tree p.now) (tree q.now) h
  walked_off f p q r h c e = stays (calls_at f p q r false h c e)

module _ {F : Type 0} (step : F → t.Tree → Bool → t.Tree → F → Type 0) (f h : F) (whole : Content) where
  pub some_walked : (inner out : Box Content Global) → whole ≡ v.Some inner → Walked step f (tree inner.value) (tree out.value) h → WalkedInside step f (tree whole) (tree (v.Some out)) h
  some_walked inner out is w =
      subst (λ y. WalkedInside step f y (tree (v.Some out)) h) (sym (ap tree is ∙ tree-Some inner)) (subst (λ y. WalkedInside step f (t.some (tree inner.value)) y h) (sym (tree-Some out)) (in_some w))

  pub newtype_struct_walked : (name : List ℕ) (inner out : Box Content Global) → whole ≡ v.NewtypeStruct name inner → Walked step f (tree inner.value) (tree out.value) h → WalkedInside step f (tree whole) (tree (v.NewtypeStruct name out)) h
  newtype_struct_walked name inner out is w =
      subst (λ y. WalkedInside step f y (tree (v.NewtypeStruct name out)) h) (sym (ap tree is ∙ tree-NewtypeStruct name inner)) (subst (λ y. WalkedInside step f (t.newtype_struct name (tree inner.value)) y h) (sym (tree-NewtypeStruct name out)) (in_newtype_struct w))

  pub newtype_variant_walked : (name : List ℕ) (index : ℕ) (variant : List ℕ) (inner out : Box Content Global) → whole ≡ v.NewtypeVariant name index variant inner → Walked step f (tree inner.value) (tree out.value) h → WalkedInside step f (tree whole) (tree (v.NewtypeVariant name index variant out)) h
  newtype_variant_walked name index variant inner out is w =
      subst (λ y. WalkedInside step f y (tree (v.NewtypeVariant name index variant out)) h) (sym (ap tree is ∙ tree-NewtypeVariant name index variant inner)) (subst (λ y. WalkedInside step f (t.newtype_variant name index variant (tree inner.value)) y h) (sym (tree-NewtypeVariant name index variant out)) (in_newtype_variant w))

  pub seq_walked : (items out : Items) → whole ≡ v.Seq items → ItemsWalked step f (item_trees (item_list items)) (item_trees (item_list out)) h → WalkedInside step f (tree whole) (tree (v.Seq out)) h
  seq_walked items out is w =
      subst (λ y. WalkedInside step f y (tree (v.Seq out)) h) (sym (ap tree is ∙ tree-Seq items)) (subst (λ y. WalkedInside step f (t.seq (item_trees (item_list items))) y h) (sym (tree-Seq out)) (in_seq w))

  pub tuple_walked : (items out : Items) → whole ≡ v.Tuple items → ItemsWalked step f (item_trees (item_list items)) (item_trees (item_list out)) h → WalkedInside step f (tree whole) (tree (v.Tuple out)) h
  tuple_walked items out is w =
      subst (λ y. WalkedInside step f y (tree (v.Tuple out)) h) (sym (ap tree is ∙ tree-Tuple items)) (subst (λ y. WalkedInside step f (t.tuple (item_trees (item_list items))) y h) (sym (tree-Tuple out)) (in_tuple w))

  pub tuple_struct_walked : (name : List ℕ) (items out : Items) → whole ≡ v.TupleStruct name items → ItemsWalked step f (item_trees (item_list items)) (item_trees (item_list out)) h → WalkedInside step f (tree whole) (tree (v.TupleStruct name out)) h
  tuple_struct_walked name items out is w =
      subst (λ y. WalkedInside step f y (tree (v.TupleStruct name out)) h) (sym (ap tree is ∙ tree-TupleStruct name items)) (subst (λ y. WalkedInside step f (t.tuple_struct name (item_trees (item_list items))) y h) (sym (tree-TupleStruct name out)) (in_tuple_struct w))

  pub tuple_variant_walked : (name : List ℕ) (index : ℕ) (variant : List ℕ) (items out : Items) → whole ≡ v.TupleVariant name index variant items → ItemsWalked step f (item_trees (item_list items)) (item_trees (item_list out)) h → WalkedInside step f (tree whole) (tree (v.TupleVariant name index variant out)) h
  tuple_variant_walked name index variant items out is w =
      subst (λ y. WalkedInside step f y (tree (v.TupleVariant name index variant out)) h) (sym (ap tree is ∙ tree-TupleVariant name index variant items)) (subst (λ y. WalkedInside step f (t.tuple_variant name index variant (item_trees (item_list items))) y h) (sym (tree-TupleVariant name index variant out)) (in_tuple_variant w))

  pub map_walked : (pairs out : Pairs) → whole ≡ v.Map pairs → PairsWalked step f (pair_trees (pair_list pairs)) (pair_trees (pair_list out)) h → WalkedInside step f (tree whole) (tree (v.Map out)) h
  map_walked pairs out is w =
      subst (λ y. WalkedInside step f y (tree (v.Map out)) h) (sym (ap tree is ∙ tree-Map pairs)) (subst (λ y. WalkedInside step f (t.map (pair_trees (pair_list pairs))) y h) (sym (tree-Map out)) (in_map w))

  pub struct_walked : (name : List ℕ) (fields out : Fields) → whole ≡ v.Struct name fields → FieldsWalked step f (field_trees (field_list fields)) (field_trees (field_list out)) h → WalkedInside step f (tree whole) (tree (v.Struct name out)) h
  struct_walked name fields out is w =
      subst (λ y. WalkedInside step f y (tree (v.Struct name out)) h) (sym (ap tree is ∙ tree-Struct name fields)) (subst (λ y. WalkedInside step f (t.struct name (field_trees (field_list fields))) y h) (sym (tree-Struct name out)) (in_struct w))

  pub struct_variant_walked : (name : List ℕ) (index : ℕ) (variant : List ℕ) (fields out : Fields) → whole ≡ v.StructVariant name index variant fields → FieldsWalked step f (field_trees (field_list fields)) (field_trees (field_list out)) h → WalkedInside step f (tree whole) (tree (v.StructVariant name index variant out)) h
  struct_variant_walked name index variant fields out is w =
      subst (λ y. WalkedInside step f y (tree (v.StructVariant name index variant out)) h) (sym (ap tree is ∙ tree-StructVariant name index variant fields)) (subst (λ y. WalkedInside step f (t.struct_variant name index variant (field_trees (field_list fields))) y h) (sym (tree-StructVariant name index variant out)) (in_struct_variant w))
