-- A step into a wrapper, and where the steps end.
use Rattle.snap_content.proofs.Prelude.{◌≡◌, refl, sym, ap, ◌∙◌, ℕ, suc, zero, ◌<◌, true, false, Box, Global, rules, arith, with_value, tree, resolved, wraps, rewrapped, with_wrapped, Content, Some', NewtypeStruct', NewtypeVariant', the_lemmas}
use Rattle.snap_content.specs.Tree.{Tree, some, newtype_struct, newtype_variant}

-- how many wrappers there are
abbrev pub depth : Tree → ℕ
depth (some inner) = suc (depth inner)
depth (newtype_struct name inner) = suc (depth inner)
depth (newtype_variant name index variant inner) = suc (depth inner)
depth other = zero

-- what stands directly inside a wrapper, and the wrapper with another tree there
abbrev inside : Tree → Tree
inside (some inner) = inner
inside (newtype_struct name inner) = inner
inside (newtype_variant name index variant inner) = inner
inside other = other

abbrev around : Tree → Tree → Tree
around (some inner) v = some v
around (newtype_struct name inner) v = newtype_struct name v
around (newtype_variant name index variant inner) v = newtype_variant name index variant v
around other v = other

around_is : (c : Content) (b : Box Content Global) → tree (with_wrapped c b) ≡ around (tree c) (tree b.value)
around_is (Some' place inner) b = search (rules, the_lemmas)
around_is (NewtypeStruct' name place inner) b = search (rules, the_lemmas)
around_is (NewtypeVariant' name index variant place inner) b = search (rules, the_lemmas)
around_is other b = search (rules, the_lemmas)

-- v stands directly inside u
resolved_inside : (u v : Tree) → around u v ≡ u → wraps u ≡ true → resolved v ≡ resolved u
resolved_inside (some inner) v e is = ap (λ x. resolved (inside x)) e
resolved_inside (newtype_struct name inner) v e is = ap (λ x. resolved (inside x)) e
resolved_inside (newtype_variant name index variant inner) v e is = ap (λ x. resolved (inside x)) e
resolved_inside other v e is = search rules

depth_inside : (u v : Tree) → around u v ≡ u → wraps u ≡ true → depth v < depth u
depth_inside (some inner) v e is = let same : depth v ≡ depth inner = ap (λ x. depth (inside x)) e in omega arith
depth_inside (newtype_struct name inner) v e is = let same : depth v ≡ depth inner = ap (λ x. depth (inside x)) e in omega arith
depth_inside (newtype_variant name index variant inner) v e is = let same : depth v ≡ depth inner = ap (λ x. depth (inside x)) e in omega arith
depth_inside other v e is = search rules

rewrapped_inside : (u v w new : Tree) → around u v ≡ u → wraps u ≡ true → w ≡ rewrapped v new → around u w ≡ rewrapped u new
rewrapped_inside (some inner) v w new e is g = ap some (g ∙ ap (λ x. rewrapped (inside x) new) e)
rewrapped_inside (newtype_struct name inner) v w new e is g = ap (newtype_struct name) (g ∙ ap (λ x. rewrapped (inside x) new) e)
rewrapped_inside (newtype_variant name index variant inner) v w new e is g = ap (newtype_variant name index variant) (g ∙ ap (λ x. rewrapped (inside x) new) e)
rewrapped_inside other v w new e is g = search rules

pub resolved_stops : (u : Tree) → wraps u ≡ false → u ≡ resolved u
resolved_stops (some inner) e = search rules
resolved_stops (newtype_struct name inner) e = search rules
resolved_stops (newtype_variant name index variant inner) e = search rules
resolved_stops other e = refl

pub rewrapped_stops : (u new : Tree) → wraps u ≡ false → new ≡ rewrapped u new
rewrapped_stops (some inner) new e = search rules
rewrapped_stops (newtype_struct name inner) new e = search rules
rewrapped_stops (newtype_variant name index variant inner) new e = search rules
rewrapped_stops other new e = refl

-- the box b is what the wrapper c holds
module _ (c : Content) (b : Box Content Global) (held : with_wrapped c b ≡ c) (is : wraps (tree c) ≡ true) where
  same_tree : around (tree c) (tree b.value) ≡ tree c
  same_tree = sym (around_is c b) ∙ ap tree held

  pub resolved_held : resolved (tree b.value) ≡ resolved (tree c)
  resolved_held = resolved_inside (tree c) (tree b.value) same_tree is

  pub depth_held : depth (tree b.value) < depth (tree c)
  depth_held = depth_inside (tree c) (tree b.value) same_tree is

  pub rewrapped_held : (w last : Content) → tree w ≡ rewrapped (tree b.value) (tree last) → tree (with_wrapped c (with_value b w)) ≡ rewrapped (tree c) (tree last)
  rewrapped_held w last g = around_is c (with_value b w) ∙ rewrapped_inside (tree c) (tree b.value) (tree w) (tree last) same_tree is g
