-- A free layout has plain scalars where it has plain pieces.
use Rattle.snap_parse_laws.proofs.Prelude.{◌≡◌, ℕ, List, true, refl, sym, subst, inl, inr, is_bare}
use Rattle.snap_content.specs.Plain.{null, bool, int, text, list, dict}
use Rattle.snap_print.specs.Typed.{Typed, value, real, typed}
use Rattle.snap_parse_laws.specs.FreeLayouts as f
use Rattle.snap_parse_laws.specs.Layouts as w
use Rattle.snap_parse_laws.specs.LayoutRules as rule
use Rattle.snap_parse_laws.proofs.Kept.{kept-bare}
use Rattle.snap_parse_laws.proofs.Printables.{bare-text, bare-int, bare-bool}

same-bare : (u word : List ℕ) → is_bare word ≡ true → u ≡ word → is_bare u ≡ true
same-bare u word h e = let P : List ℕ → Type 0 = λ x. is_bare x ≡ true in subst P (sym e) h

bare-of : (u : List ℕ) (k : Typed) → typed u ≡ k → f.IsBareOf k u → is_bare u ≡ true
bare-of u (value null) e (inl h) = same-bare u _ refl h
bare-of u (value null) e (inr h) = same-bare u _ refl h
bare-of u (value (bool b)) e h = same-bare u _ (bare-bool b) h
bare-of u (value (int z)) e h = same-bare u _ (bare-int z) h
bare-of u (value (text s)) e h = bare-text u h
bare-of u (value (list _)) e h = absurd h
bare-of u (value (dict _)) e h = absurd h
bare-of u real e h = kept-bare u e

scalar-free : (s : w.Scalar) → f.IsScalar s → rule.is_scalar s ≡ true
scalar-free (w.bare u) is = bare-of u (typed u) refl is
scalar-free (w.quote s) is = is

key-free : (s : w.Scalar) → f.IsKey s → rule.is_key s ≡ true
key-free s is = rw (scalar-free s is.0, is.1) refl

leaf-free : (v : w.Leaf) (e : rule.Position) → f.IsLeaf e v → rule.IsLeaf e v
leaf-free (w.word s r) e is = (scalar-free s is.0, is.1)
leaf-free (w.empty q r) e is = is
leaf-free (w.block u kept more) e is = absurd is

mutual
  collection-free : (t : w.Collection) (e : rule.Position) → f.IsCollection e t → rule.IsCollection e t
  collection-free (w.list ts) e is = items-free ts e is
  collection-free (w.dict es) e is = entries-free es e is

  items-free : (ts : w.Items) (e : rule.Position) → f.AreItems e ts → rule.AreItems e ts
  items-free (w.last t) e is = item-free t e is
  items-free (w.item t ts) e is = (item-free t rule.inside is.0, items-free ts e is.1)

  item-free : (t : w.Item) (e : rule.Position) → f.IsItem e t → rule.IsItem e t
  item-free (w.piece n v) e is = leaf-free v e is
  item-free (w.beside n t) e is = collection-free t e is
  item-free (w.below g n t) e is = (is.0, collection-free t e is.1)

  value-free : (v : w.Value) (e : rule.Position) → f.IsValue e v → rule.IsValue e v
  value-free (w.piece_of n v) e is = leaf-free v e is
  value-free (w.below_key g n t) e is = (is.0, collection-free t e is.1)
  value-free (w.level g ts) e is = (is.0, items-free ts e is.1)

  entry-free : (t : w.Entry) (e : rule.Position) → f.IsEntry e t → rule.IsEntry e t
  entry-free (w.simple s v) e is = (key-free s is.0, value-free v e is.1)
  entry-free (w.complex q v) e is = absurd is

  entries-free : (es : w.Entries) (e : rule.Position) → f.AreEntries e es → rule.AreEntries e es
  entries-free (w.only t) e is = entry-free t e is
  entries-free (w.pair t es) e is = (entry-free t rule.inside is.0, entries-free es e is.1)

layout-free : (t : w.Layout) (e : rule.Position) → f.IsLayout e t → rule.IsLayout e t
layout-free (w.leaf v) e is = leaf-free v e is
layout-free (w.collection t) e is = collection-free t e is

pub free-is-laid : (d : w.Document) → f.IsFree d → rule.IsDocument d
free-is-laid d is = (is.0, layout-free d.tree rule.ending is.1)
