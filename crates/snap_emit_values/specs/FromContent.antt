-- What is printed of a `Content`: the shape of its plain form.
use Rattle.std.specs.Prelude.{ℕ, pos, List}
use Rattle.snap_content.specs.Plain.{plain}
use Rattle.snap_print.specs.Readable.{IsNumber, IsWithin}
use Rattle.snap_content.specs.View.{tree}
use Rattle.snap_content.specs.declared.content.Content.{Content}
use Rattle.snap_emit_values.specs.Shape.{Shape, scalar, number, text, list, dict, Shapes, no_shapes, shape, ShapePairs, no_pairs, pair, plain_shape}

-- the shape of a tree's plain form
abbrev pub content_shape : Content → Shape
content_shape c = plain_shape (plain (tree c))

abbrev pub pair_shape : Content × Content → Shape × Shape
pair_shape p = (content_shape p.0, content_shape p.1)

abbrev pub field_shape : List ℕ × Content → Shape × Shape
field_shape f = (text f.0, content_shape f.1)

abbrev pub byte_shape : ℕ → Shape
byte_shape b = number (pos b)

-- each number of its plain form has at most 128 bits
abbrev pub IsContentWithin : Content → Type 0
IsContentWithin c = IsWithin (plain (tree c))

-- each number of a shape has at most 128 bits
abbrev mutual
  pub IsShapeWithin : Shape → Type 0
  IsShapeWithin (scalar s) = Unit {0}
  IsShapeWithin (number z) = IsNumber z
  IsShapeWithin (text s) = Unit {0}
  IsShapeWithin (list ts) = AreShapesWithin ts
  IsShapeWithin (dict ps) = ArePairsWithin ps

  pub AreShapesWithin : Shapes → Type 0
  AreShapesWithin no_shapes = Unit {0}
  AreShapesWithin (shape t ts) = IsShapeWithin t × AreShapesWithin ts

  pub ArePairsWithin : ShapePairs → Type 0
  ArePairsWithin no_pairs = Unit {0}
  ArePairsWithin (pair k v ps) = IsShapeWithin k × (IsShapeWithin v × ArePairsWithin ps)

abbrev pub IsPairWithin : Shape × Shape → Type 0
IsPairWithin p = IsShapeWithin p.0 × IsShapeWithin p.1

-- the same of a number, and nothing of another shape
abbrev pub IsWordWithin : Shape → Type 0
IsWordWithin (number z) = IsNumber z
IsWordWithin _ = Unit {0}
