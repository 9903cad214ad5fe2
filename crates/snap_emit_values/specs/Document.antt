-- Documents of one shape.
use Rattle.std.specs.Prelude.{ℕ, List, [], ◌∷◌, ◌++◌, Bool, true, false, if◌then◌else◌, codes, Option, None, Some}
use Rattle.std.specs.List.{flat_map}
use Rattle.snap_content.specs.Lines.{ended}
use Rattle.snap_print.specs.Blocks.{Blocks}
use Rattle.snap_emit_values.specs.Shape.{Shape, scalar, number, text, list, dict, Shapes, no_shapes, shape, ShapePairs, no_pairs, pair, block_in, lines}

-- lines with a line's end between each two
abbrev pub joined : List (List ℕ) → List ℕ
joined [] = []
joined (first ∷ rest) = first ++ flat_map (λ line. 10 ∷ line) rest

-- an item or a value ends in a block: it is one, or the last of what it holds ends in one
abbrev pub ends_child : Option (List ℕ) → Bool → Bool
ends_child None below = below
ends_child (Some s) below = true

-- the last line that is written is that of a block
abbrev mutual
  pub ends_in_block : Blocks → Shape → Bool
  ends_in_block w (scalar s) = false
  ends_in_block w (number z) = false
  ends_in_block w (text s) = false
  ends_in_block w (list ts) = items_end w ts
  ends_in_block w (dict ps) = pairs_end w ps

  pub items_end : Blocks → Shapes → Bool
  items_end w no_shapes = false
  items_end w (shape t no_shapes) = ends_child (block_in w t) (ends_in_block w t)
  items_end w (shape t (shape u ts)) = items_end w (shape u ts)

  pub pairs_end : Blocks → ShapePairs → Bool
  pairs_end w no_pairs = false
  pairs_end w (pair k v no_pairs) = ends_child (block_in w v) (ends_in_block w v)
  pairs_end w (pair k v (pair l x ps)) = pairs_end w (pair l x ps)

-- what an emitter adds for a value of this shape: the last line has its end where it is that of a block
abbrev pub dumped : Blocks → Shape → List ℕ
dumped w t = codes "---\n" ++ joined (lines w t) ++ (if ends_in_block w t then 10 ∷ [] else [])

-- the lines, each with its end
abbrev pub body : Blocks → Shape → List ℕ
body w t = flat_map ended (lines w t)

-- the whole text of a document
abbrev pub document : Blocks → Shape → List ℕ
document w t = codes "---\n" ++ body w t
