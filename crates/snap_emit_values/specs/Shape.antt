-- What is printed of a tree: scalars as they are spelled, whole numbers, texts, lists and dicts; and its lines. A text is kept as it is,
-- since where it stands says whether it is a literal block.
use Rattle.std.specs.Prelude.{ℕ, ℤ, List, [], ◌∷◌, ◌++◌, Bool, true, false, nat_le, if◌then◌else◌, length, map, codes, Option, None, Some}
use Rattle.std.specs.Fmt.{signed_decimal}
use Rattle.snap_content.specs.Plain as p
use Rattle.snap_print.specs.Spell.{spelling, spell_bool, spell_text}
use Rattle.snap_print.specs.Blocks.{Blocks, before_more, is_block, block_sign, kept_ends}
use Rattle.snap_print.specs.Lines.{block_lines, indented, behind, marked}
use Rattle.snap_yaml.specs.Value as v
use Rattle.snap_yaml.specs.View.{value_of}
use Rattle.snap_yaml.specs.declared.yaml.Yaml.{Yaml}

-- what is printed of a tree: a scalar as it is spelled, a whole number, a text, a list, or a dict
mutual
  pub data Shape : Type 0 where
    scalar : List ℕ → Shape
    number : ℤ → Shape
    text : List ℕ → Shape
    list : Shapes → Shape
    dict : ShapePairs → Shape

  pub data Shapes : Type 0 where
    no_shapes : Shapes
    shape : Shape → Shapes → Shapes

  pub data ShapePairs : Type 0 where
    no_pairs : ShapePairs
    pair : Shape → Shape → ShapePairs → ShapePairs

-- lists of shapes, as a shape holds them
abbrev pub shapes_of : List Shape → Shapes
shapes_of [] = no_shapes
shapes_of (t ∷ ts) = shape t (shapes_of ts)

abbrev pub shape_pairs_of : List (Shape × Shape) → ShapePairs
shape_pairs_of [] = no_pairs
shape_pairs_of (e ∷ es) = pair e.0 e.1 (shape_pairs_of es)

-- what is written for a scalar or an empty collection
abbrev pub spelled : Shape → List ℕ
spelled (scalar s) = s
spelled (number z) = signed_decimal z
spelled (text s) = spell_text s
spelled (list _) = codes "[]"
spelled (dict _) = codes "{}"

-- a scalar or an empty collection
abbrev pub is_flat : Shape → Bool
is_flat (scalar s) = true
is_flat (number z) = true
is_flat (text s) = true
is_flat (list no_shapes) = true
is_flat (list (shape s ss)) = false
is_flat (dict no_pairs) = true
is_flat (dict (pair k v ps)) = false

-- a key that is written before a colon
abbrev pub is_simple : Shape → Bool
is_simple (scalar s) = nat_le (length s) 1024
is_simple (number z) = nat_le (length (signed_decimal z)) 1024
is_simple (text s) = nat_le (length (spell_text s)) 1024
is_simple (list _) = false
is_simple (dict _) = false

-- the text of what is written as a block, as an item or a value
abbrev pub block_in : Blocks → Shape → Option (List ℕ)
block_in w (scalar s) = None
block_in w (number z) = None
block_in w (text s) = if is_block w s then Some s else None
block_in w (list ts) = None
block_in w (dict ps) = None

-- the lines of a value after its key and a colon
abbrev pub keyed : Blocks → List ℕ → Shape → Option (List ℕ) → List (List ℕ) → List (List ℕ)
keyed w key value None ls = if is_flat value then (key ++ 58 ∷ 32 ∷ spelled value) ∷ [] else (key ++ 58 ∷ []) ∷ map indented ls
keyed w key value (Some s) ls = (key ++ 58 ∷ 32 ∷ block_sign (kept_ends s)) ∷ block_lines w s

-- the lines of a pair, from its key and value and the lines of both; w is where the value stands
abbrev pub pair_block : Blocks → Shape → Shape → List (List ℕ) → List (List ℕ) → List (List ℕ)
pair_block w key value key_lines value_lines =
    if is_simple key then keyed w (spelled key) value (block_in w value) value_lines
    else behind 63 key_lines ++ marked w 58 (block_in w value) value_lines

abbrev pub before_shapes : Blocks → Shapes → Blocks
before_shapes w no_shapes = w
before_shapes w (shape t ts) = before_more w

abbrev pub before_pairs : Blocks → ShapePairs → Blocks
before_pairs w no_pairs = w
before_pairs w (pair k v ps) = before_more w

-- the lines of a shape, as those of a plain tree are defined
abbrev mutual
  pub lines : Blocks → Shape → List (List ℕ)
  lines w (scalar s) = s ∷ []
  lines w (number z) = signed_decimal z ∷ []
  lines w (text s) = spell_text s ∷ []
  lines w (list no_shapes) = codes "[]" ∷ []
  lines w (list (shape t ts)) = marked (before_shapes w ts) 45 (block_in (before_shapes w ts) t) (lines (before_shapes w ts) t) ++ list_lines w ts
  lines w (dict no_pairs) = codes "{}" ∷ []
  lines w (dict (pair k v ps)) = pair_block (before_pairs w ps) k v (lines (before_more w) k) (lines (before_pairs w ps) v) ++ dict_lines w ps

  pub list_lines : Blocks → Shapes → List (List ℕ)
  list_lines w no_shapes = []
  list_lines w (shape t ts) = marked (before_shapes w ts) 45 (block_in (before_shapes w ts) t) (lines (before_shapes w ts) t) ++ list_lines w ts

  pub dict_lines : Blocks → ShapePairs → List (List ℕ)
  dict_lines w no_pairs = []
  dict_lines w (pair k v ps) = pair_block (before_pairs w ps) k v (lines (before_more w) k) (lines (before_pairs w ps) v) ++ dict_lines w ps

-- the shape of a plain tree, whether literal blocks are asked for or not
abbrev mutual
  pub plain_shape : p.Plain → Shape
  plain_shape p.null = scalar (spelling p.null)
  plain_shape (p.bool b) = scalar (spelling (p.bool b))
  plain_shape (p.int z) = number z
  plain_shape (p.text s) = text s
  plain_shape (p.list items) = list (plain_shapes items)
  plain_shape (p.dict entries) = dict (plain_pairs entries)

  pub plain_shapes : p.Plains → Shapes
  plain_shapes p.no_items = no_shapes
  plain_shapes (p.item t ts) = shape (plain_shape t) (plain_shapes ts)

  pub plain_pairs : p.Entries → ShapePairs
  plain_pairs p.no_entries = no_pairs
  plain_pairs (p.entry k v es) = pair (plain_shape k) (plain_shape v) (plain_pairs es)

-- the shape of a value: a number with a point stands as it was kept
abbrev mutual
  pub value_shape : v.Value → Shape
  value_shape (v.real s) = scalar s
  value_shape (v.integer z) = number z
  value_shape (v.string s) = text s
  value_shape (v.boolean b) = scalar (spell_bool b)
  value_shape (v.array items) = list (value_shapes items)
  value_shape (v.hash pairs) = dict (value_pairs pairs)
  value_shape v.null = scalar (codes "~")
  value_shape v.bad_value = scalar (codes "~")

  pub value_shapes : v.Values → Shapes
  value_shapes v.no_values = no_shapes
  value_shapes (v.value t ts) = shape (value_shape t) (value_shapes ts)

  pub value_pairs : v.ValuePairs → ShapePairs
  value_pairs v.no_pairs = no_pairs
  value_pairs (v.pair k x ps) = pair (value_shape k) (value_shape x) (value_pairs ps)

-- what is printed of a `Yaml`
abbrev pub shape_of : Yaml → Shape
shape_of tree = value_shape (value_of tree)

abbrev pub pair_shapes : Yaml × Yaml → Shape × Shape
pair_shapes p = (shape_of p.0, shape_of p.1)
