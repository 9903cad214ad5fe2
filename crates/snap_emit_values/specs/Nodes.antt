-- What the emitter sees of a value: the shape of what is after it.
use Rattle.std.specs.Prelude.{pos, List, [], ◌∷◌, map, codes}
use Rattle.std.specs.Str.{chars}
use Rattle.snap_print.specs.Spell.{spell_bool}
use Rattle.snap_emit_values.specs.FromContent.{content_shape, pair_shape, field_shape, byte_shape}
use Rattle.snap_emit_values.specs.Shape as s
use Rattle.snap_emit_values.specs.declared.node.Entries.{Entries}
use Rattle.snap_emit_values.specs.declared.node.Entries.TheVariants as e
use Rattle.snap_emit_values.specs.declared.node.Items.{Items}
use Rattle.snap_emit_values.specs.declared.node.Items.TheVariants as i
use Rattle.snap_emit_values.specs.declared.node.Node.{Node}
use Rattle.snap_emit_values.specs.declared.node.Node.TheVariants as n

-- the shapes of a list's items
abbrev pub item_shapes : Items → List s.Shape
item_shapes (i.Values items) = map s.shape_of items.now
item_shapes (i.Trees items) = map content_shape items.now
item_shapes (i.Bytes bytes) = map byte_shape bytes.now

-- a pair of two shapes
abbrev pub both : s.Shape → s.Shape → s.Shape × s.Shape
both key value = (key, value)

-- the shapes of a dict's pairs; a variant is one pair, from its name
abbrev pub entry_shapes : Entries → List (s.Shape × s.Shape)
entry_shapes (e.Values pairs) = map s.pair_shapes pairs.now
entry_shapes (e.Trees pairs) = map pair_shape pairs.now
entry_shapes (e.Fields fields) = map field_shape fields.now
entry_shapes (e.Newtype name inner) = both (s.text name.now) (content_shape inner.now) ∷ []
entry_shapes (e.Tuple name items) = both (s.text name.now) (s.list (s.shapes_of (map content_shape items.now))) ∷ []
entry_shapes (e.Struct name fields) = both (s.text name.now) (s.dict (s.shape_pairs_of (map field_shape fields.now))) ∷ []

-- the shape of a node
abbrev pub node_shape : Node → s.Shape
node_shape n.Null = s.scalar (codes "~")
node_shape (n.Bool b) = s.scalar (spell_bool b)
node_shape (n.Integer z) = s.number z
node_shape (n.Natural m) = s.number (pos m)
node_shape (n.Wide z) = s.number z
node_shape (n.Real text) = s.scalar (chars text.now)
node_shape (n.Char c) = s.text (c ∷ [])
node_shape (n.Text text) = s.text (chars text.now)
node_shape (n.List items) = s.list (s.shapes_of (item_shapes items))
node_shape (n.Dict pairs) = s.dict (s.shape_pairs_of (entry_shapes pairs))

-- the shapes of a key and of its value
abbrev pub node_pair : Node × Node → s.Shape × s.Shape
node_pair p = both (node_shape p.0) (node_shape p.1)
