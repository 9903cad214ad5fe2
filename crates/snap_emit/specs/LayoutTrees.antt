-- What a layout spells: its plain tree, and whether a number stands in it that is kept as its text.
use Rattle.std.specs.Prelude.{◌||◌, ◌++◌, ℕ, List, Bool, true, false}
use Rattle.snap_content.specs.Plain as p
use Rattle.snap_print.specs.Typed.{Typed, value, real, typed}
use Rattle.snap_parse_laws.specs.Forms.{square, curly, line_ends}
use Rattle.snap_parse_laws.specs.Layouts as w
use Rattle.snap_parse_laws.specs.LayoutTexts.{characters}

-- the tree of a bare text: what a reader takes it for, or the text where that is a number which isn't whole
abbrev pub bare_plain : Typed → List ℕ → p.Plain
bare_plain (value x) u = x
bare_plain real u = p.text u

abbrev pub is_real : Typed → Bool
is_real (value x) = false
is_real real = true

abbrev pub scalar_plain : w.Scalar → p.Plain
scalar_plain (w.bare u) = bare_plain (typed u) u
scalar_plain (w.quote s) = p.text (characters s)

abbrev pub leaf_plain : w.Leaf → p.Plain
leaf_plain (w.word s r) = scalar_plain s
leaf_plain (w.empty square r) = p.list p.no_items
leaf_plain (w.empty curly r) = p.dict p.no_entries
leaf_plain (w.block u count more) = p.text (u ++ line_ends count)

abbrev mutual
  pub collection_plain : w.Collection → p.Plain
  collection_plain (w.list ts) = p.list (items_plain ts)
  collection_plain (w.dict es) = p.dict (entries_plain es)

  pub item_plain : w.Item → p.Plain
  item_plain (w.piece n x) = leaf_plain x
  item_plain (w.beside n t) = collection_plain t
  item_plain (w.below g n t) = collection_plain t

  pub items_plain : w.Items → p.Plains
  items_plain (w.last t) = p.item (item_plain t) p.no_items
  items_plain (w.item t ts) = p.item (item_plain t) (items_plain ts)

  -- of the value of a key
  pub keyed_plain : w.Value → p.Plain
  keyed_plain (w.piece_of n x) = leaf_plain x
  keyed_plain (w.below_key g n t) = collection_plain t
  keyed_plain (w.level g ts) = p.list (items_plain ts)

  pub entry_plain : w.Entry → p.Entries → p.Entries
  entry_plain (w.simple s x) rest = p.entry (scalar_plain s) (keyed_plain x) rest
  entry_plain (w.complex q x) rest = p.entry (item_plain q) (item_plain x) rest

  pub entries_plain : w.Entries → p.Entries
  entries_plain (w.only e) = entry_plain e p.no_entries
  entries_plain (w.pair e es) = entry_plain e (entries_plain es)

abbrev pub layout_plain : w.Layout → p.Plain
layout_plain (w.leaf x) = leaf_plain x
layout_plain (w.collection t) = collection_plain t

-- whether a kept number stands in it
abbrev pub scalar_keeps : w.Scalar → Bool
scalar_keeps (w.bare u) = is_real (typed u)
scalar_keeps (w.quote s) = false

abbrev pub leaf_keeps : w.Leaf → Bool
leaf_keeps (w.word s r) = scalar_keeps s
leaf_keeps (w.empty q r) = false
leaf_keeps (w.block u count more) = false

abbrev mutual
  pub collection_keeps : w.Collection → Bool
  collection_keeps (w.list ts) = items_keep ts
  collection_keeps (w.dict es) = entries_keep es

  pub item_keeps : w.Item → Bool
  item_keeps (w.piece n x) = leaf_keeps x
  item_keeps (w.beside n t) = collection_keeps t
  item_keeps (w.below g n t) = collection_keeps t

  pub items_keep : w.Items → Bool
  items_keep (w.last t) = item_keeps t || false
  items_keep (w.item t ts) = item_keeps t || items_keep ts

  pub keyed_keeps : w.Value → Bool
  keyed_keeps (w.piece_of n x) = leaf_keeps x
  keyed_keeps (w.below_key g n t) = collection_keeps t
  keyed_keeps (w.level g ts) = items_keep ts

  pub entry_keeps : w.Entry → Bool → Bool
  entry_keeps (w.simple s x) rest = scalar_keeps s || (keyed_keeps x || rest)
  entry_keeps (w.complex q x) rest = item_keeps q || (item_keeps x || rest)

  pub entries_keep : w.Entries → Bool
  entries_keep (w.only e) = entry_keeps e false
  entries_keep (w.pair e es) = entry_keeps e (entries_keep es)

abbrev pub layout_keeps : w.Layout → Bool
layout_keeps (w.leaf x) = leaf_keeps x
layout_keeps (w.collection t) = collection_keeps t
