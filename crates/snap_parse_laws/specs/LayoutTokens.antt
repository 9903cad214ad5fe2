-- The tokens of a layout.
use Rattle.std.specs.Prelude.{List, [], ◌∷◌, ◌++◌}
use Rattle.snap_scan_tokens.specs.declared.token.TokenType.{TokenType}
use Rattle.snap_scan_tokens.specs.declared.token.TokenType.TheVariants as k
use Rattle.snap_scan_tokens.specs.declared.token.TScalarStyle.TheVariants as style
use Rattle.snap_parse_laws.specs.Forms.{open_token, close_token, line_ends}
use Rattle.snap_parse_laws.specs.Layouts.{Scalar, bare, quote, Leaf, word, empty, block, Collection, list, dict, Items, last, item, Item, piece, beside, below, Value, piece_of, below_key, level, Entry, simple, complex, Entries, only, pair, Layout, leaf, collection}
use Rattle.snap_parse_laws.specs.LayoutTexts.{characters}

abbrev pub scalar_token : Scalar → TokenType
scalar_token (bare w) = k.Scalar style.Plain w
scalar_token (quote s) = k.Scalar style.DoubleQuoted (characters s)

abbrev pub leaf_tokens : Leaf → List TokenType
leaf_tokens (word s r) = scalar_token s ∷ []
leaf_tokens (empty q r) = open_token q ∷ close_token q ∷ []
leaf_tokens (block w kept more) = k.Scalar style.Literal (w ++ line_ends kept) ∷ []

abbrev mutual
  pub collection_tokens : Collection → List TokenType
  collection_tokens (list ts) = k.BlockSequenceStart ∷ k.BlockEntry ∷ (items_tokens ts ++ k.BlockEnd ∷ [])
  collection_tokens (dict es) = k.BlockMappingStart ∷ (entries_tokens es ++ k.BlockEnd ∷ [])

  -- after the first BlockEntry
  pub items_tokens : Items → List TokenType
  items_tokens (last t) = item_tokens t
  items_tokens (item t ts) = item_tokens t ++ (k.BlockEntry ∷ items_tokens ts)

  pub item_tokens : Item → List TokenType
  item_tokens (piece n t) = leaf_tokens t
  item_tokens (beside n t) = collection_tokens t
  item_tokens (below g n t) = collection_tokens t

  -- items at the column of their dict have neither a start nor an end
  pub value_tokens : Value → List TokenType
  value_tokens (piece_of n t) = leaf_tokens t
  value_tokens (below_key g n t) = collection_tokens t
  value_tokens (level g ts) = k.BlockEntry ∷ items_tokens ts

  pub entry_tokens : Entry → List TokenType
  entry_tokens (simple s v) = k.Key ∷ scalar_token s ∷ k.Value ∷ value_tokens v
  entry_tokens (complex q v) = k.Key ∷ (item_tokens q ++ (k.Value ∷ item_tokens v))

  pub entries_tokens : Entries → List TokenType
  entries_tokens (only e) = entry_tokens e
  entries_tokens (pair e es) = entry_tokens e ++ entries_tokens es

-- the tokens of a layout: those of its tree
abbrev pub layout_tokens : Layout → List TokenType
layout_tokens (leaf t) = leaf_tokens t
layout_tokens (collection t) = collection_tokens t
