-- A printed form as a layout: one blank after each mark, no line that says nothing, collections two columns further in.
use Rattle.std.specs.Prelude.{ℕ, ◌/◌, ◌%◌, ◌==◌, ◌||◌, nat_lt, if◌then◌else◌, false, List, [], ◌∷◌}
use Rattle.std.specs.Fmt.{digit_glyph}
use Rattle.snap_parse_laws.specs.Forms as form
use Rattle.snap_parse_laws.specs.Layouts.{Gap, feed, no_filler, Rest, next, unended, Letter, as_is, short, code, Letters, no_letter, letter, Scalar, bare, quote, word, empty, block, list, dict, Items, last, item, Item, piece, beside, Value, piece_of, below_key, Entry, simple, complex, Entries, only, pair, Layout, leaf, collection, Document}

abbrev pub line : Gap
line = record { end = feed; fillers = no_filler }

abbrev pub letter_of : ℕ → Letter
letter_of c =
    if c == 34 then short 34 else (
    if c == 92 then short 92 else (
    if c == 8 then short 98 else (
    if c == 9 then short 116 else (
    if c == 10 then short 110 else (
    if c == 12 then short 102 else (
    if c == 13 then short 114 else (
    if nat_lt c 32 || c == 127 then code 117 (48 ∷ 48 ∷ digit_glyph false (c / 16) ∷ digit_glyph false (c % 16) ∷ []) else as_is c)))))))

abbrev pub letters_of : List ℕ → Letters
letters_of [] = no_letter
letters_of (c ∷ cs) = letter (letter_of c) (letters_of cs)

abbrev pub scalar_of : form.Scalar → Scalar
scalar_of (form.bare w) = bare w
scalar_of (form.quote s) = quote (letters_of s)

-- what follows the last leaf is given: the other leaves end their lines
abbrev mutual
  pub layout_of : Rest → form.Form → Layout
  layout_of r (form.scalar s) = leaf (word (scalar_of s) r)
  layout_of r (form.block w kept more) = leaf (block w kept more)
  layout_of r (form.hollow q) = leaf (empty q r)
  layout_of r (form.list ts) = collection (list (items_of r ts))
  layout_of r (form.dict es) = collection (dict (entries_of r es))

  pub item_of : Rest → form.Form → Item
  item_of r (form.scalar s) = piece 0 (word (scalar_of s) r)
  item_of r (form.block w kept more) = piece 0 (block w kept more)
  item_of r (form.hollow q) = piece 0 (empty q r)
  item_of r (form.list ts) = beside 0 (list (items_of r ts))
  item_of r (form.dict es) = beside 0 (dict (entries_of r es))

  pub items_of : Rest → form.Forms → Items
  items_of r (form.last t) = last (item_of r t)
  items_of r (form.item t ts) = item (item_of (next line) t) (items_of r ts)

  pub value_of : Rest → form.Form → Value
  value_of r (form.scalar s) = piece_of 0 (word (scalar_of s) r)
  value_of r (form.block w kept more) = piece_of 0 (block w kept more)
  value_of r (form.hollow q) = piece_of 0 (empty q r)
  value_of r (form.list ts) = below_key line 1 (list (items_of r ts))
  value_of r (form.dict es) = below_key line 1 (dict (entries_of r es))

  pub entry_of : Rest → form.Entry → Entry
  entry_of r (form.simple s v) = simple (scalar_of s) (value_of r v)
  entry_of r (form.complex q v) = complex (item_of (next line) q) (item_of r v)

  pub entries_of : Rest → form.Entries → Entries
  entries_of r (form.only e) = only (entry_of r e)
  entries_of r (form.pair e es) = pair (entry_of (next line) e) (entries_of r es)

abbrev pub printed_document : form.Form → Document
printed_document t = record { gap = line; column = 0; tree = layout_of (next line) t }

-- the same without the end of the last line, where that is none of a block
abbrev pub dumped_document : form.Form → Document
dumped_document t = record { gap = line; column = 0; tree = layout_of unended t }
