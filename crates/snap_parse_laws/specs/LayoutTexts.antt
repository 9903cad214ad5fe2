-- The text of a layout: of each part before what follows it.
use Rattle.std.specs.Prelude.{ℕ, ◌+◌, List, [], ◌∷◌, ◌++◌, codes}
use Rattle.snap_scan_tokens.specs.Quoted.{escaped, value_of, with_digit}
use Rattle.snap_parse_laws.specs.Forms.{open_sign, close_sign, blanks, block_at}
use Rattle.snap_parse_laws.specs.Layouts.{Break, feed, return_feed, Filler, blank, comment, Fillers, no_filler, filler, Gap, Rest, next, unended, half, Letter, as_is, short, code, Letters, no_letter, letter, Scalar, bare, quote, Leaf, word, empty, block, Collection, list, dict, Items, last, item, Item, piece, beside, below, Value, piece_of, below_key, level, Entry, simple, complex, Entries, only, pair, Layout, leaf, collection, Document}

abbrev pub break_onto : Break → List ℕ → List ℕ
break_onto feed rest = 10 ∷ rest
break_onto return_feed rest = 13 ∷ 10 ∷ rest

abbrev pub filler_onto : Filler → List ℕ → List ℕ
filler_onto (blank n) rest = blanks n ++ rest
filler_onto (comment n cs) rest = blanks n ++ (35 ∷ (cs ++ rest))

abbrev pub fillers_onto : Fillers → List ℕ → List ℕ
fillers_onto no_filler rest = rest
fillers_onto (filler f e fs) rest = filler_onto f (break_onto e (fillers_onto fs rest))

abbrev pub gap_onto : Gap → List ℕ → List ℕ
gap_onto g rest = break_onto g.end (fillers_onto g.fillers rest)

abbrev pub rest_onto : Rest → List ℕ → List ℕ
rest_onto (next g) rest = gap_onto g rest
rest_onto unended rest = rest
rest_onto (half g f) rest = gap_onto g (filler_onto f rest)

abbrev pub letter_text : Letter → List ℕ
letter_text (as_is c) = c ∷ []
letter_text (short e) = 92 ∷ e ∷ []
letter_text (code e ds) = 92 ∷ e ∷ ds

abbrev pub letters_text : Letters → List ℕ
letters_text no_letter = 34 ∷ []
letters_text (letter a s) = letter_text a ++ letters_text s

abbrev pub spelled : Scalar → List ℕ
spelled (bare w) = w
spelled (quote s) = 34 ∷ letters_text s

-- the column is that of the mark or the key before the leaf; what stands on one line doesn't ask for it, and the lines of a block
-- stand two columns right of it
abbrev pub leaf_onto : ℕ → Leaf → List ℕ → List ℕ
leaf_onto k (word s r) rest = spelled s ++ rest_onto r rest
leaf_onto k (empty q r) rest = open_sign q ∷ close_sign q ∷ rest_onto r rest
leaf_onto k (block w kept more) rest = block_at (k + 1 + 1) w kept more ++ rest

abbrev mutual
  -- at column k
  pub collection_onto : ℕ → Collection → List ℕ → List ℕ
  collection_onto k (list ts) rest = 45 ∷ items_onto k ts rest
  collection_onto k (dict es) rest = entries_onto k es rest

  -- after the first mark of items at column k
  pub items_onto : ℕ → Items → List ℕ → List ℕ
  items_onto k (last t) rest = item_onto k t rest
  items_onto k (item t ts) rest = item_onto k t (blanks k ++ (45 ∷ items_onto k ts rest))

  -- after a mark at column k
  pub item_onto : ℕ → Item → List ℕ → List ℕ
  item_onto k (piece n t) rest = 32 ∷ (blanks n ++ leaf_onto k t rest)
  item_onto k (beside n t) rest = 32 ∷ (blanks n ++ collection_onto (k + 1 + 1 + n) t rest)
  item_onto k (below g n t) rest = gap_onto g (blanks (k + 1 + n) ++ collection_onto (k + 1 + n) t rest)

  -- after the colon of a key at column k
  pub value_onto : ℕ → Value → List ℕ → List ℕ
  value_onto k (piece_of n t) rest = 32 ∷ (blanks n ++ leaf_onto k t rest)
  value_onto k (below_key g n t) rest = gap_onto g (blanks (k + 1 + n) ++ collection_onto (k + 1 + n) t rest)
  value_onto k (level g ts) rest = gap_onto g (blanks k ++ (45 ∷ items_onto k ts rest))

  pub entry_onto : ℕ → Entry → List ℕ → List ℕ
  entry_onto k (simple s v) rest = spelled s ++ (58 ∷ value_onto k v rest)
  entry_onto k (complex q v) rest = 63 ∷ item_onto k q (blanks k ++ (58 ∷ item_onto k v rest))

  pub entries_onto : ℕ → Entries → List ℕ → List ℕ
  entries_onto k (only e) rest = entry_onto k e rest
  entries_onto k (pair e es) rest = entry_onto k e (blanks k ++ entries_onto k es rest)

abbrev pub layout_onto : ℕ → Layout → List ℕ → List ℕ
layout_onto k (leaf t) rest = leaf_onto k t rest
layout_onto k (collection t) rest = collection_onto k t rest

-- the characters of a layout: `---`, the gap, the blanks up to its column, and its tree
abbrev pub document_text : Document → List ℕ
document_text d = codes "---" ++ gap_onto d.gap (blanks d.column ++ layout_onto d.column d.tree [])

-- the characters that letters stand for

abbrev pub number_from : ℕ → List ℕ → ℕ
number_from value [] = value
number_from value (d ∷ ds) = number_from (with_digit value d) ds

abbrev pub character : Letter → ℕ
character (as_is c) = c
character (short e) = value_of (escaped e)
character (code e ds) = number_from 0 ds

abbrev pub characters : Letters → List ℕ
characters no_letter = []
characters (letter a s) = character a ∷ characters s
