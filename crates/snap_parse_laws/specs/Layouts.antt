-- How a tree may stand in a text: the tree, and all that its writer chose.
use Rattle.std.specs.Prelude.{ℕ, List, Bool}
use Rattle.snap_parse_laws.specs.Forms.{Brackets}

-- a line's end: LF, or CR LF
pub data Break : Type 0 where
  feed : Break
  return_feed : Break

-- a line that says nothing, without its end: blanks, and perhaps a comment after them
pub data Filler : Type 0 where
  blank : ℕ → Filler
  comment : ℕ → List ℕ → Filler

pub data Fillers : Type 0 where
  no_filler : Fillers
  filler : Filler → Break → Fillers → Fillers

-- a line's end, and lines that say nothing
pub record Gap : Type 0 where
  pub end : Break
  pub fillers : Fillers

-- what follows the last piece of a line: a gap and then another line; nothing, where the text ends there; or a gap and a line
-- without its end, where that is the last of the text
pub data Rest : Type 0 where
  next : Gap → Rest
  unended : Rest
  half : Gap → Filler → Rest

-- a character between double quotes: as it is, as a letter after a backslash, or as a letter and hexadecimal digits there
pub data Letter : Type 0 where
  as_is : ℕ → Letter
  short : ℕ → Letter
  code : ℕ → List ℕ → Letter

pub data Letters : Type 0 where
  no_letter : Letters
  letter : Letter → Letters → Letters

-- a scalar on one line
pub data Scalar : Type 0 where
  bare : List ℕ → Scalar
  quote : Letters → Scalar

-- a scalar or an empty collection, and what follows it; or a literal block: its text without the line ends at its end, how many
-- these are, and whether anything follows
pub data Leaf : Type 0 where
  word : Scalar → Rest → Leaf
  empty : Brackets → Rest → Leaf
  block : List ℕ → ℕ → Bool → Leaf

mutual
  pub data Collection : Type 0 where
    list : Items → Collection
    dict : Entries → Collection

  -- one item at least
  pub data Items : Type 0 where
    last : Item → Items
    item : Item → Items → Items

  -- after a mark: a blank and so many more, and a leaf or a collection; or further below a collection, so many columns further
  -- in than one right of the mark
  pub data Item : Type 0 where
    piece : ℕ → Leaf → Item
    beside : ℕ → Collection → Item
    below : Gap → ℕ → Collection → Item

  -- after a colon the same but for a collection beside it, or items at the column of their dict
  pub data Value : Type 0 where
    piece_of : ℕ → Leaf → Value
    below_key : Gap → ℕ → Collection → Value
    level : Gap → Items → Value

  -- a key before a colon and its value, or both after marks of their own
  pub data Entry : Type 0 where
    simple : Scalar → Value → Entry
    complex : Item → Item → Entry

  -- one entry at least
  pub data Entries : Type 0 where
    only : Entry → Entries
    pair : Entry → Entries → Entries

pub data Layout : Type 0 where
  leaf : Leaf → Layout
  collection : Collection → Layout

-- the whole document: what follows `---`, the column of the tree, and the tree
pub record Document : Type 0 where
  pub gap : Gap
  pub column : ℕ
  pub tree : Layout
