-- What must hold of a layout, so that a scanner reads it as its tree. A bare text is one by the scanner's own test, so printed
-- forms are such layouts too; what a hand may write bare is said in `FreeLayouts`.
use Rattle.std.specs.Prelude.{ℕ, ◌+◌, ◌==◌, ◌&&◌, ◌||◌, ◌≡◌, nat_le, length, is_some, Bool, true, not}
use Rattle.std.specs.List.{list_all}
use Rattle.snap_scan_tokens.specs.Characters.{is_break}
use Rattle.snap_scan_tokens.specs.Quoted.{escaped, further_digits, hexadecimal, is_code, value_of}
use Rattle.snap_parse_laws.specs.Forms.{is_bare, is_block}
use Rattle.snap_parse_laws.specs.Layouts.{Filler, blank, comment, Fillers, no_filler, filler, Gap, Rest, next, unended, half, Letter, as_is, short, code, Letters, no_letter, letter, Scalar, bare, quote, Leaf, word, empty, block, Collection, list, dict, Items, last, item, Item, piece, beside, below, Value, piece_of, below_key, level, Entry, simple, complex, Entries, only, pair, Layout, leaf, collection, Document}
use Rattle.snap_parse_laws.specs.LayoutTexts.{spelled, number_from}

-- where a part stands: before other lines of the text, or at its end
pub data Position : Type 0 where
  inside : Position
  ending : Position

abbrev pub is_in_comment : ℕ → Bool
is_in_comment c = not (is_break c || c == 0)

abbrev pub is_filler : Filler → Bool
is_filler (blank n) = true
is_filler (comment n cs) = list_all is_in_comment cs

abbrev pub are_fillers : Fillers → Bool
are_fillers no_filler = true
are_fillers (filler f e fs) = is_filler f && are_fillers fs

abbrev pub is_gap : Gap → Bool
is_gap g = are_fillers g.fillers

-- only what ends the text may end without a line's end
abbrev pub IsRest : Position → Rest → Type 0
IsRest p (next g) = is_gap g ≡ true
IsRest p unended = p ≡ ending
IsRest p (half g f) = (p ≡ ending) × (is_gap g ≡ true) × (is_filler f ≡ true)

abbrev pub is_hexadecimal : ℕ → Bool
is_hexadecimal d = is_some (hexadecimal d)

abbrev pub is_letter : Letter → Bool
is_letter (as_is c) = not (c == 34 || c == 92 || is_break c || c == 0)
is_letter (short e) = is_some (escaped e)
is_letter (code e ds) =
    is_some (further_digits e) && length ds == value_of (further_digits e) + 1 && list_all is_hexadecimal ds && is_code (number_from 0 ds)

abbrev pub are_letters : Letters → Bool
are_letters no_letter = true
are_letters (letter a s) = is_letter a && are_letters s

abbrev pub is_scalar : Scalar → Bool
is_scalar (bare w) = is_bare w
is_scalar (quote s) = are_letters s

abbrev pub is_key : Scalar → Bool
is_key s = is_scalar s && nat_le (length (spelled s)) 1024

abbrev pub IsLeaf : Position → Leaf → Type 0
IsLeaf p (word s r) = (is_scalar s ≡ true) × IsRest p r
IsLeaf p (empty q r) = IsRest p r
IsLeaf p (block w kept more) = is_block w ≡ true

abbrev mutual
  pub IsCollection : Position → Collection → Type 0
  IsCollection p (list ts) = AreItems p ts
  IsCollection p (dict es) = AreEntries p es

  pub AreItems : Position → Items → Type 0
  AreItems p (last t) = IsItem p t
  AreItems p (item t ts) = IsItem inside t × AreItems p ts

  pub IsItem : Position → Item → Type 0
  IsItem p (piece n t) = IsLeaf p t
  IsItem p (beside n t) = IsCollection p t
  IsItem p (below g n t) = (is_gap g ≡ true) × IsCollection p t

  pub IsValue : Position → Value → Type 0
  IsValue p (piece_of n t) = IsLeaf p t
  IsValue p (below_key g n t) = (is_gap g ≡ true) × IsCollection p t
  IsValue p (level g ts) = (is_gap g ≡ true) × AreItems p ts

  pub IsEntry : Position → Entry → Type 0
  IsEntry p (simple s v) = (is_key s ≡ true) × IsValue p v
  IsEntry p (complex q v) = IsItem inside q × IsItem p v

  pub AreEntries : Position → Entries → Type 0
  AreEntries p (only e) = IsEntry p e
  AreEntries p (pair e es) = IsEntry inside e × AreEntries p es

abbrev pub IsLayout : Position → Layout → Type 0
IsLayout p (leaf t) = IsLeaf p t
IsLayout p (collection t) = IsCollection p t

-- what a scanner asks of a layout: its gap, comments, letters and rests are such, a bare text is one by the scanner's test, and a key has
-- at most 1,024 characters
abbrev pub IsDocument : Document → Type 0
IsDocument d = (is_gap d.gap ≡ true) × IsLayout ending d.tree
