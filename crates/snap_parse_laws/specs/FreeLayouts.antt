-- The free layout: what a hand may write, said by what is written alone.
use Rattle.std.specs.Prelude.{◌≡◌, ◌⊎◌, ℕ, List, true, false, length, nat_le, codes}
use Rattle.std.specs.Fmt.{signed_decimal}
use Rattle.snap_content.specs.Plain.{null, bool, int, text, list, dict}
use Rattle.snap_content.specs.Quotes.{needs_quotes}
use Rattle.snap_print.specs.Spell.{spell_bool}
use Rattle.snap_print.specs.Typed.{Typed, value, real, typed}
use Rattle.snap_parse_laws.specs.Layouts.{Scalar, bare, quote, Leaf, word, empty, block, Collection, list as a_list, dict as a_dict, Items, last, item, Item, piece, beside, below, Value, piece_of, below_key, level, Entry, simple, complex, Entries, only, pair, Layout, leaf, collection, Document}
use Rattle.snap_parse_laws.specs.LayoutTexts.{spelled}
use Rattle.snap_parse_laws.specs.LayoutRules.{Position, inside, ending, is_gap, IsRest, are_letters}

-- a bare text, by what a reader takes it for: null in two ways, a truth, a whole number as it is printed, a text that needs no
-- quotes; or, in headers alone, a number that is no whole one
abbrev pub IsBareOf : Typed → List ℕ → Type 0
IsBareOf (value null) u = (u ≡ codes "~") ⊎ (u ≡ codes "null")
IsBareOf (value (bool b)) u = u ≡ spell_bool b
IsBareOf (value (int z)) u = u ≡ signed_decimal z
IsBareOf (value (text s)) u = needs_quotes u ≡ false
IsBareOf (value (list _)) u = ⊥
IsBareOf (value (dict _)) u = ⊥
IsBareOf real u = Unit {0}

abbrev pub IsScalar : Scalar → Type 0
IsScalar (bare u) = IsBareOf (typed u) u
IsScalar (quote s) = are_letters s ≡ true

abbrev pub IsKey : Scalar → Type 0
IsKey s = IsScalar s × (nat_le (length (spelled s)) 1024 ≡ true)

-- no block stands in it
abbrev pub IsLeaf : Position → Leaf → Type 0
IsLeaf p (word s r) = IsScalar s × IsRest p r
IsLeaf p (empty q r) = IsRest p r
IsLeaf p (block w kept more) = ⊥

abbrev mutual
  pub IsCollection : Position → Collection → Type 0
  IsCollection p (a_list ts) = AreItems p ts
  IsCollection p (a_dict es) = AreEntries p es

  pub AreItems : Position → Items → Type 0
  AreItems p (last t) = IsItem p t
  AreItems p (item t ts) = IsItem inside t × AreItems p ts

  pub IsItem : Position → Item → Type 0
  IsItem p (piece n t) = IsLeaf p t
  IsItem p (beside n t) = IsCollection p t
  IsItem p (below g n t) = (is_gap g ≡ true) × IsCollection p t

  pub IsValue : Position → Value → Type 0
  IsValue p (piece_of n t) = IsLeaf p t
  IsValue p (below_key g n t) = (is_gap g ≡ true) × IsCollection p t
  IsValue p (level g ts) = (is_gap g ≡ true) × AreItems p ts

  -- a key stands before its colon
  pub IsEntry : Position → Entry → Type 0
  IsEntry p (simple s v) = IsKey s × IsValue p v
  IsEntry p (complex q v) = ⊥

  pub AreEntries : Position → Entries → Type 0
  AreEntries p (only e) = IsEntry p e
  AreEntries p (pair e es) = IsEntry inside e × AreEntries p es

abbrev pub IsLayout : Position → Layout → Type 0
IsLayout p (leaf t) = IsLeaf p t
IsLayout p (collection t) = IsCollection p t

-- a free layout: each bare text is spelled as what it means, and no entry has marks of its own
abbrev pub IsFree : Document → Type 0
IsFree d = (is_gap d.gap ≡ true) × IsLayout ending d.tree
