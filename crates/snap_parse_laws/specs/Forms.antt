-- What is printed of a tree, once it is decided which texts stand in quotes and which keys stand before a colon: its text by columns,
-- and its tokens.
use Rattle.std.specs.Prelude.{ℕ, zero, suc, ◌+◌, if◌then◌else◌, slice_index, ◌==◌, ◌&&◌, ◌||◌, ◌≡◌, nat_le, length, List, [], ◌∷◌, ◌++◌, Bool, true, false, not, codes}
use Rattle.std.specs.List.{list_any}
use Rattle.snap_scan_tokens.specs.Characters.{is_blank, is_break}
use Rattle.snap_print.specs.Spell.{quoted}
use Rattle.snap_print.specs.Blocks.{block_sign, empty_lines}
use Rattle.snap_scan_tokens.specs.declared.token.TokenType.{TokenType}
use Rattle.snap_scan_tokens.specs.declared.token.TokenType.TheVariants as k
use Rattle.snap_scan_tokens.specs.declared.token.TScalarStyle.TheVariants as style

-- a text that stands as it is, or in double quotes
pub data Scalar : Type 0 where
  bare : List ℕ → Scalar
  quote : List ℕ → Scalar

-- of an empty list, and of an empty dict
pub data Brackets : Type 0 where
  square : Brackets
  curly : Brackets

abbrev pub open_sign : Brackets → ℕ
open_sign square = 91
open_sign curly = 123

abbrev pub close_sign : Brackets → ℕ
close_sign square = 93
close_sign curly = 125

abbrev pub open_token : Brackets → TokenType
open_token square = k.FlowSequenceStart
open_token curly = k.FlowMappingStart

abbrev pub close_token : Brackets → TokenType
close_token square = k.FlowSequenceEnd
close_token curly = k.FlowMappingEnd

mutual
  pub data Form : Type 0 where
    scalar : Scalar → Form
    -- a literal block: the text without the line ends at its end, how many these are, and whether anything follows
    block : List ℕ → ℕ → Bool → Form
    hollow : Brackets → Form
    list : Forms → Form
    dict : Entries → Form

  -- one item at least
  pub data Forms : Type 0 where
    last : Form → Forms
    item : Form → Forms → Forms

  -- a key before a colon and its value, or both after marks of their own
  pub data Entry : Type 0 where
    simple : Scalar → Form → Entry
    complex : Form → Form → Entry

  -- one entry at least
  pub data Entries : Type 0 where
    only : Entry → Entries
    pair : Entry → Entries → Entries

abbrev pub blanks : ℕ → List ℕ
blanks zero = []
blanks (suc n) = 32 ∷ blanks n

abbrev pub line_ends : ℕ → List ℕ
line_ends zero = []
line_ends (suc n) = 10 ∷ line_ends n

-- a text whose further lines stand after n blanks
abbrev pub shifted : ℕ → List ℕ → List ℕ
shifted n [] = []
shifted n (c ∷ cs) = if c == 10 then 10 ∷ (blanks n ++ shifted n cs) else c ∷ shifted n cs

-- a block whose lines stand at column n, and the empty lines after it
abbrev pub block_at : ℕ → List ℕ → ℕ → Bool → List ℕ
block_at n w kept more = block_sign kept ++ (10 ∷ (blanks n ++ (shifted n w ++ (10 ∷ line_ends (empty_lines more kept)))))

-- what goes on in the text of a block, and does not end in a line end
abbrev pub is_block_tail : Bool → List ℕ → Bool
is_block_tail ended [] = not ended
is_block_tail ended (c ∷ cs) = not (c == 13 || c == 0) && is_block_tail (c == 10) cs

-- a text, without the line ends at its end, that can stand as a block
abbrev pub is_block : List ℕ → Bool
is_block [] = false
is_block (c ∷ cs) = not (is_blank c || is_break c || c == 0) && is_block_tail false cs

abbrev pub is_word_character : ℕ → Bool
is_word_character c = not (is_blank c || is_break c || c == 0 || c == 58 || c == 35)

-- a sign that begins something else than a plain scalar, alone or wherever it stands
abbrev pub is_sign : ℕ → Bool
is_sign c = list_any (λ sign. c == sign) (codes "[]{},-?*&!|>'\"%@`")

-- a character that begins a plain scalar wherever it stands
abbrev pub is_word_start : ℕ → Bool
is_word_start c = not (is_sign c || c == 46) && is_word_character c

-- what may stand after a `-` or a `.` in front of a bare text: no second one, and nothing that ends it there
abbrev pub is_behind : ℕ → ℕ → Bool
is_behind c d = is_word_character d && not (d == c)

abbrev pub is_start : ℕ → List ℕ → Bool
is_start c cs = is_word_start c || ((c == 45 || c == 46) && is_behind c (slice_index cs 0))

-- what goes on in a bare text, and does not end in a blank
abbrev pub is_tail : Bool → List ℕ → Bool
is_tail blank [] = not blank
is_tail blank (c ∷ cs) = if c == 32 then is_tail true cs else is_word_character c && is_tail false cs

-- a text of one line that is one plain scalar wherever it stands
abbrev pub is_bare : List ℕ → Bool
is_bare [] = false
is_bare (c ∷ cs) = is_start c cs && is_tail false cs

abbrev pub spelled : Scalar → List ℕ
spelled (bare w) = w
spelled (quote s) = quoted s

abbrev pub scalar_token : Scalar → TokenType
scalar_token (bare w) = k.Scalar style.Plain w
scalar_token (quote s) = k.Scalar style.DoubleQuoted s

abbrev pub is_scalar : Scalar → Bool
is_scalar (bare w) = is_bare w
is_scalar (quote s) = true

abbrev pub is_key : Scalar → Bool
is_key s = is_scalar s && nat_le (length (spelled s)) 1024

-- a form whose further lines stand at the column of its first: no block, which is an item or a value
abbrev pub IsNode : Form → Type 0
IsNode (scalar s) = Unit {0}
IsNode (block w kept more) = ⊥
IsNode (hollow q) = Unit {0}
IsNode (list ts) = Unit {0}
IsNode (dict es) = Unit {0}

abbrev mutual
  pub IsPrintable : Form → Type 0
  IsPrintable (scalar s) = is_scalar s ≡ true
  IsPrintable (block w kept more) = is_block w ≡ true
  IsPrintable (hollow q) = Unit {0}
  IsPrintable (list ts) = ArePrintable ts
  IsPrintable (dict es) = AreEntries es

  pub ArePrintable : Forms → Type 0
  ArePrintable (last t) = IsPrintable t
  ArePrintable (item t ts) = IsPrintable t × ArePrintable ts

  pub IsEntry : Entry → Type 0
  IsEntry (simple s v) = (is_key s ≡ true) × IsPrintable v
  IsEntry (complex q v) = IsPrintable q × IsPrintable v × IsNode q

  pub AreEntries : Entries → Type 0
  AreEntries (only e) = IsEntry e
  AreEntries (pair e es) = IsEntry e × AreEntries es

-- a value after the colon of a key at column j: on the same line, or on the next, two columns further in
abbrev pub value_block : ℕ → Form → List ℕ → List ℕ
value_block j (scalar s) text = 32 ∷ text
value_block j (block w kept more) text = 32 ∷ text
value_block j (hollow q) text = 32 ∷ text
value_block j (list ts) text = 10 ∷ (blanks (j + 1 + 1) ++ text)
value_block j (dict es) text = 10 ∷ (blanks (j + 1 + 1) ++ text)

abbrev mutual
  -- the text of a tree whose first line stands at column k, or of a block whose further lines do
  pub text_at : ℕ → Form → List ℕ
  text_at k (scalar s) = spelled s ++ 10 ∷ []
  text_at k (block w kept more) = block_at k w kept more
  text_at k (hollow q) = open_sign q ∷ close_sign q ∷ 10 ∷ []
  text_at k (list ts) = 45 ∷ 32 ∷ inside k ts
  text_at k (dict es) = entries_at k es

  -- the text after the first mark of items at column k
  pub inside : ℕ → Forms → List ℕ
  inside k (last t) = text_at (k + 1 + 1) t
  inside k (item t ts) = text_at (k + 1 + 1) t ++ (blanks k ++ (45 ∷ 32 ∷ inside k ts))

  pub entry_at : ℕ → Entry → List ℕ
  entry_at k (simple s v) = spelled s ++ (58 ∷ value_block k v (text_at (k + 1 + 1) v))
  entry_at k (complex q v) = 63 ∷ 32 ∷ (text_at (k + 1 + 1) q ++ (blanks k ++ (58 ∷ 32 ∷ text_at (k + 1 + 1) v)))

  pub entries_at : ℕ → Entries → List ℕ
  entries_at k (only e) = entry_at k e
  entries_at k (pair e es) = entry_at k e ++ (blanks k ++ entries_at k es)

abbrev mutual
  pub tokens_of : Form → List TokenType
  tokens_of (scalar s) = scalar_token s ∷ []
  tokens_of (block w kept more) = k.Scalar style.Literal (w ++ line_ends kept) ∷ []
  tokens_of (hollow q) = open_token q ∷ close_token q ∷ []
  tokens_of (dict es) = k.BlockMappingStart ∷ (entries_tokens es ++ k.BlockEnd ∷ [])
  tokens_of (list ts) = k.BlockSequenceStart ∷ k.BlockEntry ∷ (inside_tokens ts ++ k.BlockEnd ∷ [])

  -- the tokens after the first BlockEntry of items
  pub inside_tokens : Forms → List TokenType
  inside_tokens (last t) = tokens_of t
  inside_tokens (item t ts) = tokens_of t ++ (k.BlockEntry ∷ inside_tokens ts)

  pub entry_tokens : Entry → List TokenType
  entry_tokens (simple s v) = k.Key ∷ scalar_token s ∷ k.Value ∷ tokens_of v
  entry_tokens (complex q v) = k.Key ∷ (tokens_of q ++ (k.Value ∷ tokens_of v))

  pub entries_tokens : Entries → List TokenType
  entries_tokens (only e) = entry_tokens e
  entries_tokens (pair e es) = entry_tokens e ++ entries_tokens es

-- a document of one form, by columns
abbrev pub document_at : Form → List ℕ
document_at t = codes "---\n" ++ text_at 0 t
