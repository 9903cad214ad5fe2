-- The text of a shape at a column: its first line where one stands, each further line after as many blanks, an empty one after none.
-- The end of the last line is left out.
use Rattle.std.specs.Prelude.{ℕ, ◌+◌, zero, suc, List, [], ◌∷◌, ◌++◌, ◌==◌, Bool, if◌then◌else◌, codes, Option, None, Some}
use Rattle.std.specs.Fmt.{signed_decimal}
use Rattle.snap_print.specs.Spell.{spell_text}
use Rattle.snap_print.specs.Blocks.{Blocks, before_more, is_inside, core, kept_ends, block_sign, empty_lines}
use Rattle.snap_emit_values.specs.Shape as s

abbrev pub blanks : ℕ → List ℕ
blanks zero = []
blanks (suc k) = 32 ∷ blanks k

-- the end of a line, and the blanks of the next
abbrev pub break_at : ℕ → List ℕ
break_at k = 10 ∷ blanks k

abbrev pub line_ends : ℕ → List ℕ
line_ends zero = []
line_ends (suc n) = 10 ∷ line_ends n

-- a text whose further lines stand after k blanks
abbrev pub shifted : ℕ → List ℕ → List ℕ
shifted k [] = []
shifted k (c ∷ cs) = if c == 10 then break_at k ++ shifted k cs else c ∷ shifted k cs

-- a block whose lines stand at column k, and the empty lines after it, but for the end of the last
abbrev pub block_text : ℕ → Blocks → List ℕ → List ℕ
block_text k w s = block_sign (kept_ends s) ++ (break_at k ++ (shifted k (core s) ++ line_ends (empty_lines (is_inside w) (kept_ends s))))

-- an item or a value at the column: a block, or its own text
abbrev pub child_text : ℕ → Blocks → Option (List ℕ) → List ℕ → List ℕ
child_text k w None text = text
child_text k w (Some s) text = block_text k w s

abbrev pub mark_text : ℕ → List ℕ → List ℕ
mark_text mark text = mark ∷ 32 ∷ text

-- what stands between a colon and a value at the column, by whether the value is written on the line of its key
abbrev pub gap : ℕ → Bool → List ℕ
gap k flat = if flat then 32 ∷ [] else break_at k

-- a key up to its value, from the key's text two columns further in
abbrev pub key_text : ℕ → s.Shape → Bool → List ℕ → List ℕ
key_text k key flat text = if s.is_simple key then s.spelled key ++ 58 ∷ gap (k + 2) flat else mark_text 63 text ++ (break_at k ++ 58 ∷ 32 ∷ [])

-- the text of a pair, from the texts of its key and value two columns further in
abbrev pub pair_text : ℕ → Blocks → s.Shape → s.Shape → List ℕ → List ℕ → List ℕ
pair_text k w key value text value_text = key_text k key (s.is_flat value) text ++ child_text (k + 2) w (s.block_in w value) value_text

-- what is written of a shape from where its first line begins: each further line comes after a line's end and as many blanks as the column
-- has
abbrev mutual
  pub text_at : ℕ → Blocks → s.Shape → List ℕ
  text_at k w (s.scalar s) = s
  text_at k w (s.number z) = signed_decimal z
  text_at k w (s.text s) = spell_text s
  text_at k w (s.list s.no_shapes) = codes "[]"
  text_at k w (s.list (s.shape t ts)) =
      mark_text 45 (child_text (k + 2) (s.before_shapes w ts) (s.block_in (s.before_shapes w ts) t) (text_at (k + 2) (s.before_shapes w ts) t)) ++ items_at k w ts
  text_at k w (s.dict s.no_pairs) = codes "{}"
  text_at k w (s.dict (s.pair key value ps)) =
      pair_text k (s.before_pairs w ps) key value (text_at (k + 2) (before_more w) key) (text_at (k + 2) (s.before_pairs w ps) value) ++ pairs_at k w ps

  -- further items, each on lines of its own
  pub items_at : ℕ → Blocks → s.Shapes → List ℕ
  items_at k w s.no_shapes = []
  items_at k w (s.shape t ts) =
      (break_at k ++ mark_text 45 (child_text (k + 2) (s.before_shapes w ts) (s.block_in (s.before_shapes w ts) t) (text_at (k + 2) (s.before_shapes w ts) t))) ++ items_at k w ts

  pub pairs_at : ℕ → Blocks → s.ShapePairs → List ℕ
  pairs_at k w s.no_pairs = []
  pairs_at k w (s.pair key value ps) =
      (break_at k ++ pair_text k (s.before_pairs w ps) key value (text_at (k + 2) (before_more w) key) (text_at (k + 2) (s.before_pairs w ps) value)) ++ pairs_at k w ps

-- a line that follows another: an empty one has no blanks
abbrev pub line_behind : ℕ → List ℕ → List ℕ
line_behind k [] = 10 ∷ []
line_behind k (c ∷ cs) = break_at k ++ (c ∷ cs)

abbrev pub following : ℕ → List (List ℕ) → List ℕ
following k [] = []
following k (line ∷ rest) = line_behind k line ++ following k rest

-- lines, the first where one stands and the others after k blanks
abbrev pub lines_at : ℕ → List (List ℕ) → List ℕ
lines_at k [] = []
lines_at k (first ∷ rest) = first ++ following k rest
