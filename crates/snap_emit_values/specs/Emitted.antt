-- The text of a list or dict of shapes at a column.
use Rattle.std.specs.Prelude.{ℕ, ◌+◌, List, [], ◌∷◌, ◌++◌, codes, Bool}
use Rattle.snap_print.specs.Spell.{spell_text}
use Rattle.snap_print.specs.Blocks.{Blocks, before_more}
use Rattle.snap_emit_values.specs.Columns.{break_at, child_text, mark_text, text_at, key_text}
use Rattle.snap_emit_values.specs.Shape.{Shape, text, block_in, is_flat}

-- an item or a value: a block, or its own text
abbrev pub child_of : ℕ → Blocks → Shape → List ℕ
child_of k w t = child_text k w (block_in w t) (text_at k w t)

-- the same of a text
abbrev pub text_of_child : ℕ → Blocks → List ℕ → List ℕ
text_of_child k w s = child_text k w (block_in w (text s)) (spell_text s)

abbrev pub item_of : ℕ → Blocks → Shape → List ℕ
item_of k w t = mark_text 45 (child_of (k + 2) w t)

-- pieces on lines of their own at the column: the last piece of one kind, those before it of another
abbrev pub on_lines : {X : Type 0} → ℕ → (X → List ℕ) → (X → List ℕ) → List X → List ℕ
on_lines k before last [] = []
on_lines k before last (x ∷ []) = last x
on_lines k before last (x ∷ y ∷ ys) = (before x ++ break_at k) ++ on_lines k before last (y ∷ ys)

-- something follows each item but the last
abbrev pub list_text : ℕ → Blocks → List Shape → List ℕ
list_text k w [] = codes "[]"
list_text k w (t ∷ ts) = on_lines k (item_of k (before_more w)) (item_of k w) (t ∷ ts)

-- a key up to its value
abbrev pub key_of : ℕ → Blocks → Shape → Bool → List ℕ
key_of k w key flat = key_text k key flat (text_at (k + 2) w key)

abbrev pub pair_of : ℕ → Blocks → Shape × Shape → List ℕ
pair_of k w p = key_of k (before_more w) p.0 (is_flat p.1) ++ child_of (k + 2) w p.1

abbrev pub dict_text : ℕ → Blocks → List (Shape × Shape) → List ℕ
dict_text k w [] = codes "{}"
dict_text k w (p ∷ ps) = on_lines k (pair_of k (before_more w)) (pair_of k w) (p ∷ ps)
