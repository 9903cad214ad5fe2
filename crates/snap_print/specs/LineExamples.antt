-- Texts with literal blocks, worked out by hand.
use Rattle.std.specs.Prelude.{◌≡◌, ℕ, List, codes, pos}
use Rattle.snap_content.specs.Plain.{Plain, int, text, list, dict, no_items, item, no_entries, entry}
use Rattle.snap_print.specs.Blocks.{off, inside, end, last}
use Rattle.snap_print.specs.Lines.{text_of, document_of}

-- a dict of one pair, and of two, the second of which is `b` and 1
abbrev pub alone : List ℕ → List ℕ → Plain
alone key value = dict (entry (text key) (text value) no_entries)

abbrev pub followed : List ℕ → Plain
followed value = dict (entry (text (codes "a")) (text value) (entry (text (codes "b")) (int (pos 1)) no_entries))

abbrev pub twice : List ℕ → Plain
twice value = list (item (text value) (item (text value) no_items))

-- trees with literal blocks, and their texts, which were worked out by hand
pub record ArePrinted : Type 0 where
  -- one line end is the sign's, and an empty line stands before what follows
  pub in_a_map : document_of last (followed (codes "x\ny\n")) ≡ codes "---\na: |\n  x\n  y\n\nb: 1\n"
  pub saved : text_of last (alone (codes "a") (codes "x\ny")) ≡ codes "a: |-\n  x\n  y\n"
  -- two line ends are kept where something follows, and quoted where the end is trimmed
  pub kept_inside : document_of last (followed (codes "x\n\n")) ≡ codes "---\na: |+\n  x\n\nb: 1\n"
  pub kept_last : document_of last (alone (codes "a") (codes "x\n\n")) ≡ codes "---\na: \"x\\n\\n\"\n"
  pub kept_at_the_end : document_of end (alone (codes "content") (codes "Line 1\n\n\n")) ≡ codes "---\ncontent: |+\n  Line 1\n\n\n"
  pub trailing_blank : document_of last (twice (codes "x\ny ")) ≡ codes "---\n- |-\n  x\n  y \n\n- \"x\\ny \"\n"
  -- an empty line of the text has the column's blanks, and a line of dashes is none of the document's
  pub empty_line : text_of end (alone (codes "a") (codes "x\n\ny")) ≡ codes "a: |-\n  x\n  \n  y\n"
  pub dashes : text_of last (alone (codes "a") (codes "---\nx")) ≡ codes "a: |-\n  ---\n  x\n"
  -- what begins with white space is quoted, and everything where blocks are off
  pub leading_blank : text_of inside (alone (codes "a") (codes " x\ny")) ≡ codes "a: \" x\\ny\"\n"
  pub without : text_of off (alone (codes "a") (codes "x\ny")) ≡ codes "a: \"x\\ny\"\n"
  -- a text by itself, and a key, are never blocks
  pub at_the_top : text_of last (text (codes "x\ny")) ≡ codes "\"x\\ny\"\n"
  pub as_a_key : text_of last (alone (codes "x\ny") (codes "x\ny")) ≡ codes "\"x\\ny\": |-\n  x\n  y\n"
