-- Layouts that were worked out by hand.
use Rattle.std.specs.Prelude.{◌≡◌, ℕ, List, [], ◌∷◌, true, false, codes}
use Rattle.snap_parse_laws.specs.FreeLayouts.{IsFree}
use Rattle.snap_parse_laws.specs.LayoutRules.{IsDocument}
use Rattle.snap_parse_laws.specs.Forms.{square}
use Rattle.snap_parse_laws.specs.Layouts.{Gap, feed, return_feed, no_filler, filler, blank, comment, next, half, Letters, letter, no_letter, as_is, short, code, bare, quote, Leaf, word, empty, block, Collection, list, dict, item, last, piece, beside, below, piece_of, below_key, level, Entry, simple, pair, only, collection, Document}
use Rattle.snap_parse_laws.specs.LayoutTexts.{document_text}

abbrev fed : Gap
fed = record { end = feed; fillers = no_filler }

abbrev returned : Gap
returned = record { end = return_feed; fillers = no_filler }

-- the same before a comment on a line of its own, and before an empty line
abbrev noted : Gap
noted = record { end = return_feed; fillers = filler (comment 0 (codes " note")) return_feed no_filler }

abbrev spaced : Gap
spaced = record { end = feed; fillers = filler (blank 0) feed no_filler }

abbrev bare_leaf : List ℕ → Gap → Leaf
bare_leaf s g = word (bare s) (next g)

-- a key, a colon, one blank and so many more, a bare text
abbrev bare_entry : List ℕ → ℕ → List ℕ → Gap → Entry
bare_entry key n s g = simple (bare key) (piece_of n (bare_leaf s g))

abbrev as_they_are : List ℕ → Letters
as_they_are [] = no_letter
as_they_are (c ∷ cs) = letter (as_is c) (as_they_are cs)

abbrev info : Collection
info = list (item (piece 0 (bare_leaf (codes "1") returned)) (last (beside 2 (dict (only (bare_entry (codes "b") 0 (codes "2") returned))))))

-- a header whose lines end in CR LF: a comment, more blanks than one, a text in quotes, a list further in, a dict beside its dash
abbrev pub hand_header : Document
hand_header = record {
  gap = returned;
  column = 0;
  tree = collection (dict (pair (bare_entry (codes "source") 2 (codes "src/a.rs") noted)
      (pair (simple (bare (codes "expression")) (piece_of 0 (word (quote (as_they_are (codes "x"))) (next returned))))
      (only (simple (bare (codes "info")) (below_key returned 3 info))))));
}

-- a request with an empty line and a value further in
abbrev pub hand_request : Document
hand_request = record {
  gap = fed;
  column = 0;
  tree = collection (dict (pair (bare_entry (codes "module") 0 (codes "m") fed)
      (pair (simple (bare (codes "file")) (piece_of 0 (word (quote (as_they_are (codes "src/a.rs"))) (next fed))))
      (pair (bare_entry (codes "line") 0 (codes "7") spaced)
      (pair (bare_entry (codes "name") 0 (codes "one") fed)
      (pair (bare_entry (codes "expr") 0 (codes "x") fed)
      (only (simple (bare (codes "value")) (below_key fed 4 (dict (only (bare_entry (codes "a") 2 (codes "1") fed))))))))))));
}

abbrev nulls : Collection
nulls = dict (only (simple (bare (codes "null")) (piece_of 0 (empty square (next fed)))))

-- items at the column of their dict, a collection below its dash, null in its other way, each kind of letter, a kept number, and a
-- comment that ends the text without its line's end
abbrev pub hand_list : Document
hand_list = record {
  gap = record { end = feed; fillers = filler (blank 2) feed no_filler };
  column = 1;
  tree = collection (dict (pair (simple (quote (letter (short 116) (letter (code 120 (codes "4a")) (letter (code 117 (codes "00E9")) (letter (code 85 (codes "0001f600")) no_letter)))))
      (level fed (item (below fed 1 nulls) (last (piece 1 (bare_leaf (codes "-.inf") fed))))))
      (only (simple (bare (codes "7")) (piece_of 0 (word (bare (codes "x y")) (half fed (comment 3 (codes "#")))))))));
}

-- a literal block before another key, whose second line is empty, and one that ends the text in an empty line
abbrev pub blocks : Document
blocks = record {
  gap = fed;
  column = 0;
  tree = collection (dict (pair (simple (bare (codes "a")) (piece_of 0 (block (codes "x\n\n y") 1 true)))
      (only (simple (bare (codes "b")) (level fed (last (piece 0 (block (codes "z") 2 false))))))));
}

-- layouts that were worked out by hand, and their texts
pub record AreLaid : Type 0 where
  pub header : document_text hand_header ≡ codes "---\r\nsource:   src/a.rs\r\n# note\r\nexpression: \"x\"\r\ninfo:\r\n    - 1\r\n    -   b: 2\r\n"
  pub header_free : IsFree hand_header
  pub request : document_text hand_request ≡ codes "---\nmodule: m\nfile: \"src/a.rs\"\nline: 7\n\nname: one\nexpr: x\nvalue:\n     a:   1\n"
  pub request_free : IsFree hand_request
  pub list_text : document_text hand_list ≡ codes "---\n  \n \"\\t\\x4a\\u00E9\\U0001f600\":\n -\n   null: []\n -  -.inf\n 7: x y\n   ##"
  pub list_free : IsFree hand_list
  pub blocks_text : document_text blocks ≡ codes "---\na: |\n  x\n  \n   y\n\nb:\n- |+\n  z\n\n"
  pub blocks_laid : IsDocument blocks
