-- The four kinds of pieces: scalars and empty collections, each of which is a line.
use Rattle.snap_print.proofs.Prelude.{◌≡◌, ℕ, List, [], ◌∷◌, ◌++◌, Bool, true, false, not, cond, refl, ap, ◌∙◌, flat_map, list_any, IsLine, is_break, begins_dashes, needs_quotes, is_special, is_word, IsWithin, spelling, is_flat, quoted, escaped, ends_badly-push, or_left, or_right}
use Rattle.snap_content.specs.Plain as p
use Rattle.snap_print.proofs.Escapes.{unbroken-escaped}
use Rattle.snap_print.proofs.Tests.{apart}
use Rattle.snap_print.proofs.Words.{IsPlainWord, word}

-- the four kinds of pieces
pub data Piece (t : p.Plain) : List ℕ → Type 0 where
  word_piece : {cs : List ℕ} → is_word t ≡ true → IsPlainWord cs → Piece t cs
  quoted_piece : (s : List ℕ) → p.text s ≡ t → Piece t (quoted s)
  list_piece : p.list p.no_items ≡ t → Piece t (91 ∷ 93 ∷ [])
  dict_piece : p.dict p.no_entries ≡ t → Piece t (123 ∷ 125 ∷ [])

text_piece : (s : List ℕ) (b : Bool) → needs_quotes s ≡ b → Piece (p.text s) (cond b (quoted s) s)
text_piece s true h = quoted_piece s refl
text_piece s false h =
    let holds : is_word (p.text s) ≡ true = ap not h in
    word_piece holds (rw h at (word (p.text s) holds tt))

pub piece : (t : p.Plain) → is_flat t ≡ true → IsWithin t → Piece t (spelling t)
piece p.null h k = word_piece refl (word p.null refl k)
piece (p.bool b) h k = word_piece refl (word (p.bool b) refl k)
piece (p.int z) h k = word_piece refl (word (p.int z) refl k)
piece (p.text s) h k = text_piece s (needs_quotes s) refl
piece (p.list p.no_items) h k = list_piece refl
piece (p.list (p.item _ _)) h k = absurd (cc)
piece (p.dict p.no_entries) h k = dict_piece refl
piece (p.dict (p.entry _ _ _)) h k = absurd (cc)

-- a piece is a line of its own
special_break : (c : ℕ) → is_special c ≡ false → is_break c ≡ false
special_break c h = rw (apart is_special c 10 h refl, apart is_special c 13 h refl) refl

clear_unbroken : (cs : List ℕ) → list_any is_special cs ≡ false → list_any is_break cs ≡ false
clear_unbroken [] h = refl
clear_unbroken (c ∷ cs) h =
    rw (special_break c (or_left (is_special c) (list_any is_special cs) h)) (clear_unbroken cs (or_right (is_special c) (list_any is_special cs) h))

piece_line : (t : p.Plain) (cs : List ℕ) → Piece t cs → IsLine cs
piece_line t cs (word_piece h w) = record {
  first = w.first;
  more = w.more;
  is = w.is;
  unbroken = clear_unbroken cs w.clear;
  trimmed = w.trimmed;
  no_dashes = ap begins_dashes w.is ∙ w.no_dash;
}
piece_line t _ (quoted_piece s h) = record {
  first = 34;
  more = flat_map escaped s ++ 34 ∷ [];
  is = refl;
  unbroken = unbroken-escaped s (34 ∷ []);
  trimmed = ends_badly-push (34 ∷ flat_map escaped s) 34;
  no_dashes = refl;
}
piece_line t _ (list_piece h) = record { first = 91; more = 93 ∷ []; is = refl; unbroken = refl; trimmed = refl; no_dashes = refl }
piece_line t _ (dict_piece h) = record { first = 123; more = 125 ∷ []; is = refl; unbroken = refl; trimmed = refl; no_dashes = refl }

pub spelling_line : (t : p.Plain) → is_flat t ≡ true → IsWithin t → IsLine (spelling t)
spelling_line t h k = piece_line t (spelling t) (piece t h k)
