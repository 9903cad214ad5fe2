-- A text as its pieces.
use Rattle.snap_emit.proofs.Prelude.{◌≡◌, ℕ, List, [], ◌∷◌, ◌++◌, Bool, true, false, cond, ◌||◌, refl, sym, ap, ◌∙◌, append_assoc, list_any, or_left, or_right, or_nothing, ends_piece, pieces, IsPieceThen, is_number_piece, has_number_piece, or_from}
use Rattle.snap_str.specs.Lines.{onto}

-- what was passed of a text, and ends no piece
pub record IsPassed (text rest : List ℕ) : Type 0 where
  pub front : List ℕ
  pub is : text ≡ front ++ rest
  pub whole : list_any ends_piece front ≡ false

none-more : (xs : List ℕ) (c : ℕ) → list_any ends_piece xs ≡ false → ends_piece c ≡ false → list_any ends_piece (xs ++ c ∷ []) ≡ false
none-more [] c h k = or_from (ends_piece c) false k refl
none-more (x ∷ xs) c h k =
    or_from (ends_piece x) (list_any ends_piece (xs ++ c ∷ [])) (or_left (ends_piece x) _ h) (none-more xs c (or_right (ends_piece x) _ h) k)

pub passed-more : (text rest more : List ℕ) (c : ℕ) → IsPassed text rest → rest ≡ c ∷ more → ends_piece c ≡ false → IsPassed text more
passed-more text rest more c passed is goes_on = record {
  front = passed.front ++ c ∷ [];
  is = passed.is ∙ ap (λ r. passed.front ++ r) is ∙ sym (append_assoc passed.front (c ∷ []) more);
  whole = none-more passed.front c passed.whole goes_on;
}

parted : (c : ℕ) (cs : List ℕ) (ends : Bool) → ends_piece c ≡ ends → pieces (c ∷ cs) ≡ cond ends ([] ∷ pieces cs) (onto c (pieces cs))
parted c cs ends is = ap (λ b. cond b ([] ∷ pieces cs) (onto c (pieces cs))) is

pieces-cut : (piece more : List ℕ) (c : ℕ) → list_any ends_piece piece ≡ false → ends_piece c ≡ true → pieces (piece ++ c ∷ more) ≡ piece ∷ pieces more
pieces-cut [] more c none ends = parted c more true ends
pieces-cut (x ∷ xs) more c none ends =
    parted x (xs ++ c ∷ more) false (or_left (ends_piece x) _ none) ∙ ap (onto x) (pieces-cut xs more c (or_right (ends_piece x) _ none) ends)

pieces-whole : (text : List ℕ) → list_any ends_piece text ≡ false → pieces text ≡ text ∷ []
pieces-whole [] none = refl
pieces-whole (x ∷ xs) none = parted x xs false (or_left (ends_piece x) _ none) ∙ ap (onto x) (pieces-whole xs (or_right (ends_piece x) _ none))

-- a number among the pieces is the first piece, or it is among the others
pub number-cut : (text piece more : List ℕ) (first : Bool) → IsPieceThen text piece more → first ≡ is_number_piece piece → has_number_piece text ≡ (first || has_number_piece more)
number-cut text piece more first cut same =
    ap has_number_piece cut.is ∙ ap (list_any is_number_piece) (pieces-cut piece more cut.end cut.whole cut.ends) ∙ ap (λ b. b || has_number_piece more) (sym same)

pub number-whole : (text : List ℕ) → list_any ends_piece text ≡ false → has_number_piece text ≡ is_number_piece text
number-whole text none = ap (list_any is_number_piece) (pieces-whole text none) ∙ or_nothing (is_number_piece text)
