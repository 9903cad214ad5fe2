-- What stands in quotes, without a backslash.
use Rattle.snap_select.proofs.Prelude.{◌≡◌, ℕ, ◌<◌, true, List, [], ◌∷◌, ◌++◌, length, refl, sym, ap, ◌∙◌, append_assoc, append-nil, arith, length-append, ◌==◌, ◌||◌, past, front, is_plain, Parts, outcome, inside, in_quotes, closing, Segment, Key}
use Rattle.snap_content.proofs.Booleans.{not_true, or_left, or_right}
use Rattle.snap_select.proofs.PieceFacts.{cut_at}
use Rattle.snap_select.proofs.Tokens.{either}

plain_on : (ps : Parts) (ss : List Segment) (key : List ℕ) (c : ℕ) (cs : List ℕ) → is_plain c ≡ true → outcome (inside ps ss (in_quotes key)) (c ∷ cs) ≡ outcome (inside ps ss (in_quotes (key ++ c ∷ []))) cs
plain_on ps ss key c cs h = let k = not_true ((c == 34) || (c == 92)) h in rw (or_left (c == 34) (c == 92) k, or_right (c == 34) (c == 92) k) refl

quote_on : (ps : Parts) (ss : List Segment) (key : List ℕ) (c : ℕ) (cs rest : List ℕ) → c ∷ cs ≡ 34 ∷ rest → outcome (inside ps ss (in_quotes key)) (c ∷ cs) ≡ outcome (inside ps ss (closing (Key (key ++ [])))) rest
quote_on ps ss key c cs rest h =
    ap (λ x. outcome (inside ps ss (in_quotes key)) x) h ∙ ap (λ x. outcome (inside ps ss (closing (Key x))) rest) (sym (append-nil key))

pub quoted_text : (text : List ℕ) (ps : Parts) (ss : List Segment) (rest key : List ℕ) → past is_plain text ≡ 34 ∷ rest → outcome (inside ps ss (in_quotes key)) text ≡ outcome (inside ps ss (closing (Key (key ++ front is_plain text)))) rest
quoted_text [] ps ss rest key h = absurd (cc)
quoted_text (c ∷ cs) ps ss rest key h =
    either (is_plain c) _
    (λ e. plain_on ps ss key c cs e ∙ quoted_text cs ps ss rest (key ++ c ∷ []) (rw e at h)
    ∙ ap (λ x. outcome (inside ps ss (closing (Key x))) rest) (append_assoc key (c ∷ []) (front is_plain cs) ∙ rw e refl))
    (λ e. quote_on ps ss key c cs rest (rw e at h) ∙ ap (λ x. outcome (inside ps ss (closing (Key x))) rest) (rw e refl))

-- the key that was read, and what is left is shorter
pub quoted_key : (text key rest : List ℕ) → key ≡ front is_plain text → past is_plain text ≡ 34 ∷ rest → (ps : Parts) (ss : List Segment) → outcome (inside ps ss (in_quotes [])) text ≡ outcome (inside ps ss (closing (Key key))) rest
quoted_key text key rest e h ps ss = quoted_text text ps ss rest [] h ∙ ap (λ x. outcome (inside ps ss (closing (Key x))) rest) (sym e)

pub quoted_shorter : (text rest : List ℕ) → past is_plain text ≡ 34 ∷ rest → length rest < length text
quoted_shorter text rest h =
    omega (arith, ap length (cut_at is_plain text), length-append (front is_plain text) (past is_plain text), ap length h)

pub plain_cut : (text quote : List ℕ) → quote ≡ past is_plain text → text ≡ front is_plain text ++ quote
plain_cut text quote h = cut_at is_plain text ∙ ap (λ x. front is_plain text ++ x) (sym h)
