-- The pieces of a text, one after another.
use Rattle.snap_store.proofs.Prelude.{◌≡◌, ℕ, List, [], ◌∷◌, ◌++◌, cond, map, refl, sym, ap, ◌∙◌, append_assoc, append-nil, list_any, flat_map, is_line_end, IsUnbroken, onto, ended_lines, line_of, joined_lines, lines_text, or_left, or_right}

inside : (c : ℕ) (cs : List ℕ) → IsUnbroken (c ∷ cs) → (rest : List ℕ) → ended_lines (c ∷ rest) ≡ onto c (ended_lines rest)
inside c cs h rest = ap (λ b. cond b ((c ∷ []) ∷ ended_lines rest) (onto c (ended_lines rest))) (or_left (is_line_end c) (list_any is_line_end cs) h)

-- a line and its end are a piece
pub pieces-line : (line more : List ℕ) → IsUnbroken line → ended_lines (line ++ 10 ∷ more) ≡ (line ++ 10 ∷ []) ∷ ended_lines more
pieces-line [] more h = refl
pieces-line (c ∷ line) more h =
    inside c line h (line ++ 10 ∷ more) ∙ ap (onto c) (pieces-line line more (or_right (is_line_end c) (list_any is_line_end line) h))

-- a line after a line's end
abbrev pub behind_break : List ℕ → List ℕ
behind_break line = 10 ∷ line

pub joined_lines-cons : (line : List ℕ) (lines : List (List ℕ)) → joined_lines (line ∷ lines) ≡ line ++ flat_map behind_break lines
joined_lines-cons line [] = sym (append-nil line)
joined_lines-cons line (next ∷ lines) = ap (λ t. line ++ 10 ∷ t) (joined_lines-cons next lines)

-- the loop over the lines of a body
pub body_first : (made text piece more : List ℕ) → made ≡ [] ++ line_of piece → ended_lines text ≡ piece ∷ ended_lines more
    → made ++ flat_map behind_break (map line_of (ended_lines more)) ≡ lines_text (ended_lines text)
body_first made text piece more is cut =
    ap (λ m. m ++ flat_map behind_break (map line_of (ended_lines more))) is ∙ sym (ap lines_text cut ∙ joined_lines-cons (line_of piece) (map line_of (ended_lines more)))

pub body_more : (next made rest piece more whole : List ℕ) → next ≡ made ++ 10 ∷ [] ++ line_of piece → ended_lines rest ≡ piece ∷ ended_lines more
    → made ++ flat_map behind_break (map line_of (ended_lines rest)) ≡ whole → next ++ flat_map behind_break (map line_of (ended_lines more)) ≡ whole
body_more next made rest piece more whole is cut so_far =
    let lines = flat_map behind_break (map line_of (ended_lines more)) in
    ap (λ n. n ++ lines) is ∙ append_assoc (made ++ 10 ∷ []) (line_of piece) lines ∙ append_assoc made (10 ∷ []) (line_of piece ++ lines)
    ∙ ap (λ ps. made ++ flat_map behind_break (map line_of ps)) (sym cut) ∙ so_far
