-- No quote of a text is followed by as many `#` as the text requires, nor is one of its framed form.
use Rattle.snap_text_literals.proofs.Prelude.{◌≡◌, ◌==◌, ℕ, zero, suc, ◌<◌, ◌≤◌, max, List, [], ◌∷◌, ◌++◌, Bool, true, false, cond, None, refl, sym, ap, ◌∙◌, arith, append_assoc, append-nil, true-eqb, list_any, flat_map, is_some, or_left, or_right, past_hashes, past_end, has_end, run, required, line_parts, framed_line, shown, onto, is_line_end, or_from, cond_both}

past_step : (b : Bool) (k : ℕ) (cs : List ℕ) → cond b (suc (run cs)) 0 < suc k → (run cs < k → past_hashes k cs ≡ None) → cond b (past_hashes k cs) None ≡ None
past_step true k cs h next = next (omega arith)
past_step false k cs h next = refl

past-run : (k : ℕ) (cs : List ℕ) → run cs < k → past_hashes k cs ≡ None
past-run zero cs h = absurd (omega arith)
past-run (suc k) [] h = refl
past-run (suc k) (c ∷ cs) h = past_step (c == 35) k cs h (past-run k cs)

end_step : (b : Bool) (k : ℕ) (cs : List ℕ) → cond b (max (suc (run cs)) (required cs)) (required cs) ≤ k → (is_some (cond b (past_hashes k cs) None) ≡ false) × (required cs ≤ k)
end_step true k cs h = let r : run cs < k = omega arith in (ap is_some (past-run k cs r), omega arith)
end_step false k cs h = (refl, h)

pub no-end : (k : ℕ) (cs : List ℕ) → required cs ≤ k → has_end k cs ≡ false
no-end k [] h = refl
no-end k (c ∷ cs) h =
    let s = end_step (c == 34) k cs h in
    or_from (is_some (past_end k (c ∷ cs))) (has_end k cs) s.0 (no-end k cs s.1)

-- a line end ends a run
run-line : (line y : List ℕ) → run (line ++ 10 ∷ y) ≡ run line
run-line [] y = refl
run-line (c ∷ line) y = ap (λ n. cond (c == 35) (suc n) 0) (run-line line y)

required_step : (b : Bool) (r m n l k : ℕ) → m ≡ r → l ≡ max n k → cond b (max (suc m) l) l ≡ max (cond b (max (suc r) n) n) k
required_step true r m n l k e f = omega (arith, e, f)
required_step false r m n l k e f = f

required-line : (line y : List ℕ) → required (line ++ 10 ∷ y) ≡ max (required line) (required y)
required-line [] y = omega arith
required-line (c ∷ line) y =
    required_step (c == 34) (run line) (run (line ++ 10 ∷ y)) (required line) (required (line ++ 10 ∷ y)) (required y) (run-line line y) (required-line line y)

abbrev is_quote : ℕ → Bool
is_quote c = c == 34

pub required-front : (xs ys : List ℕ) → list_any is_quote xs ≡ false → required (xs ++ ys) ≡ required ys
required-front [] ys h = refl
required-front (x ∷ xs) ys h =
    ap (λ b. cond b (max (suc (run (xs ++ ys))) (required (xs ++ ys))) (required (xs ++ ys))) (or_left (x == 34) (list_any is_quote xs) h)
    ∙ required-front xs ys (or_right (x == 34) (list_any is_quote xs) h)

abbrev most : List (List ℕ) → ℕ
most [] = 0
most (line ∷ lines) = max (required line) (most lines)

abbrev first_run : List (List ℕ) → ℕ
first_run [] = 0
first_run (line ∷ lines) = run line

run_onto : (c : ℕ) (cs : List ℕ) (lines : List (List ℕ)) (b : Bool) → (c == 10) ≡ b → first_run lines ≡ run cs → first_run (cond b ([] ∷ lines) (onto c lines)) ≡ cond (c == 35) (suc (run cs)) 0
run_onto c cs lines true e h = ap (λ x. cond (x == 35) (suc (run cs)) 0) (sym (true-eqb c 10 (sym e)))
run_onto c cs [] false e h = ap (λ n. cond (c == 35) (suc n) 0) h
run_onto c cs (line ∷ lines) false e h = ap (λ n. cond (c == 35) (suc n) 0) h

run-pieces : (text : List ℕ) → first_run (line_parts text) ≡ run text
run-pieces [] = refl
run-pieces (c ∷ cs) = run_onto c cs (line_parts cs) (c == 10) refl (run-pieces cs)

most_onto : (c : ℕ) (cs : List ℕ) (lines : List (List ℕ)) (b : Bool) → (c == 10) ≡ b → first_run lines ≡ run cs → most lines ≡ required cs → most (cond b ([] ∷ lines) (onto c lines)) ≡ required (c ∷ cs)
most_onto c cs lines true e r h =
    let zero_left : max 0 (most lines) ≡ most lines = omega arith in
    zero_left ∙ h ∙ ap (λ x. cond (x == 34) (max (suc (run cs)) (required cs)) (required cs)) (sym (true-eqb c 10 (sym e)))
most_onto c cs [] false e r h = sym (required_step (c == 34) 0 (run cs) 0 (required cs) 0 (sym r) (sym h))
most_onto c cs (line ∷ lines) false e r h = sym (required_step (c == 34) (run line) (run cs) (required line) (required cs) (most lines) (sym r) (sym h))

most-pieces : (text : List ℕ) → most (line_parts text) ≡ required text
most-pieces [] = refl
most-pieces (c ∷ cs) = most_onto c cs (line_parts cs) (c == 10) refl (run-pieces cs) (most-pieces cs)

-- what follows a line of a frame begins with a line end
abbrev tail_of : List ℕ → List (List ℕ) → List ℕ
tail_of indentation [] = indentation
tail_of indentation ([] ∷ lines) = flat_map (framed_line indentation) lines ++ 10 ∷ indentation
tail_of indentation ((c ∷ cs) ∷ lines) = (indentation ++ c ∷ cs) ++ (flat_map (framed_line indentation) lines ++ 10 ∷ indentation)

tail_is : (indentation : List ℕ) (lines : List (List ℕ)) → flat_map (framed_line indentation) lines ++ 10 ∷ indentation ≡ 10 ∷ tail_of indentation lines
tail_is indentation [] = refl
tail_is indentation ([] ∷ lines) = refl
tail_is indentation ((c ∷ cs) ∷ lines) = ap (λ t. 10 ∷ t) (append_assoc (indentation ++ c ∷ cs) (flat_map (framed_line indentation) lines) (10 ∷ indentation))

required-tail : (indentation : List ℕ) (lines : List (List ℕ)) → list_any is_quote indentation ≡ false → required (tail_of indentation lines) ≡ most lines
required-tail indentation [] h = ap required (sym (append-nil indentation)) ∙ required-front indentation [] h
required-tail indentation ([] ∷ lines) h =
    let zero_left : most lines ≡ max 0 (most lines) = omega arith in
    ap required (tail_is indentation lines) ∙ required-tail indentation lines h ∙ zero_left
required-tail indentation ((c ∷ cs) ∷ lines) h =
    ap required (append_assoc indentation (c ∷ cs) (flat_map (framed_line indentation) lines ++ 10 ∷ indentation))
    ∙ required-front indentation ((c ∷ cs) ++ (flat_map (framed_line indentation) lines ++ 10 ∷ indentation)) h
    ∙ ap (λ t. required ((c ∷ cs) ++ t)) (tail_is indentation lines)
    ∙ required-line (c ∷ cs) (tail_of indentation lines) ∙ ap (λ n. max (required (c ∷ cs)) n) (required-tail indentation lines h)

pub required-shown : (indentation text : List ℕ) → list_any is_quote indentation ≡ false → required (shown indentation text) ≡ required text
required-shown indentation text h =
    let framed = ap required (tail_is indentation (line_parts text)) ∙ required-tail indentation (line_parts text) h ∙ most-pieces text in
    cond_both (list_any is_line_end text) _ text (λ t. required t ≡ required text) (λ _. framed) (λ _. refl)
