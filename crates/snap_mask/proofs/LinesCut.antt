-- Lines of texts that are put together.
use Rattle.snap_mask.proofs.Prelude.{◌≡◌, ◌==◌, ℕ, ◌≤◌, List, [], ◌∷◌, ◌++◌, Bool, true, false, ◌&&◌, cond, length, refl, sym, ap, ◌∙◌, arith, append_assoc, ne_eqb, eq-eqb, Lacks, lines, onto, without_return, begins_line_end, AreShort, at_start, at_end}
use Rattle.snap_str.proofs.LineTexts.{lines-line, lines-unbroken, without_return-push}

-- lines of a text after whole lines
onto-append : (c : ℕ) (ls ms : List (List ℕ)) → (ls ≡ [] → ⊥) → onto c (ls ++ ms) ≡ onto c ls ++ ms
onto-append c [] ms h = absurd (h refl)
onto-append c (l ∷ ls) ms h = refl

some_lines : (c : ℕ) (cs : List ℕ) → lines (c ∷ cs) ≡ [] → ⊥
some_lines c cs h = by (c == 10) (c == 13 && begins_line_end cs) refl refl h
  where
    onto_some : (ls : List (List ℕ)) → onto c ls ≡ [] → ⊥
    onto_some [] e = cc
    onto_some (l ∷ ls) e = cc

    rest : (ds : List ℕ) → begins_line_end ds ≡ true → lines ds ≡ [] → ⊥
    rest [] e k = cc
    rest (d ∷ ds) e k = let g : cond (d == 10) ([] ∷ lines ds) (cond (d == 13 && begins_line_end ds) (lines ds) (onto d (lines ds))) ≡ [] = k in
        let f : [] ∷ lines ds ≡ [] = sym (ap (λ b. cond b ([] ∷ lines ds) (cond (d == 13 && begins_line_end ds) (lines ds) (onto d (lines ds)))) e) ∙ g in cc

    by : (a b : Bool) → (c == 10) ≡ a → (c == 13 && begins_line_end cs) ≡ b → lines (c ∷ cs) ≡ [] → ⊥
    by true b e f k = let g : [] ∷ lines cs ≡ [] = sym (ap (λ t. cond t ([] ∷ lines cs) (cond (c == 13 && begins_line_end cs) (lines cs) (onto c (lines cs)))) e) ∙ k in cc
    by false true e f k = rest cs (second (c == 13) (begins_line_end cs) f)
        (sym (ap (λ t. cond t ([] ∷ lines cs) (cond (c == 13 && begins_line_end cs) (lines cs) (onto c (lines cs)))) e ∙ ap (λ t. cond t (lines cs) (onto c (lines cs))) f) ∙ k)
      where
        second : (x y : Bool) → (x && y) ≡ true → y ≡ true
        second true y h = h
        second false y h = absurd (cc)
    by false false e f k =
        onto_some (lines cs) (sym (ap (λ t. cond t ([] ∷ lines cs) (cond (c == 13 && begins_line_end cs) (lines cs) (onto c (lines cs)))) e ∙ ap (λ t. cond t (lines cs) (onto c (lines cs))) f) ∙ k)

begins_more : (cs y : List ℕ) → (cs ≡ [] → ⊥) → begins_line_end (cs ++ y) ≡ begins_line_end cs
begins_more [] y h = absurd (h refl)
begins_more (c ∷ cs) y h = refl

lines_then : (front y : List ℕ) → lines ((front ++ 10 ∷ []) ++ y) ≡ lines (front ++ 10 ∷ []) ++ lines y
lines_then [] y = refl
lines_then (c ∷ cs) y =
    let more : List ℕ = cs ++ 10 ∷ [] in
    let filled : more ≡ [] → ⊥ = tail_filled cs in
    let later = lines_then cs y in
    let test : (c == 13 && begins_line_end (more ++ y)) ≡ (c == 13 && begins_line_end more) = ap (λ b. c == 13 && b) (begins_more more y filled) in
    ap (λ b. cond (c == 10) ([] ∷ lines (more ++ y)) (cond b (lines (more ++ y)) (onto c (lines (more ++ y))))) test
    ∙ ap (λ l. cond (c == 10) ([] ∷ l) (cond (c == 13 && begins_line_end more) l (onto c l))) later
    ∙ both (c == 10) (c == 13 && begins_line_end more) (some_more cs)
  where
    tail_filled : (ds : List ℕ) → ds ++ 10 ∷ [] ≡ [] → ⊥
    tail_filled [] e = cc
    tail_filled (d ∷ ds) e = cc

    some_more : (ds : List ℕ) → lines (ds ++ 10 ∷ []) ≡ [] → ⊥
    some_more [] e = cc
    some_more (d ∷ ds) e = some_lines d (ds ++ 10 ∷ []) e

    both : (a b : Bool) → (lines (cs ++ 10 ∷ []) ≡ [] → ⊥) → cond a ([] ∷ (lines (cs ++ 10 ∷ []) ++ lines y)) (cond b (lines (cs ++ 10 ∷ []) ++ lines y) (onto c (lines (cs ++ 10 ∷ []) ++ lines y)))
        ≡ cond a ([] ∷ lines (cs ++ 10 ∷ [])) (cond b (lines (cs ++ 10 ∷ [])) (onto c (lines (cs ++ 10 ∷ [])))) ++ lines y
    both true b h = refl
    both false true h = refl
    both false false h = onto-append c (lines (cs ++ 10 ∷ [])) (lines y) h

pub lines-behind : (past y : List ℕ) → AreShort past → lines (past ++ y) ≡ lines past ++ lines y
lines-behind past y (at_start _ e) = ap (λ p. lines (p ++ y)) e ∙ ap (λ p. lines p ++ lines y) (sym e)
lines-behind past y (at_end _ before line short lacks within e) = ap (λ p. lines (p ++ y)) e ∙ lines_then (before ++ line) y ∙ ap (λ p. lines p ++ lines y) (sym e)

-- one line more
pub lines-more : (past line : List ℕ) → AreShort past → Lacks 10 line → lines (past ++ line ++ 10 ∷ []) ≡ lines past ++ without_return line ∷ []
lines-more past line e lacks = ap lines (append_assoc past line (10 ∷ [])) ∙ lines-behind past (line ++ 10 ∷ []) e ∙ ap (λ l. lines past ++ l) (lines-line line [] lacks)

-- what follows the last line's end is one line, or none
pub lines-one : (c : ℕ) (line : List ℕ) → Lacks 10 (c ∷ line) → lines (c ∷ line) ≡ (c ∷ line) ∷ []
lines-one c line h = lines-unbroken c line h

-- a line with a return at its end, one with another last byte, and none
pub return_off : (line front : List ℕ) (last : ℕ) → line ≡ front ++ last ∷ [] → last ≡ 13 → front ≡ without_return line
return_off line front last is e = sym (ap without_return is ∙ without_return-push front last ∙ ap (λ b. cond b front (front ++ last ∷ [])) (eq-eqb last 13 e))

pub return_none : (line front : List ℕ) (last : ℕ) → line ≡ front ++ last ∷ [] → (last ≡ 13 → ⊥) → line ≡ without_return line
return_none line front last is other = is ∙ sym (ap without_return is ∙ without_return-push front last ∙ ap (λ b. cond b front (front ++ last ∷ [])) (ne_eqb last 13 other))

pub line_nothing : (line : List ℕ) → length line ≡ 0 → line ≡ without_return line
line_nothing [] h = refl
line_nothing (x ∷ xs) h = absurd (omega arith)

-- a line without its return is no longer
pub shorter_line : (line : List ℕ) (most : ℕ) → length line ≤ most → length (without_return line) ≤ most
shorter_line line most within = omega (arith, within, by line)
  where
    by : (cs : List ℕ) → length (without_return cs) ≤ length cs
    by [] = omega arith
    by (c ∷ []) = either (c == 13)
      where
        either : (b : Bool) → length (cond b [] (c ∷ [])) ≤ 1
        either true = omega arith
        either false = omega arith
    by (c ∷ d ∷ ds) = omega (arith, by (d ∷ ds))
