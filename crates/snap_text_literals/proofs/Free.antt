-- Characters that a text doesn't hold, and that its framed form doesn't hold either.
use Rattle.snap_text_literals.proofs.Prelude.{◌≡◌, ◌==◌, ℕ, List, [], ◌∷◌, ◌++◌, Bool, true, false, ◌||◌, refl, arith, nat_tests, cond_both, list_any-append, list_any, list_all, flat_map, or_left, or_right, both_second, both_first, line_parts, framed_line, shown, is_indent, onto, is_line_end, or_from}

pub any-append : (p : ℕ → Bool) (xs ys : List ℕ) → list_any p xs ≡ false → list_any p ys ≡ false → list_any p (xs ++ ys) ≡ false
any-append p xs ys h k = rw (list_any-append p xs ys, h, k)

pub any-weaker : (p q : ℕ → Bool) → ((c : ℕ) → p c ≡ false → q c ≡ false) → (cs : List ℕ) → list_any p cs ≡ false → list_any q cs ≡ false
any-weaker p q w [] h = refl
any-weaker p q w (c ∷ cs) h =
    or_from (q c) (list_any q cs) (w c (or_left (p c) (list_any p cs) h)) (any-weaker p q w cs (or_right (p c) (list_any p cs) h))

pub any-both : (p q : ℕ → Bool) (cs : List ℕ) → list_any p cs ≡ false → list_any q cs ≡ false → list_any (λ c. p c || q c) cs ≡ false
any-both p q [] h k = refl
any-both p q (c ∷ cs) h k =
    or_from (p c || q c) (list_any (λ d. p d || q d) cs)
    (or_from (p c) (q c) (or_left (p c) (list_any p cs) h) (or_left (q c) (list_any q cs) k))
    (any-both p q cs (or_right (p c) (list_any p cs) h) (or_right (q c) (list_any q cs) k))

-- what holds of a blank and of a tab
pub blank_char : {A : Type 0} (q : ℕ → A) (x : A) (c : ℕ) → is_indent c ≡ true → q 32 ≡ x → q 9 ≡ x → q c ≡ x
blank_char q x c h blank tab = grind (arith, nat_tests)

pub any-blank : (q : ℕ → Bool) → q 32 ≡ false → q 9 ≡ false → (cs : List ℕ) → list_all is_indent cs ≡ true → list_any q cs ≡ false
any-blank q x y [] h = refl
any-blank q x y (c ∷ cs) h =
    or_from (q c) (list_any q cs) (blank_char q false c (both_first (is_indent c) (list_all is_indent cs) h) x y)
    (any-blank q x y cs (both_second (is_indent c) (list_all is_indent cs) h))

abbrev pub AreFree : (ℕ → Bool) → List (List ℕ) → Type 0
AreFree p [] = Unit {0}
AreFree p (line ∷ lines) = (list_any p line ≡ false) × AreFree p lines

free-onto : (p : ℕ → Bool) (c : ℕ) (lines : List (List ℕ)) → p c ≡ false → AreFree p lines → AreFree p (onto c lines)
free-onto p c [] h k = (or_from (p c) false h refl, tt)
free-onto p c (line ∷ lines) h k = (or_from (p c) (list_any p line) h k.0, k.1)

-- no part of a text holds a line end
pub unbroken-parts : (text : List ℕ) → AreFree is_line_end (line_parts text)
unbroken-parts [] = (refl, tt)
unbroken-parts (c ∷ cs) =
    let later = unbroken-parts cs in
    cond_both (c == 10) _ _ (AreFree is_line_end) (λ _. (refl, later)) (λ e. free-onto is_line_end c (line_parts cs) e later)

pub free-pieces : (p : ℕ → Bool) (text : List ℕ) → list_any p text ≡ false → AreFree p (line_parts text)
free-pieces p [] h = (refl, tt)
free-pieces p (c ∷ cs) h =
    let later = free-pieces p cs (or_right (p c) (list_any p cs) h) in
    cond_both (c == 10) _ _ (AreFree p) (λ _. (refl, later)) (λ _. free-onto p c (line_parts cs) (or_left (p c) (list_any p cs) h) later)

free_framed : (p : ℕ → Bool) (indentation line : List ℕ) → p 10 ≡ false → list_any p indentation ≡ false → list_any p line ≡ false → list_any p (framed_line indentation line) ≡ false
free_framed p indentation [] x i h = or_from (p 10) false x refl
free_framed p indentation (c ∷ cs) x i h = or_from (p 10) (list_any p (indentation ++ c ∷ cs)) x (any-append p indentation (c ∷ cs) i h)

free_frame : (p : ℕ → Bool) (indentation : List ℕ) (lines : List (List ℕ)) → p 10 ≡ false → list_any p indentation ≡ false → AreFree p lines
    → list_any p (flat_map (framed_line indentation) lines) ≡ false
free_frame p indentation [] x i h = refl
free_frame p indentation (line ∷ lines) x i h =
    any-append p (framed_line indentation line) (flat_map (framed_line indentation) lines) (free_framed p indentation line x i h.0) (free_frame p indentation lines x i h.1)

pub free-shown : (p : ℕ → Bool) (indentation text : List ℕ) → p 10 ≡ false → list_any p indentation ≡ false → list_any p text ≡ false → list_any p (shown indentation text) ≡ false
free-shown p indentation text x i h =
    let framed = any-append p _ (10 ∷ indentation) (free_frame p indentation (line_parts text) x i (free-pieces p text h)) (or_from (p 10) (list_any p indentation) x i) in
    cond_both (list_any is_line_end text) _ text (λ t. list_any p t ≡ false) (λ _. framed) (λ _. h)
