-- Texts without the white space at their end.
use Rattle.snap_text_literals.proofs.Prelude.{◌≡◌, ◌==◌, ℕ, List, [], ◌∷◌, ◌++◌, true, false, ◌&&◌, cond, length, refl, sym, ap, ◌∙◌, arith, is_whitespace, drop_trailing_whitespace, trim_end, chars, IsUtf8, nat_tests, chars_from_encodes, ends_badly, before_trimmed, trimmed, and-true, and_nothing, cond_both}

-- what std leaves of a text is its trimmed form
same_step : (c : ℕ) (cs : List ℕ) → cond (is_whitespace c && length cs == 0) [] (c ∷ cs) ≡ before_trimmed c cs
same_step c [] = ap (λ b. cond b [] (c ∷ [])) (and-true (is_whitespace c))
same_step c (d ∷ ds) =
    let more : (length (d ∷ ds) == 0) ≡ false = grind (arith, nat_tests) in
    ap (λ b. cond b [] (c ∷ d ∷ ds)) (ap (λ b. is_whitespace c && b) more ∙ and_nothing (is_whitespace c))

same_trim : (cs : List ℕ) → drop_trailing_whitespace cs ≡ trimmed cs
same_trim [] = refl
same_trim (c ∷ cs) = same_step c (drop_trailing_whitespace cs) ∙ ap (before_trimmed c) (same_trim cs)

pub chars-trim_end : (text result : List ℕ) → IsUtf8 result → result ≡ trim_end text → chars result ≡ trimmed (chars text)
unfolding trim_end
chars-trim_end text result u is =
    sym (chars_from_encodes (drop_trailing_whitespace (chars text)) result u (sym is)) ∙ same_trim (chars text)

-- a text that ends well is trimmed, and a trimmed text ends well
pub trimmed-well : (cs : List ℕ) → ends_badly cs ≡ false → trimmed cs ≡ cs
trimmed-well [] h = refl
trimmed-well (c ∷ []) h = ap (λ b. cond b [] (c ∷ [])) h
trimmed-well (c ∷ d ∷ cs) h = ap (before_trimmed c) (trimmed-well (d ∷ cs) h)

well_step : (c : ℕ) (cs : List ℕ) → ends_badly cs ≡ false → ends_badly (before_trimmed c cs) ≡ false
well_step c [] h = cond_both (is_whitespace c) [] (c ∷ []) (λ t. ends_badly t ≡ false) (λ _. refl) (λ e. e)
well_step c (d ∷ ds) h = h

pub well-trimmed : (cs : List ℕ) → ends_badly (trimmed cs) ≡ false
well-trimmed [] = refl
well-trimmed (c ∷ cs) = well_step c (trimmed cs) (well-trimmed cs)

-- white space at the end falls away
pub trimmed-push : (cs : List ℕ) (c : ℕ) → is_whitespace c ≡ true → trimmed (cs ++ c ∷ []) ≡ trimmed cs
trimmed-push [] c h = ap (λ b. cond b [] (c ∷ [])) h
trimmed-push (d ∷ ds) c h = ap (before_trimmed d) (trimmed-push ds c h)

-- a text is trimmed at its end alone
before-cons : (c d : ℕ) (front ds : List ℕ) → before_trimmed c (front ++ d ∷ ds) ≡ c ∷ (front ++ d ∷ ds)
before-cons c d [] ds = refl
before-cons c d (x ∷ front) ds = refl

pub trimmed-behind : (front cs : List ℕ) (d : ℕ) (ds : List ℕ) → trimmed cs ≡ d ∷ ds → trimmed (front ++ cs) ≡ front ++ d ∷ ds
trimmed-behind [] cs d ds h = h
trimmed-behind (c ∷ front) cs d ds h = ap (before_trimmed c) (trimmed-behind front cs d ds h) ∙ before-cons c d front ds
