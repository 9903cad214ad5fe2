-- Texts without the returns in front of a line's end.
use Rattle.snap_text_literals.proofs.Prelude.{◌≡◌, ◌≢◌, ◌==◌, ℕ, List, [], ◌∷◌, ◌++◌, Bool, true, false, ◌&&◌, cond, refl, sym, ap, ◌∙◌, append_assoc, list_any, begins, ends_badly, unreturned, trimmed, normal, is_line_end, IsUnbroken, IsLineThen, before_return, without_returns, or_left, or_right, subst, ne_eqb, cond_both, cond-false, and_nothing}
use Rattle.snap_text_literals.proofs.Trimming.{trimmed-well, well-trimmed}

-- one step of `unreturned`
abbrev stepped : ℕ → List ℕ → List ℕ
stepped c cs = cond (c == 13 && begins 10 cs) cs (c ∷ cs)

unbroken_step : (c : ℕ) (cs : List ℕ) → begins 10 cs ≡ false → stepped c cs ≡ c ∷ cs
unbroken_step c cs h = cond-false (c == 13 && begins 10 cs) cs (c ∷ cs) (ap (λ e. c == 13 && e) h ∙ and_nothing (c == 13))

-- in front of a line's end: what is left of the line, and whether its returns go on
line_step : (c : ℕ) (line more : List ℕ) → begins 10 line ≡ false → stepped c (line ++ 10 ∷ more) ≡ before_return c line ++ 10 ∷ more
line_step c [] more h = by (c == 13)
  where
    by : (b : Bool) → cond (b && true) (10 ∷ more) (c ∷ 10 ∷ more) ≡ cond b [] (c ∷ []) ++ 10 ∷ more
    by true = refl
    by false = refl
line_step c (d ∷ ds) more h = unbroken_step c (d ∷ (ds ++ 10 ∷ more)) h

begins_step : (c : ℕ) (line : List ℕ) → (c == 10) ≡ false → begins 10 (before_return c line) ≡ false
begins_step c [] h = cond_both (c == 13) [] (c ∷ []) (λ t. begins 10 t ≡ false) (λ _. refl) (λ _. h)
begins_step c (d ∷ ds) h = h

begins-without : (line : List ℕ) → IsUnbroken line → begins 10 (without_returns line) ≡ false
begins-without [] h = refl
begins-without (c ∷ line) h = begins_step c (without_returns line) (or_left (is_line_end c) (list_any is_line_end line) h)

pub unreturned-line : (line more : List ℕ) → IsUnbroken line → unreturned (line ++ 10 ∷ more) ≡ without_returns line ++ 10 ∷ unreturned more
unreturned-line [] more h = refl
unreturned-line (c ∷ line) more h =
    let later = or_right (is_line_end c) (list_any is_line_end line) h in
    ap (stepped c) (unreturned-line line more later) ∙ line_step c (without_returns line) (unreturned more) (begins-without line later)

-- the loop over the lines
pub past_line : (next made rest line more whole : List ℕ) → IsLineThen rest line more → next ≡ made ++ without_returns line ++ 10 ∷ []
    → made ++ unreturned rest ≡ whole → next ++ unreturned more ≡ whole
past_line next made rest line more whole h is so_far = rw (is, append_assoc, append_assoc) (rw (h.is, unreturned-line line more h.unbroken) at so_far)

begins-unbroken : (text : List ℕ) → IsUnbroken text → begins 10 text ≡ false
begins-unbroken [] h = refl
begins-unbroken (c ∷ cs) h = or_left (is_line_end c) (list_any is_line_end cs) h

pub unreturned-unbroken : (text : List ℕ) → IsUnbroken text → unreturned text ≡ text
unreturned-unbroken [] h = refl
unreturned-unbroken (c ∷ cs) h =
    let later = or_right (is_line_end c) (list_any is_line_end cs) h in
    ap (stepped c) (unreturned-unbroken cs later) ∙ unbroken_step c cs (begins-unbroken cs later)

-- dropping returns from the end
pub before_return-push : (cs : List ℕ) → without_returns (cs ++ 13 ∷ []) ≡ without_returns cs
before_return-push [] = refl
before_return-push (c ∷ cs) = ap (before_return c) (before_return-push cs)

pub returns-more : (cs front : List ℕ) (c : ℕ) → cs ≡ front ++ c ∷ [] → c ≡ 13 → without_returns front ≡ without_returns cs
returns-more cs front c is return =
    sym (ap without_returns (is ∙ ap (λ d. front ++ d ∷ []) return) ∙ before_return-push front)

kept_step : (cs : List ℕ) (c : ℕ) → (c == 13) ≡ false → without_returns (cs ++ c ∷ []) ≡ cs ++ c ∷ []
kept_step [] c h = ap (λ b. cond b [] (c ∷ [])) h
kept_step (d ∷ []) c h = ap (before_return d) (kept_step [] c h)
kept_step (d ∷ e ∷ cs) c h = ap (before_return d) (kept_step (e ∷ cs) c h)

pub returns-none : (cs front : List ℕ) (c : ℕ) → cs ≡ front ++ c ∷ [] → c ≢ 13 → without_returns cs ≡ cs
returns-none cs front c is other = ap without_returns is ∙ kept_step front c (ne_eqb c 13 other) ∙ sym is

-- a text without returns is left as it is
pub unreturned-free : (text : List ℕ) → list_any (λ c. c == 13) text ≡ false → unreturned text ≡ text
unreturned-free [] h = refl
unreturned-free (c ∷ cs) h =
    ap (stepped c) (unreturned-free cs (or_right (c == 13) (list_any (λ c. c == 13) cs) h))
    ∙ ap (λ b. cond (b && begins 10 cs) cs (c ∷ cs)) (or_left (c == 13) (list_any (λ c. c == 13) cs) h)

-- once the returns are dropped, no more are
unreturned-once : (text : List ℕ) → unreturned (unreturned text) ≡ unreturned text
unreturned-once [] = refl
unreturned-once (c ∷ cs) =
    let h = unreturned-once cs in
    cond_both (c == 13 && begins 10 (unreturned cs)) _ _ (λ t. unreturned t ≡ t) (λ _. h) (λ e. ap (stepped c) h ∙ cond-false _ _ _ e)

-- what ends well ends well without returns
pub record IsFilled (text : List ℕ) : Type 0 where
  pub first : ℕ
  pub more : List ℕ
  pub is : text ≡ first ∷ more

filled_step : (c : ℕ) (cs : List ℕ) → IsFilled (stepped c cs)
filled_step c [] = let P : List ℕ → Type 0 = λ t. IsFilled t in subst P (sym (unbroken_step c [] refl)) (record { first = c; more = []; is = refl })
filled_step c (d ∷ ds) =
    cond_both (c == 13 && begins 10 (d ∷ ds)) (d ∷ ds) (c ∷ d ∷ ds) IsFilled (λ _. record { first = d; more = ds; is = refl })
    (λ _. record { first = c; more = d ∷ ds; is = refl })

pub ends-unreturned : (text : List ℕ) → ends_badly text ≡ false → ends_badly (unreturned text) ≡ false
ends-unreturned [] h = refl
ends-unreturned (c ∷ []) h = ap ends_badly (unbroken_step c [] refl) ∙ h
ends-unreturned (c ∷ d ∷ cs) h =
    let filled = filled_step d (unreturned cs) in
    let later = ends-unreturned (d ∷ cs) h in
    cond_both (c == 13 && begins 10 (unreturned (d ∷ cs))) _ _ (λ t. ends_badly t ≡ false) (λ _. later)
    (λ _. ap (λ t. ends_badly (c ∷ t)) filled.is ∙ sym (ap ends_badly filled.is) ∙ later)

pub normal-once : (text : List ℕ) → normal (normal text) ≡ normal text
normal-once text =
    ap unreturned (trimmed-well (unreturned (trimmed text)) (ends-unreturned (trimmed text) (well-trimmed text))) ∙ unreturned-once (trimmed text)
