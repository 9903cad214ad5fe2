-- Lines whose last is not empty and ends well, and their text.
use Rattle.snap_text_literals.proofs.Prelude.{◌≡◌, ◌==◌, ℕ, List, [], ◌∷◌, ◌++◌, Bool, true, false, cond, refl, sym, ap, ◌∙◌, append_assoc, append-nil, true-eqb, subst, list_any, flat_map, is_whitespace, ends_badly, or_left, or_right, is_return, line_parts, lines-line, lines-unbroken, onto, lines, without_return, is_line_end}
use Rattle.snap_text_literals.proofs.Free.{AreFree, unbroken-parts, free-pieces}

pub record IsWell (text : List ℕ) : Type 0 where
  pub first : ℕ
  pub more : List ℕ
  pub is : text ≡ first ∷ more
  pub well : ends_badly text ≡ false

pub well-cons : (c : ℕ) (text : List ℕ) → IsWell text → IsWell (c ∷ text)
well-cons c text h = record { first = c; more = text; is = refl; well = ap (λ t. ends_badly (c ∷ t)) h.is ∙ sym (ap ends_badly h.is) ∙ h.well }

pub well-append : (front text : List ℕ) → IsWell text → IsWell (front ++ text)
well-append [] text h = h
well-append (c ∷ front) text h = well-cons c (front ++ text) (well-append front text h)

abbrev pub EndsWell : List (List ℕ) → Type 0
EndsWell [] = ⊥
EndsWell (line ∷ []) = IsWell line
EndsWell (line ∷ next ∷ rest) = EndsWell (next ∷ rest)

well_put : (c : ℕ) (ls : List (List ℕ)) (b : Bool) → EndsWell ls → EndsWell (cond b ([] ∷ ls) (onto c ls))
well_put c [] b h = absurd h
well_put c (l ∷ []) true h = h
well_put c (l ∷ []) false h = well-cons c l h
well_put c (l ∷ m ∷ ls) true h = h
well_put c (l ∷ m ∷ ls) false h = h

well_one : (c : ℕ) (b : Bool) → (c == 10) ≡ b → is_whitespace c ≡ false → EndsWell (cond b ([] ∷ [] ∷ []) ((c ∷ []) ∷ []))
well_one c true e h = let wrong : true ≡ false = sym (ap is_whitespace (true-eqb c 10 (sym e))) ∙ h in absurd (cc wrong)
well_one c false e h = record { first = c; more = []; is = refl; well = h }

pub well-pieces : (c : ℕ) (cs : List ℕ) → ends_badly (c ∷ cs) ≡ false → EndsWell (line_parts (c ∷ cs))
well-pieces c [] h = well_one c (c == 10) refl h
well-pieces c (d ∷ ds) h = well_put c (line_parts (d ∷ ds)) (c == 10) (well-pieces d ds h)

-- lines without line ends and returns
abbrev pub AreClean : List (List ℕ) → Type 0
AreClean ls = AreFree is_line_end ls × AreFree is_return ls

pub clean-pieces : (text : List ℕ) → list_any is_return text ≡ false → AreClean (line_parts text)
clean-pieces text h = (unbroken-parts text, free-pieces is_return text h)

-- the text of lines
abbrev pub behind : List ℕ → List ℕ
behind line = 10 ∷ line

abbrev pub whole : List (List ℕ) → List ℕ
whole [] = []
whole (line ∷ rest) = line ++ flat_map behind rest

some_put : (c : ℕ) (ls : List (List ℕ)) (b : Bool) → (p : List ℕ) × (ps : List (List ℕ)) × (cond b ([] ∷ ls) (onto c ls) ≡ p ∷ ps)
some_put c ls true = ([], ls, refl)
some_put c [] false = (c ∷ [], [], refl)
some_put c (l ∷ ls) false = (c ∷ l, ls, refl)

pub some-pieces : (text : List ℕ) → (p : List ℕ) × (ps : List (List ℕ)) × (line_parts text ≡ p ∷ ps)
some-pieces [] = ([], [], refl)
some-pieces (c ∷ cs) = some_put c (line_parts cs) (c == 10)

whole_on : (c : ℕ) (p : List ℕ) (ps : List (List ℕ)) (b : Bool) (cs : List ℕ) → (c == 10) ≡ b → whole (p ∷ ps) ≡ cs → whole (cond b ([] ∷ p ∷ ps) (onto c (p ∷ ps))) ≡ c ∷ cs
whole_on c p ps true cs e h = ap (λ t. 10 ∷ t) h ∙ ap (λ d. d ∷ cs) (sym (true-eqb c 10 (sym e)))
whole_on c p ps false cs e h = ap (λ t. c ∷ t) h

pub whole-pieces : (text : List ℕ) → whole (line_parts text) ≡ text
whole-pieces [] = refl
whole-pieces (c ∷ cs) =
    let s = some-pieces cs in
    ap (λ l. whole (cond (c == 10) ([] ∷ l) (onto c l))) s.2 ∙ whole_on c s.0 s.1 (c == 10) cs refl (sym (ap whole s.2) ∙ whole-pieces cs)

pub well-whole : (ls : List (List ℕ)) → EndsWell ls → IsWell (whole ls)
well-whole [] h = absurd h
well-whole (l ∷ []) h = let P : List ℕ → Type 0 = λ t. IsWell t in subst P (sym (append-nil l)) h
well-whole (l ∷ m ∷ ls) h = well-append l (10 ∷ whole (m ∷ ls)) (well-cons 10 (whole (m ∷ ls)) (well-whole (m ∷ ls) h))

pub chopped-free : (line : List ℕ) → list_any is_return line ≡ false → without_return line ≡ line
chopped-free [] h = refl
chopped-free (c ∷ []) h = ap (λ b. cond b [] (c ∷ [])) (or_left (c == 13) false h)
chopped-free (c ∷ d ∷ ds) h = ap (λ t. c ∷ t) (chopped-free (d ∷ ds) (or_right (c == 13) (list_any is_return (d ∷ ds)) h))

clean_line : (line more : List ℕ) → list_any is_line_end line ≡ false → list_any is_return line ≡ false → lines (line ++ 10 ∷ more) ≡ line ∷ lines more
clean_line line more h r = lines-line line more h ∙ ap (λ l. l ∷ lines more) (chopped-free line r)

lines_well : (line : List ℕ) → list_any is_line_end line ≡ false → IsWell line → lines line ≡ line ∷ []
lines_well line h w =
    ap lines w.is ∙ lines-unbroken w.first w.more (sym (ap (list_any is_line_end) w.is) ∙ h) ∙ ap (λ l. l ∷ []) (sym w.is)

-- the lines of a text of lines
pub lines-whole : (ls : List (List ℕ)) → AreClean ls → EndsWell ls → lines (whole ls) ≡ ls
lines-whole [] c h = refl
lines-whole (l ∷ []) c h = ap lines (append-nil l) ∙ lines_well l c.0.0 h
lines-whole (l ∷ m ∷ ls) c h = clean_line l (whole (m ∷ ls)) c.0.0 c.1.0 ∙ ap (λ r. l ∷ r) (lines-whole (m ∷ ls) (c.0.1, c.1.1) h)

pub lines-more : (l : List ℕ) (ls : List (List ℕ)) (end : List ℕ) → AreClean (l ∷ ls) → lines (whole (l ∷ ls) ++ 10 ∷ end) ≡ (l ∷ ls) ++ lines end
lines-more l [] end c = ap (λ t. lines (t ++ 10 ∷ end)) (append-nil l) ∙ clean_line l end c.0.0 c.1.0
lines-more l (m ∷ ls) end c =
    ap lines (append_assoc l (10 ∷ whole (m ∷ ls)) (10 ∷ end)) ∙ clean_line l (whole (m ∷ ls) ++ 10 ∷ end) c.0.0 c.1.0 ∙ ap (λ r. l ∷ r) (lines-more m ls end (c.0.1, c.1.1))
