-- The line ends at the end of a text.
use Rattle.snap_emit_values.proofs.Prelude.{◌≡◌, ◌≢◌, ◌==◌, ℕ, zero, suc, ◌+◌, ◌-◌, ◌<◌, List, [], ◌∷◌, ◌++◌, Bool, true, false, not, ◌&&◌, if◌then◌else◌, nat_le, length, refl, sym, ap, ◌∙◌, append-nil, append_assoc, arith, nat_tests, eqb-true, length-append, zero-add, encodes-chars, encodes, chars, IsUtf8, core, kept_ends, line_ends, ends_badly, IsBegun}
use Rattle.std.proofs.lemmas.Str.{encodes-append}
use Rattle.std.specs.Char.{is_whitespace}
use Rattle.snap_emit_values.proofs.Begun.{added_twice, unmoved, begun_then, begun_as}
use Rattle.snap_content.proofs.Ends.{ends_badly-push}
use Rattle.snap_print.specs.Blocks.{before_core, counted, keeps_end}

-- a line's end more is none of the core
pub core-end : (xs : List ℕ) → core (xs ++ 10 ∷ []) ≡ core xs
core-end [] = refl
core-end (x ∷ xs) = ap (before_core x) (core-end xs)

before-pushed : (x : ℕ) (xs : List ℕ) (c : ℕ) → before_core x (xs ++ c ∷ []) ≡ x ∷ (xs ++ c ∷ [])
before-pushed x [] c = refl
before-pushed x (y ∷ ys) c = refl

counted-pushed : (x : ℕ) (xs : List ℕ) (c n : ℕ) → counted x (xs ++ c ∷ []) n ≡ n
counted-pushed x [] c n = refl
counted-pushed x (y ∷ ys) c n = refl

-- a text that ends in another character is its core
pub core-other : (xs : List ℕ) (c : ℕ) → (c == 10) ≡ false → core (xs ++ c ∷ []) ≡ xs ++ c ∷ []
core-other [] c h = rw h refl
core-other (x ∷ xs) c h = ap (before_core x) (core-other xs c h) ∙ before-pushed x xs c

kept-other : (xs : List ℕ) (c : ℕ) → (c == 10) ≡ false → kept_ends (xs ++ c ∷ []) ≡ 0
kept-other [] c h = rw h refl
kept-other (x ∷ xs) c h =
    ap (λ y. counted x y (kept_ends (xs ++ c ∷ []))) (core-other xs c h) ∙ counted-pushed x xs c (kept_ends (xs ++ c ∷ [])) ∙ kept-other xs c h

other : (c : ℕ) → c ≢ 10 → (c == 10) ≡ false
other c h = grind (arith, nat_tests)

-- a text by its last character
pub core-last : (text xs : List ℕ) (c : ℕ) → text ≡ xs ++ c ∷ [] → c ≢ 10 → text ≡ core text
core-last text xs c is h = is ∙ sym (ap core is ∙ core-other xs c (other c h))

pub core-more : (text xs : List ℕ) (c : ℕ) → text ≡ xs ++ c ∷ [] → c ≡ 10 → core xs ≡ core text
core-more text xs c is feed = sym (ap core is ∙ ap (λ (d : ℕ). core (xs ++ d ∷ [])) feed ∙ core-end xs)

-- the core and the line ends are the whole
whole-by : (q : Bool) (x : List ℕ) (n c : ℕ) (cs : List ℕ) → (c == 10) ≡ q → x ++ line_ends n ≡ cs → before_core c x ++ line_ends (counted c x n) ≡ c ∷ cs
whole-by true [] n c cs e h =
    let feed : c ≡ 10 = eqb-true c 10 e in
    rw e (ap (λ (xs : List ℕ). 10 ∷ xs) h ∙ ap (λ (d : ℕ). d ∷ cs) (sym feed))
whole-by false [] n c cs e h = rw e (ap (λ (xs : List ℕ). c ∷ xs) h)
whole-by q (d ∷ ds) n c cs e h = ap (λ (xs : List ℕ). c ∷ xs) h

pub whole : (s : List ℕ) → core s ++ line_ends (kept_ends s) ≡ s
whole [] = refl
whole (c ∷ cs) = whole-by (c == 10) (core cs) (kept_ends cs) c cs refl (whole cs)

-- the bytes of line ends
ends-bytes : (n : ℕ) → length (encodes (line_ends n)) ≡ n
unfolding lib.Utf8.encode
ends-bytes zero = refl
ends-bytes (suc n) = ap suc (ends-bytes n)

pub kept-bytes : (text trimmed : List ℕ) → IsUtf8 text → IsUtf8 trimmed → chars trimmed ≡ core (chars text)
    → length text ≡ length trimmed + kept_ends (chars text)
kept-bytes text trimmed utf8 utf8-trimmed is =
    let n : ℕ = kept_ends (chars text) in
    let all : text ≡ encodes (core (chars text)) ++ encodes (line_ends n) =
    sym (encodes-chars text utf8) ∙ ap encodes (sym (whole (chars text))) ∙ encodes-append (core (chars text)) (line_ends n) in
    let front : encodes (core (chars text)) ≡ trimmed = ap encodes (sym is) ∙ encodes-chars trimmed utf8-trimmed in
    ap length all ∙ length-append (encodes (core (chars text))) (encodes (line_ends n))
    ∙ ap (λ (k : ℕ). length (encodes (core (chars text))) + k) (ends-bytes n) ∙ ap (λ (x : List ℕ). length x + n) front

-- a text's end is kept
ends-pushed : (n : ℕ) → line_ends (suc n) ≡ line_ends n ++ 10 ∷ []
ends-pushed zero = refl
ends-pushed (suc n) = ap (λ (xs : List ℕ). 10 ∷ xs) (ends-pushed n)

kept-end : (xs : List ℕ) → kept_ends (xs ++ 10 ∷ []) ≡ suc (kept_ends xs)
kept-end [] = refl
kept-end (x ∷ xs) = ap (λ y. counted x y (kept_ends (xs ++ 10 ∷ []))) (core-end xs) ∙ ap (counted x (core xs)) (kept-end xs) ∙ more (core xs)
  where
    more-by : (q : Bool) (n : ℕ) → (if q then suc (suc n) else suc n) ≡ suc (if q then suc n else n)
    more-by true n = refl
    more-by false n = refl

    more : (y : List ℕ) → counted x y (suc (kept_ends xs)) ≡ suc (counted x y (kept_ends xs))
    more [] = more-by (x == 10) (kept_ends xs)
    more (d ∷ ds) = refl

keeps-by : (n : ℕ) (xs : List ℕ) → kept_ends xs ≡ n → (nat_le (suc n) 1 && not (ends_badly (core xs))) ≡ not (ends_badly xs)
keeps-by zero xs is =
    let bare : core xs ≡ xs = sym (append-nil (core xs)) ∙ ap (λ (n : ℕ). core xs ++ line_ends n) (sym is) ∙ whole xs in
    ap (λ (s : List ℕ). not (ends_badly s)) bare
keeps-by (suc n) xs is =
    let split : xs ≡ (core xs ++ line_ends n) ++ 10 ∷ [] =
    sym (whole xs) ∙ ap (λ (m : ℕ). core xs ++ line_ends m) is ∙ ap (λ (s : List ℕ). core xs ++ s) (ends-pushed n)
    ∙ sym (append_assoc (core xs) (line_ends n) (10 ∷ [])) in
    let many : nat_le (suc (suc n)) 1 ≡ false = grind (arith, nat_tests) in
    ap (λ (b : Bool). b && not (ends_badly (core xs))) many
    ∙ sym (ap (λ (s : List ℕ). not (ends_badly s)) split ∙ ap not (ends_badly-push (core xs ++ line_ends n) 10))

-- after one line's end, by what stands before it
pub keeps-end : (text xs : List ℕ) (c : ℕ) → text ≡ xs ++ c ∷ [] → c ≡ 10 → not (ends_badly xs) ≡ keeps_end text
keeps-end text xs c is feed =
    let split : text ≡ xs ++ 10 ∷ [] = is ∙ ap (λ (d : ℕ). xs ++ d ∷ []) feed in
    sym (ap keeps_end split ∙ ap (λ (n : ℕ). nat_le n 1 && not (ends_badly (core (xs ++ 10 ∷ [])))) (kept-end xs)
    ∙ ap (λ (s : List ℕ). nat_le (suc (kept_ends xs)) 1 && not (ends_badly s)) (core-end xs) ∙ keeps-by (kept_ends xs) xs refl)

-- without one, by the last character
pub keeps-other : (text xs : List ℕ) (c : ℕ) → text ≡ xs ++ c ∷ [] → c ≢ 10 → not (is_whitespace c) ≡ keeps_end text
keeps-other text xs c is h =
    sym (ap keeps_end is ∙ ap (λ (n : ℕ). nat_le n 1 && not (ends_badly (core (xs ++ c ∷ [])))) (kept-other xs c (other c h))
    ∙ ap (λ (s : List ℕ). not (ends_badly s)) (core-other xs c (other c h)) ∙ ap not (ends_badly-push xs c))

-- line ends, of which some were added before
ends-add : (i j : ℕ) → line_ends (i + j) ≡ line_ends i ++ line_ends j
ends-add zero j = ap line_ends (zero-add j)
ends-add (suc i) j = let e : suc i + j ≡ suc (i + j) = omega arith in ap line_ends e ∙ ap (λ (x : List ℕ). 10 ∷ x) (ends-add i j)

pub ends-begun : (old mid new : List ℕ) (i n : ℕ) → mid ≡ old ++ line_ends i → new ≡ mid → i < n → IsBegun old new (line_ends n)
ends-begun old mid new i n added same below =
    let e : i + (n - i) ≡ n = omega arith in
    begun_as old new (line_ends i ++ line_ends (n - i)) (line_ends n) (sym (ends-add i (n - i)) ∙ ap line_ends e)
    (begun_then old mid new (line_ends i) (line_ends (n - i)) added (unmoved mid new (line_ends (n - i)) same))

pub ends-more : (old mid new : List ℕ) (i : ℕ) → mid ≡ old ++ line_ends i → new ≡ mid ++ 10 ∷ [] → new ≡ old ++ line_ends (i + 1)
ends-more old mid new i added pushed =
    added_twice old mid new (line_ends i) (10 ∷ []) added pushed ∙ ap (λ (x : List ℕ). old ++ x) (sym (ends-add i 1))
