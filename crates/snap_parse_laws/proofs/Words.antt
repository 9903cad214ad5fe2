-- A text of one line that needs no quotes is one plain scalar.
use Rattle.snap_parse_laws.proofs.Prelude.{◌≡◌, ℕ, suc, ◌+◌, List, [], ◌∷◌, ◌++◌, Bool, true, false, refl, ◌∙◌, arith, add-zero, append_assoc, append-nil, length, ◌⊎◌, nat_tests, ◌||◌, ◌&&◌, ◌==◌, if◌then◌else◌, is_break, is_blank, no_gap, Place, Plain, plain, is_outside, ends_plain, innermost, is_word_character, is_tail, here, or_parts, and_left, and_right, and_parts, not_true}
use Rattle.snap_parse_laws.proofs.Quotes.{gap_in_line}

pub if-true : (b x y : Bool) → b ≡ true → (if b then x else y) ≡ true → x ≡ true
if-true true x y e h = h
if-true false x y e h = cc

pub if-false : (b x y : Bool) → b ≡ false → (if b then x else y) ≡ true → y ≡ true
if-false false x y e h = h
if-false true x y e h = cc

-- where a plain scalar ends after a line
abbrev pub EndsWord : List ℕ → ℕ → List ℕ → Type 0
EndsWord columns n cs = (cs ≡ []) ⊎ (is_outside (innermost columns) n ≡ true)

abbrev pub word_end : List ℕ → Place → Plain
word_end text p = record { text = text; is_broken = true; place = p }

pub last-true : (a o : Bool) → o ≡ true → a || o ≡ true
last-true true o h = refl
last-true false o h = h

pub both-false : (a b : Bool) → a ≡ false → b ≡ false → a || b ≡ false
both-false a b p q = rw (p, q) refl

pub record IsWordCharacter (c : ℕ) : Type 0 where
  pub blank : is_blank c ≡ false
  pub line_end : is_break c ≡ false
  pub line_feed : (c == 10) ≡ false
  pub nul : (c == 0) ≡ false
  pub colon : (c == 58) ≡ false
  pub hash : (c == 35) ≡ false

pub word_character : (c : ℕ) → is_word_character c ≡ true → IsWordCharacter c
word_character c h =
    let e = or_parts (is_blank c || is_break c || c == 0 || c == 58) (c == 35) (not_true _ h) in
    let d = or_parts (is_blank c || is_break c || c == 0) (c == 58) e.0 in
    let b = or_parts (is_blank c || is_break c) (c == 0) d.0 in
    let a = or_parts (is_blank c) (is_break c) b.0 in
    record { blank = a.0; line_end = a.1; line_feed = (or_parts (c == 10) (c == 13) a.1).0; nul = b.1; colon = d.1; hash = e.1 }

pub plain-character : (c : ℕ) (g tail columns : List ℕ) (i l j : ℕ) (text : List ℕ) → IsWordCharacter c
    → plain (innermost columns) false (gap_in_line g) text (c ∷ tail) (here (c ∷ tail) i l j) ≡ plain (innermost columns) false no_gap (text ++ g ++ c ∷ []) tail (here tail (i + 1) l (j + 1))
plain-character c g tail columns i l j text is =
    let p : Place = here (c ∷ tail) i l j in
    let ended : ends_plain (innermost columns) false (gap_in_line g) p ≡ false =
    both-false _ _ (both-false _ _ (both-false _ _ (both-false (c == 0) _ is.nul (and_left (c == 58) _ is.colon)) refl) (and_right _ (c == 35) is.hash)) refl in
    rw (is.blank, is.line_end, ended, is.line_feed) refl

-- a bare text is passed, of which the gap g and what is before it was read
abbrev Passed : List ℕ → Type 0
Passed w = (g : List ℕ) (b : Bool) → (b ≡ false → g ≡ []) → is_tail b w ≡ true → (columns tail : List ℕ) (i l j : ℕ) (text : List ℕ)
    → plain (innermost columns) false (gap_in_line g) text (w ++ tail) (here (w ++ tail) i l j) ≡ plain (innermost columns) false no_gap (text ++ g ++ w) tail (here tail (i + length w) l (j + length w))

passed-by : (c : ℕ) (w : List ℕ) → Passed w → (q : Bool) → (c == 32) ≡ q → Passed (c ∷ w)
passed-by c w rest true e g b known tail_is columns tail i l j text =
    let same : c ≡ 32 = grind (arith, nat_tests) in
    let on = rest (g ++ 32 ∷ []) true (λ h. absurd (cc)) (if-true (c == 32) (is_tail true w) (is_word_character c && is_tail false w) e tail_is) columns tail (i + 1) l (j + 1) text in
    let m : i + 1 + length w ≡ i + suc (length w) = omega arith in
    let n : j + 1 + length w ≡ j + suc (length w) = omega arith in
    let k : text ++ (g ++ 32 ∷ []) ++ w ≡ text ++ g ++ (32 ∷ w) = simp append_assoc in
    rw same (on ∙ rw (k, m, n) refl)
passed-by c w rest false e g b known tail_is columns tail i l j text =
    let two = and_parts (is_word_character c) (is_tail false w) (if-false (c == 32) (is_tail true w) (is_word_character c && is_tail false w) e tail_is) in
    let on = rest [] false (λ h. refl) two.1 columns tail (i + 1) l (j + 1) (text ++ g ++ c ∷ []) in
    let m : i + 1 + length w ≡ i + suc (length w) = omega arith in
    let n : j + 1 + length w ≡ j + suc (length w) = omega arith in
    let k : text ++ g ++ c ∷ [] ++ [] ++ w ≡ text ++ g ++ (c ∷ w) = simp (append_assoc, append-nil) in
    plain-character c g (w ++ tail) columns i l j text (word_character c two.0) ∙ on ∙ rw (k, m, n) refl

passed-nil : Passed []
passed-nil g b known tail_is columns tail i l j text =
    let gone : g ≡ [] = known (not_true b tail_is) in
    rw (gone, append-nil (text ++ []), append-nil text, add-zero i, add-zero j) refl

pub plain-text : (w : List ℕ) → Passed w
plain-text [] = passed-nil
plain-text (c ∷ w) = passed-by c w (plain-text w) (c == 32) refl
