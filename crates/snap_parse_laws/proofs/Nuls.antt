-- No NUL stands in a printed text.
use Rattle.snap_parse_laws.proofs.Prelude.{◌≡◌, ℕ, zero, suc, ◌/◌, ◌%◌, ◌<◌, List, [], ◌∷◌, ◌++◌, Bool, true, false, not, refl, ap, arith, nat_lt, append_assoc, nat_tests, ◌||◌, ◌&&◌, ◌==◌, slice_index, if◌then◌else◌, is_some, digit_glyph, flat_map, list_all, escaped, escaped_code, before_nul, hexadecimal, Scalar, bare, quote, block_sign, block_at, shifted, line_ends, empty_lines, is_block, is_block_tail, spelled, blanks, is_scalar, is_start, is_tail, is_word_start, is_word_character, is_behind, or_parts, and_parts, not_true}
use Rattle.snap_parse_laws.proofs.Escapes.{apart, glyph}
use Rattle.snap_parse_laws.proofs.Quotes.{small-code, pick-small}
use Rattle.snap_parse_laws.proofs.Words.{word_character, if-true, if-false}

abbrev pub is_no_nul : ℕ → Bool
is_no_nul c = not (c == 0)

abbrev pub has_no_nul : List ℕ → Bool
has_no_nul cs = list_all is_no_nul cs

pub without-nul : (cs : List ℕ) → has_no_nul cs ≡ true → before_nul cs ≡ cs
without-nul [] h = refl
without-nul (c ∷ cs) h =
    let two = and_parts (is_no_nul c) (has_no_nul cs) h in
    let some : (c == 0) ≡ false = not_true (c == 0) two.0 in
    rw some (ap (λ (x : List ℕ). c ∷ x) (without-nul cs two.1))

pub no-nul-more : (c : ℕ) (cs : List ℕ) → (c == 0) ≡ false → has_no_nul cs ≡ true → has_no_nul (c ∷ cs) ≡ true
no-nul-more c cs e h = rw (e, h) refl

pub no-nul-append : (xs ys : List ℕ) → has_no_nul xs ≡ true → has_no_nul ys ≡ true → has_no_nul (xs ++ ys) ≡ true
no-nul-append [] ys h k = k
no-nul-append (x ∷ xs) ys h k =
    let two = and_parts (is_no_nul x) (has_no_nul xs) h in
    rw (two.0, no-nul-append xs ys two.1 k) refl

pub no-nul-blanks : (n : ℕ) → has_no_nul (blanks n) ≡ true
no-nul-blanks zero = refl
no-nul-blanks (suc n) = no-nul-blanks n

glyph-some : (n : ℕ) → n < 16 → (digit_glyph false n == 0) ≡ false
glyph-some n small =
    let P : ℕ → Bool = λ c. is_some (hexadecimal c) in
    let known : P (digit_glyph false n) ≡ true = rw (glyph n small).value refl in
    apart P 0 (digit_glyph false n) refl known

pub no-nul-code : (c : ℕ) → c < 128 → has_no_nul (escaped_code c) ≡ true
no-nul-code c small = rw (glyph-some (c / 16) (omega arith), glyph-some (c % 16) (omega arith)) refl

pub pick : (P : List ℕ → Type 0) (b : Bool) (e f : List ℕ) → P e → (b ≡ false → P f) → P (if b then e else f)
pick P true e f yes_ no_ = yes_
pick P false e f yes_ no_ = no_ refl

no-nul-escaped : (c : ℕ) → has_no_nul (escaped c) ≡ true
no-nul-escaped c =
    let P : List ℕ → Type 0 = λ e. has_no_nul e ≡ true in
    pick P (c == 34) _ _ refl (λ _. pick P (c == 92) _ _ refl (λ _. pick P (c == 8) _ _ refl (λ _. pick P (c == 9) _ _ refl (λ _. pick P (c == 10) _ _ refl (λ _.
    pick P (c == 12) _ _ refl (λ _. pick P (c == 13) _ _ refl (λ _.
    pick-small P (nat_lt c 32 || c == 127) _ _ (λ small. no-nul-code c (small-code c small)) (λ large.
    let above : nat_lt c 32 ≡ false = (or_parts (nat_lt c 32) (c == 127) large).0 in
    let some : (c == 0) ≡ false = grind (arith, nat_tests) in
    no-nul-more c [] some refl))))))))

no-nul-quoted : (s : List ℕ) → has_no_nul (flat_map escaped s ++ 34 ∷ []) ≡ true
no-nul-quoted [] = refl
no-nul-quoted (c ∷ s) =
    let split : has_no_nul (escaped c ++ (flat_map escaped s ++ 34 ∷ [])) ≡ true = no-nul-append (escaped c) (flat_map escaped s ++ 34 ∷ []) (no-nul-escaped c) (no-nul-quoted s) in
    rw (append_assoc (escaped c) (flat_map escaped s) (34 ∷ [])) split

abbrev Nulless : List ℕ → Type 0
Nulless cs = (b : Bool) → is_tail b cs ≡ true → has_no_nul cs ≡ true

no-nul-by : (c : ℕ) (cs : List ℕ) → Nulless cs → (q : Bool) → (c == 32) ≡ q → Nulless (c ∷ cs)
no-nul-by c cs rest true e b h =
    let some : (c == 0) ≡ false = grind (arith, nat_tests) in
    no-nul-more c cs some (rest true (if-true (c == 32) (is_tail true cs) (is_word_character c && is_tail false cs) e h))
no-nul-by c cs rest false e b h =
    let two = and_parts (is_word_character c) (is_tail false cs) (if-false (c == 32) (is_tail true cs) (is_word_character c && is_tail false cs) e h) in
    no-nul-more c cs (word_character c two.0).nul (rest false two.1)

no-nul-tail : (cs : List ℕ) → Nulless cs
no-nul-tail [] = λ b h. refl
no-nul-tail (c ∷ cs) = no-nul-by c cs (no-nul-tail cs) (c == 32) refl

start-some : (c : ℕ) (cs : List ℕ) (b d e : Bool) → is_word_start c ≡ b → (c == 45) ≡ d → (c == 46) ≡ e → b || ((d || e) && is_behind c (slice_index cs 0)) ≡ true → (c == 0) ≡ false
start-some c cs true d e f g p h = (word_character c (and_parts _ (is_word_character c) f).1).nul
start-some c cs false true e f g p h = let same : c ≡ 45 = grind (arith, nat_tests) in rw same refl
start-some c cs false false true f g p h = let same : c ≡ 46 = grind (arith, nat_tests) in rw same refl
start-some c cs false false false f g p h = absurd (cc)

pub no-nul-scalar : (v : Scalar) → is_scalar v ≡ true → has_no_nul (spelled v) ≡ true
no-nul-scalar (quote s) h = no-nul-quoted s
no-nul-scalar (bare []) h = refl
no-nul-scalar (bare (c ∷ w)) h =
    let two = and_parts (is_start c w) (is_tail false w) h in
    no-nul-more c w (start-some c w (is_word_start c) (c == 45) (c == 46) refl refl refl two.0) (no-nul-tail w false two.1)

no-nul-ends : (n : ℕ) → has_no_nul (line_ends n) ≡ true
no-nul-ends zero = refl
no-nul-ends (suc n) = no-nul-ends n

no-nul-sign : (count : ℕ) → has_no_nul (block_sign count) ≡ true
no-nul-sign zero = refl
no-nul-sign (suc zero) = refl
no-nul-sign (suc (suc n)) = refl

no-nul-shifted-by : (q : Bool) (n c : ℕ) (cs : List ℕ) → (c == 10) ≡ q → (c == 0) ≡ false → has_no_nul (shifted n cs) ≡ true → has_no_nul (shifted n (c ∷ cs)) ≡ true
no-nul-shifted-by true n c cs e some h = rw e (no-nul-append (blanks n) (shifted n cs) (no-nul-blanks n) h)
no-nul-shifted-by false n c cs e some h = rw (e, some) h

no-nul-shifted : (n : ℕ) (cs : List ℕ) (b : Bool) → is_block_tail b cs ≡ true → has_no_nul (shifted n cs) ≡ true
no-nul-shifted n [] b h = refl
no-nul-shifted n (c ∷ cs) b h =
    let two = and_parts (not (c == 13 || c == 0)) (is_block_tail (c == 10) cs) h in
    let none = or_parts (c == 13) (c == 0) (not_true (c == 13 || c == 0) two.0) in
    no-nul-shifted-by (c == 10) n c cs refl none.1 (no-nul-shifted n cs (c == 10) two.1)

no-nul-core : (n : ℕ) (w : List ℕ) → is_block w ≡ true → has_no_nul (shifted n w) ≡ true
no-nul-core n [] h = refl
no-nul-core n (c ∷ cs) h =
    let two = and_parts _ (is_block_tail false cs) h in
    let nul = or_parts _ (c == 0) (not_true _ two.0) in
    no-nul-shifted-by (c == 10) n c cs refl nul.1 (no-nul-shifted n cs false two.1)

pub no-nul-block : (n : ℕ) (w : List ℕ) (count : ℕ) (more : Bool) → is_block w ≡ true → has_no_nul (block_at n w count more) ≡ true
no-nul-block n w count more h =
    let rest : List ℕ = shifted n w ++ (10 ∷ line_ends (empty_lines more count)) in
    no-nul-append (block_sign count) (10 ∷ (blanks n ++ rest)) (no-nul-sign count)
    (no-nul-append (blanks n) rest (no-nul-blanks n) (no-nul-append (shifted n w) (10 ∷ line_ends (empty_lines more count)) (no-nul-core n w h) (no-nul-ends (empty_lines more count))))
