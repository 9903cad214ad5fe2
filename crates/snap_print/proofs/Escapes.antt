-- How a character is written between double quotes.
use Rattle.snap_print.proofs.Prelude.{◌≡◌, ℕ, ◌<◌, ◌+◌, ◌*◌, ◌/◌, ◌%◌, List, [], ◌∷◌, ◌++◌, Bool, true, false, ◌==◌, ◌||◌, cond, nat_lt, refl, ap, ◌∙◌, arith, append_assoc, nat_tests, digit_glyph, flat_map, list_any, codes, is_break, escaped, escaped_code, or_left}

-- by a letter after a backslash, by a code, or as it is
pub data Kind (c : ℕ) : List ℕ → Type 0 where
  quote : 34 ≡ c → Kind c (codes "\\\"")
  slash : 92 ≡ c → Kind c (codes "\\\\")
  backspace : 8 ≡ c → Kind c (codes "\\b")
  tab : 9 ≡ c → Kind c (codes "\\t")
  line_end : 10 ≡ c → Kind c (codes "\\n")
  page_end : 12 ≡ c → Kind c (codes "\\f")
  line_start : 13 ≡ c → Kind c (codes "\\r")
  coded : (high low : ℕ) → high < 16 → low < 16 → c ≡ high * 16 + low → Kind c (92 ∷ 117 ∷ 48 ∷ 48 ∷ digit_glyph false high ∷ digit_glyph false low ∷ [])
  bare : (c == 34) ≡ false → (c == 92) ≡ false → nat_lt c 32 ≡ false → Kind c (c ∷ [])

layer : (c : ℕ) (b : Bool) (x y : List ℕ) → (b ≡ true → Kind c x) → (b ≡ false → Kind c y) → Kind c (cond b x y)
layer c true x y f g = f refl
layer c false x y f g = g refl

same : (c d : ℕ) → (c == d) ≡ true → d ≡ c
same c d h = grind (arith, nat_tests)

small : (c : ℕ) → (nat_lt c 32 || c == 127) ≡ true → c < 128
small c h = grind (arith, nat_tests)

code : (c : ℕ) → (nat_lt c 32 || c == 127) ≡ true → Kind c (escaped_code c)
code c h = let below = small c h in coded (c / 16) (c % 16) (omega arith) (omega arith) (omega arith)

pub kind : (c : ℕ) → Kind c (escaped c)
kind c =
    layer c (c == 34) _ _ (λ h. quote (same c 34 h)) (λ no_quote.
    layer c (c == 92) _ _ (λ h. slash (same c 92 h)) (λ no_slash.
    layer c (c == 8) _ _ (λ h. backspace (same c 8 h)) (λ _.
    layer c (c == 9) _ _ (λ h. tab (same c 9 h)) (λ _.
    layer c (c == 10) _ _ (λ h. line_end (same c 10 h)) (λ _.
    layer c (c == 12) _ _ (λ h. page_end (same c 12 h)) (λ _.
    layer c (c == 13) _ _ (λ h. line_start (same c 13 h)) (λ _.
    layer c (nat_lt c 32 || c == 127) _ _ (code c) (λ high. bare no_quote no_slash (or_left (nat_lt c 32) (c == 127) high)))))))))

-- nothing that is written so holds a line's end
glyph_unbroken : (d : ℕ) → is_break (digit_glyph false d) ≡ false
glyph_unbroken d = grind (arith, nat_tests)

unbroken_above : (c : ℕ) → nat_lt c 32 ≡ false → is_break c ≡ false
unbroken_above c high = grind (arith, nat_tests)

unbroken-kind : (c : ℕ) (w r : List ℕ) → Kind c w → list_any is_break (w ++ r) ≡ list_any is_break r
unbroken-kind c _ r (quote is) = refl
unbroken-kind c _ r (slash is) = refl
unbroken-kind c _ r (backspace is) = refl
unbroken-kind c _ r (tab is) = refl
unbroken-kind c _ r (line_end is) = refl
unbroken-kind c _ r (page_end is) = refl
unbroken-kind c _ r (line_start is) = refl
unbroken-kind c _ r (coded high low h l is) = rw (glyph_unbroken high, glyph_unbroken low) refl
unbroken-kind c _ r (bare no_quote no_slash high) = rw (unbroken_above c high) refl

pub unbroken-escaped : (s r : List ℕ) → list_any is_break (flat_map escaped s ++ r) ≡ list_any is_break r
unbroken-escaped [] r = refl
unbroken-escaped (c ∷ cs) r =
    ap (list_any is_break) (append_assoc (escaped c) (flat_map escaped cs) r)
    ∙ unbroken-kind c (escaped c) (flat_map escaped cs ++ r) (kind c) ∙ unbroken-escaped cs r
