-- An escaped character reads as itself.
use Rattle.snap_text_literals.proofs.Prelude.{◌≡◌, ◌==◌, ℕ, ◌+◌, ◌*◌, ◌/◌, ◌%◌, ◌<◌, List, [], ◌∷◌, ◌++◌, Bool, true, false, ◌||◌, cond, nat_lt, Some, refl, sym, ap, ◌∙◌, arith, append_assoc, true-eqb, nat_tests, digit_value-digit_char, digit_value, digit_char, list_any, flat_map, scalar, low_scalar, or_left, or_right, unit_of, braced, Inside, ends, goes_on, escaped_char, is_control, digits}

digit_no_brace : (d : ℕ) → d < 16 → (digit_char d == 125) ≡ false
digit_no_brace d h = grind (arith, nat_tests)

digit_small : (d : ℕ) → d < 16 → nat_lt (digit_value (digit_char d)) 16 ≡ true
digit_small d h = let e : digit_value (digit_char d) ≡ d = digit_value-digit_char d (omega arith) in grind (arith, nat_tests)

braced_digit : (count value d : ℕ) (rest : List ℕ) → nat_lt count 6 ≡ true → d < 16 → braced count value (digit_char d ∷ rest) ≡ braced (count + 1) (value * 16 + d) rest
braced_digit count value d rest room h =
    rw (digit_no_brace d h, room, digit_small d h, digit_value-digit_char d (omega arith))

braced_close : (count value : ℕ) (rest : List ℕ) → nat_lt 0 count ≡ true → scalar value ≡ true → braced count value (125 ∷ rest) ≡ Some (value ∷ [], rest)
braced_close count value rest h k = rw (h, k)

braced_digits : (c : ℕ) (rest : List ℕ) (one : Bool) → nat_lt c 16 ≡ one → c < 256
    → braced 0 0 ((cond one (digit_char c ∷ []) (digit_char (c / 16) ∷ digit_char (c % 16) ∷ []) ++ 125 ∷ []) ++ rest) ≡ Some (c ∷ [], rest)
braced_digits c rest true e h =
    let small : c < 16 = grind (arith, nat_tests) in
    let value : 0 * 16 + c ≡ c = omega arith in
    braced_digit 0 0 c (125 ∷ rest) refl small ∙ ap (λ v. braced 1 v (125 ∷ rest)) value
    ∙ braced_close 1 c rest refl (low_scalar c (omega arith))
braced_digits c rest false e h =
    let high : c / 16 < 16 = omega arith in
    let low : c % 16 < 16 = omega arith in
    let value : (0 * 16 + c / 16) * 16 + c % 16 ≡ c = omega arith in
    braced_digit 0 0 (c / 16) (digit_char (c % 16) ∷ 125 ∷ rest) refl high
    ∙ braced_digit 1 (0 * 16 + c / 16) (c % 16) (125 ∷ rest) refl low
    ∙ ap (λ v. braced 2 v (125 ∷ rest)) value
    ∙ braced_close 2 c rest refl (low_scalar c (omega arith))

control_small : (c : ℕ) → is_control c ≡ true → c < 256
control_small c h = grind (arith, nat_tests)

escape_case : (c k : ℕ) (front other rest : List ℕ) (b : Bool) → (c == k) ≡ b → unit_of (front ++ rest) ≡ Some (k ∷ [], rest)
    → ((c == k) ≡ false → unit_of (other ++ rest) ≡ Some (c ∷ [], rest)) → unit_of (cond b front other ++ rest) ≡ Some (c ∷ [], rest)
escape_case c k front other rest true e h next = h ∙ ap (λ x. Some (x ∷ [], rest)) (sym (true-eqb c k (sym e)))
escape_case c k front other rest false e h next = next e

pub unit-bare : (c : ℕ) (rest : List ℕ) → (c == 92) ≡ false → (c == 34) ≡ false → (c == 13) ≡ false → unit_of (c ∷ rest) ≡ Some (c ∷ [], rest)
unit-bare c rest a b d = rw (a, b, d)

last_case : (c : ℕ) (rest : List ℕ) (b : Bool) → is_control c ≡ b → (c == 92) ≡ false → (c == 34) ≡ false → (c == 13) ≡ false
    → unit_of (cond b (92 ∷ 117 ∷ 123 ∷ (digits c ++ 125 ∷ [])) (c ∷ []) ++ rest) ≡ Some (c ∷ [], rest)
last_case c rest true e x y z = braced_digits c rest (nat_lt c 16) refl (control_small c e)
last_case c rest false e x y z = unit-bare c rest x y z

unit-escaped : (c : ℕ) (rest : List ℕ) → unit_of (escaped_char c ++ rest) ≡ Some (c ∷ [], rest)
unit-escaped c rest =
    escape_case c 0 (92 ∷ 48 ∷ []) _ rest (c == 0) refl refl (λ _.
    escape_case c 9 (92 ∷ 116 ∷ []) _ rest (c == 9) refl refl (λ _.
    escape_case c 10 (92 ∷ 110 ∷ []) _ rest (c == 10) refl refl (λ _.
    escape_case c 13 (92 ∷ 114 ∷ []) _ rest (c == 13) refl refl (λ z.
    escape_case c 34 (92 ∷ 34 ∷ []) _ rest (c == 34) refl refl (λ y.
    escape_case c 92 (92 ∷ 92 ∷ []) _ rest (c == 92) refl refl (λ x. last_case c rest (is_control c) refl x y z))))))

pub reads-escaped : (text : List ℕ) → Inside (flat_map escaped_char text ++ 34 ∷ []) text
reads-escaped [] = ends refl refl
reads-escaped (c ∷ cs) =
    let rest : List ℕ = flat_map escaped_char cs ++ 34 ∷ [] in
    goes_on (c ∷ []) rest cs (ap unit_of (append_assoc (escaped_char c) (flat_map escaped_char cs) (34 ∷ [])) ∙ unit-escaped c rest) refl (reads-escaped cs)

-- characters that stand for themselves
abbrev pub is_barred : ℕ → Bool
is_barred c = (c == 92 || c == 34) || c == 13

pub reads-bare : (text : List ℕ) → list_any is_barred text ≡ false → Inside (text ++ 34 ∷ []) text
reads-bare [] h = ends refl refl
reads-bare (c ∷ cs) h =
    let here : is_barred c ≡ false = or_left (is_barred c) (list_any is_barred cs) h in
    let marked : (c == 92 || c == 34) ≡ false = or_left (c == 92 || c == 34) (c == 13) here in
    goes_on (c ∷ []) (cs ++ 34 ∷ []) cs
    (unit-bare c (cs ++ 34 ∷ []) (or_left (c == 92) (c == 34) marked) (or_right (c == 92) (c == 34) marked) (or_right (c == 92 || c == 34) (c == 13) here)) refl
    (reads-bare cs (or_right (is_barred c) (list_any is_barred cs) h))
