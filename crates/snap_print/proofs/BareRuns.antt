-- Runs of characters that stand as they are between double quotes.
use Rattle.snap_print.proofs.Prelude.{◌≡◌, ℕ, List, [], ◌∷◌, ◌++◌, Bool, false, ◌==◌, nat_lt, refl, sym, ap, ◌∙◌, arith, append_assoc, nat_tests, list_any, flat_map, flat_map-append, escaped, is_escaped, IsBareBefore, or_from, or_left, or_right}

-- two pieces without such a character
any_both : (test : ℕ → Bool) (xs ys : List ℕ) → list_any test xs ≡ false → list_any test ys ≡ false → list_any test (xs ++ ys) ≡ false
any_both test [] ys h k = k
any_both test (x ∷ xs) ys h k =
    or_from (test x) (list_any test (xs ++ ys)) (or_left (test x) (list_any test xs) h)
    (any_both test xs ys (or_right (test x) (list_any test xs) h) k)

-- one more character that stands as it is
pub bare_more : (text rest next : List ℕ) (c : ℕ) → IsBareBefore text rest → rest ≡ c ∷ next → is_escaped c ≡ false → IsBareBefore text next
bare_more text rest next c h front same =
    record {
      front = h.front ++ c ∷ [];
      whole = h.whole ∙ ap (λ x. h.front ++ x) front ∙ sym (append_assoc h.front (c ∷ []) next);
      bare = any_both is_escaped h.front (c ∷ []) h.bare (or_from (is_escaped c) false same refl);
    }

pub escaped-bare : (c : ℕ) → is_escaped c ≡ false → escaped c ≡ c ∷ []
escaped-bare c h =
    let quotes : (c == 34) ≡ false = grind (arith, nat_tests) in
    let slash : (c == 92) ≡ false = grind (arith, nat_tests) in
    let back : (c == 8) ≡ false = grind (arith, nat_tests) in
    let tab : (c == 9) ≡ false = grind (arith, nat_tests) in
    let line : (c == 10) ≡ false = grind (arith, nat_tests) in
    let page : (c == 12) ≡ false = grind (arith, nat_tests) in
    let return : (c == 13) ≡ false = grind (arith, nat_tests) in
    let low : nat_lt c 32 ≡ false = grind (arith, nat_tests) in
    let del : (c == 127) ≡ false = grind (arith, nat_tests) in
    rw (quotes, slash, back, tab, line, page, return, low, del) refl

-- a run of such characters stands as it is
pub run-bare : (escape : ℕ → List ℕ) → ((c : ℕ) → is_escaped c ≡ false → escape c ≡ c ∷ []) → (s : List ℕ) → list_any is_escaped s ≡ false
    → flat_map escape s ≡ s
run-bare escape same [] h = refl
run-bare escape same (c ∷ cs) h =
    ap (λ x. x ++ flat_map escape cs) (same c (or_left (is_escaped c) (list_any is_escaped cs) h))
    ∙ ap (λ x. c ∷ x) (run-bare escape same cs (or_right (is_escaped c) (list_any is_escaped cs) h))

-- a text of such a run and a rest
pub run_split : (escape : ℕ → List ℕ) → ((c : ℕ) → is_escaped c ≡ false → escape c ≡ c ∷ []) → (text run rest : List ℕ) → text ≡ run ++ rest
    → list_any is_escaped run ≡ false → flat_map escape text ≡ run ++ flat_map escape rest
run_split escape same text run rest whole bare =
    ap (flat_map escape) whole ∙ flat_map-append escape run rest ∙ ap (λ x. x ++ flat_map escape rest) (run-bare escape same run bare)

-- after what was written stands the character, and what follows it
pub step_first : (escape : ℕ → List ℕ) (all done text behind : List ℕ) (c : ℕ) → flat_map escape all ≡ done ++ flat_map escape text
    → text ≡ c ∷ behind → flat_map escape all ≡ done ++ (escape c ++ flat_map escape behind)
step_first escape all done text behind c split front = split ∙ ap (λ x. done ++ flat_map escape x) front

-- the same with a run after the character
pub step_after : (escape : ℕ → List ℕ) → ((c : ℕ) → is_escaped c ≡ false → escape c ≡ c ∷ []) → (all done text behind run rest : List ℕ) (c : ℕ)
    → flat_map escape all ≡ done ++ flat_map escape text → text ≡ c ∷ behind → behind ≡ run ++ rest → list_any is_escaped run ≡ false
    → flat_map escape all ≡ (done ++ escape c) ++ (run ++ flat_map escape rest)
step_after escape same all done text behind run rest c split front whole bare =
    step_first escape all done text behind c split front ∙ ap (λ x. done ++ (escape c ++ x)) (run_split escape same behind run rest whole bare)
    ∙ sym (append_assoc done (escape c) (run ++ flat_map escape rest))
