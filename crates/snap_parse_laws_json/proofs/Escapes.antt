-- What JSON writes between double quotes is read as the text.
use Rattle.snap_parse_laws_json.proofs.Prelude.{◌≡◌, ℕ, ◌+◌, List, [], ◌∷◌, ◌++◌, false, refl, arith, Some, nat_lt, length, nat_tests, ◌==◌, Quoted, double_from, json_escaped, json_string, here, Passes, passes-letter, passes-same, passes-code, passes-other-by, quoted-by, pick-small}

passes : (c : ℕ) → Passes c (json_escaped c)
passes c =
    let P : List ℕ → Type 0 = λ e. Passes c e in
    pick-small P (c == 34) _ _ (passes-same c (92 ∷ 34 ∷ []) 34 (passes-letter 34 (92 ∷ 34 ∷ []) (λ gap text rest i l j right. rw right refl))) (λ quotes.
    pick-small P (c == 92) _ _ (passes-same c (92 ∷ 92 ∷ []) 92 (passes-letter 92 (92 ∷ 92 ∷ []) (λ gap text rest i l j right. rw right refl))) (λ slash.
    pick-small P (c == 8) _ _ (passes-same c (92 ∷ 98 ∷ []) 8 (passes-letter 8 (92 ∷ 98 ∷ []) (λ gap text rest i l j right. rw right refl))) (λ back.
    pick-small P (c == 9) _ _ (passes-same c (92 ∷ 116 ∷ []) 9 (passes-letter 9 (92 ∷ 116 ∷ []) (λ gap text rest i l j right. rw right refl))) (λ tab.
    pick-small P (c == 10) _ _ (passes-same c (92 ∷ 110 ∷ []) 10 (passes-letter 10 (92 ∷ 110 ∷ []) (λ gap text rest i l j right. rw right refl))) (λ line.
    pick-small P (c == 12) _ _ (passes-same c (92 ∷ 102 ∷ []) 12 (passes-letter 12 (92 ∷ 102 ∷ []) (λ gap text rest i l j right. rw right refl))) (λ feed.
    pick-small P (c == 13) _ _ (passes-same c (92 ∷ 114 ∷ []) 13 (passes-letter 13 (92 ∷ 114 ∷ []) (λ gap text rest i l j right. rw right refl))) (λ return.
    pick-small P (nat_lt c 32) _ _ (λ small. passes-code c (grind (arith, nat_tests))) (λ large.
    let nul : (c == 0) ≡ false = grind (arith, nat_tests) in
    passes-other-by c (record { quotes = quotes; slash = slash; tab = tab; line = line; return = return; nul = nul }) (c == 32) refl))))))))

-- the place after a text in quotes
abbrev pub read_string : List ℕ → List ℕ → ℕ → ℕ → Quoted
read_string s tail i j = record { text = s; place = here tail (i + length (json_string s)) 1 (j + length (json_string s)) }

pub string-whole : (s tail : List ℕ) (i j : ℕ) → double_from (here (json_string s ++ tail) i 1 j) ≡ Some (read_string s tail i j)
string-whole s tail i j = quoted-by json_escaped passes s tail i 1 j
