-- No NUL stands in a JSON text.
use Rattle.snap_parse_laws_json.proofs.Prelude.{◌≡◌, ℕ, ◌+◌, List, [], ◌∷◌, ◌++◌, Bool, true, false, refl, arith, nat_lt, append_assoc, nat_tests, ◌==◌, signed_decimal, flat_map, Plain, null, bool, int, text, list, dict, Plains, no_items, item, Entries, no_entries, entry, spell_bool, text_at, items_at, entries_at, member_text, json_escaped, json_string, Condensed, bare, has_no_nul, no-nul-append, no-nul-more, no-nul-code, no-nul-scalar, pick, pick-small, bare-int}

no-nul-escaped : (c : ℕ) → has_no_nul (json_escaped c) ≡ true
no-nul-escaped c =
    let P : List ℕ → Type 0 = λ e. has_no_nul e ≡ true in
    pick P (c == 34) _ _ refl (λ _. pick P (c == 92) _ _ refl (λ _. pick P (c == 8) _ _ refl (λ _. pick P (c == 9) _ _ refl (λ _. pick P (c == 10) _ _ refl (λ _.
    pick P (c == 12) _ _ refl (λ _. pick P (c == 13) _ _ refl (λ _.
    pick-small P (nat_lt c 32) _ _ (λ small. no-nul-code c (grind (arith, nat_tests))) (λ large.
    let some : (c == 0) ≡ false = grind (arith, nat_tests) in
    no-nul-more c [] some refl))))))))

no-nul-behind : (s : List ℕ) → has_no_nul (flat_map json_escaped s ++ 34 ∷ []) ≡ true
no-nul-behind [] = refl
no-nul-behind (c ∷ s) =
    let split : has_no_nul (json_escaped c ++ (flat_map json_escaped s ++ 34 ∷ [])) ≡ true =
    no-nul-append (json_escaped c) (flat_map json_escaped s ++ 34 ∷ []) (no-nul-escaped c) (no-nul-behind s) in
    rw (append_assoc (json_escaped c) (flat_map json_escaped s) (34 ∷ [])) split

no-nul-string : (s : List ℕ) → has_no_nul (json_string s) ≡ true
no-nul-string s = no-nul-behind s

no-nul-bool : (b : Bool) → has_no_nul (spell_bool b) ≡ true
no-nul-bool true = refl
no-nul-bool false = refl

no-nul-key : (key : Plain) → has_no_nul (member_text Condensed key) ≡ true
no-nul-key null = refl
no-nul-key (bool b) = refl
no-nul-key (int z) = refl
no-nul-key (text s) = no-nul-append (json_string s) (58 ∷ []) (no-nul-string s) refl
no-nul-key (list ps) = refl
no-nul-key (dict es) = refl

mutual
  pub no-nul : (p : Plain) (column : ℕ) → has_no_nul (text_at Condensed column p) ≡ true
  no-nul null column = refl
  no-nul (bool b) column = no-nul-bool b
  no-nul (int z) column = no-nul-scalar (bare (signed_decimal z)) (bare-int z)
  no-nul (text s) column = no-nul-string s
  no-nul (list no_items) column = refl
  no-nul (list (item p ps)) column =
      no-nul-append (text_at Condensed (column + 2) p) (items_at Condensed (column + 2) ps ++ 93 ∷ []) (no-nul p (column + 2))
      (no-nul-append (items_at Condensed (column + 2) ps) (93 ∷ []) (no-nul-items ps (column + 2)) refl)
  no-nul (dict no_entries) column = refl
  no-nul (dict (entry key p es)) column =
      no-nul-append (member_text Condensed key ++ text_at Condensed (column + 2) p) (entries_at Condensed (column + 2) es ++ 125 ∷ [])
      (no-nul-append (member_text Condensed key) (text_at Condensed (column + 2) p) (no-nul-key key) (no-nul p (column + 2)))
      (no-nul-append (entries_at Condensed (column + 2) es) (125 ∷ []) (no-nul-entries es (column + 2)) refl)

  no-nul-items : (ps : Plains) (column : ℕ) → has_no_nul (items_at Condensed column ps) ≡ true
  no-nul-items no_items column = refl
  no-nul-items (item p ps) column = no-nul-append (text_at Condensed column p) (items_at Condensed column ps) (no-nul p column) (no-nul-items ps column)

  no-nul-entries : (es : Entries) (column : ℕ) → has_no_nul (entries_at Condensed column es) ≡ true
  no-nul-entries no_entries column = refl
  no-nul-entries (entry key p es) column =
      no-nul-append (member_text Condensed key ++ text_at Condensed column p) (entries_at Condensed column es)
      (no-nul-append (member_text Condensed key) (text_at Condensed column p) (no-nul-key key) (no-nul p column)) (no-nul-entries es column)
