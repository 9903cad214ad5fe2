-- What the lines of a file without a header tell.
use Rattle.snap_store.proofs.Prelude.{◌≡◌, ◌==◌, ℕ, List, [], ◌∷◌, Bool, true, false, cond, map, drop, Option, None, Some, Bor, refl, sym, ap, ◌∙◌, codes, true-eqb, MatchOption, option_map, chars, ended_lines, line_of, before_blank, behind_name, legacy_lines, legacy_field, Meta, empty_meta, legacy_meta}

-- after the whole name a colon must stand
pub colon_behind : (result : Option (Bor (List ℕ))) (letters rest : List ℕ) → letters ≡ []
    → MatchOption result ((cs : List ℕ) → rest ≡ 58 ∷ cs → ⊥) (λ more. rest ≡ 58 ∷ chars more.now)
    → option_map (λ more. chars more.now) result ≡ behind_name letters rest
colon_behind result letters rest none h = at_end result rest h ∙ ap (λ ls. behind_name ls rest) (sym none)
  where
    no_colon : (c : ℕ) (cs : List ℕ) → ((ds : List ℕ) → c ∷ cs ≡ 58 ∷ ds → ⊥) → (b : Bool) → (c == 58) ≡ b → None ≡ cond b (Some cs) None
    no_colon c cs h true is = absurd (h cs (ap (λ d. d ∷ cs) (true-eqb c 58 (sym is))))
    no_colon c cs h false is = refl

    at_end : (result : Option (Bor (List ℕ))) (rest : List ℕ) → MatchOption result ((cs : List ℕ) → rest ≡ 58 ∷ cs → ⊥) (λ more. rest ≡ 58 ∷ chars more.now)
        → option_map (λ more. chars more.now) result ≡ behind_name [] rest
    at_end None [] h = refl
    at_end None (c ∷ cs) h = no_colon c cs h (c == 58) refl
    at_end (Some more) rest h = sym (ap (behind_name []) h)

-- the field of a name, in the lines after the first one
pub field_told : (text lines : List ℕ) (name : List ℕ) (value : Option (List ℕ)) → chars name ≡ name → ended_lines lines ≡ drop 1 (ended_lines text)
    → value ≡ legacy_field (chars name) (before_blank (map line_of (ended_lines lines))) → value ≡ legacy_field name (before_blank (legacy_lines text))
field_told text lines name value plain behind is =
    is ∙ ap (λ n. legacy_field n (before_blank (map line_of (ended_lines lines)))) plain ∙ ap (λ ps. legacy_field name (before_blank (map line_of ps))) behind

-- both fields make the metadata
pub both_told : (text : List ℕ) (source expression : Option (List ℕ)) (first second third : Meta) → first ≡ empty_meta
    → second ≡ record first { source = source } → third ≡ record second { expression = expression }
    → source ≡ legacy_field (codes "source") (before_blank (legacy_lines text)) → expression ≡ legacy_field (codes "expression") (before_blank (legacy_lines text))
    → third ≡ legacy_meta text
both_told text source expression first second third empty one two source_is expression_is =
    let told : List ℕ → Option (List ℕ) = λ name. legacy_field name (before_blank (legacy_lines text)) in
    let put_last : Meta → Meta = λ m. record m { expression = expression } in
    let put_both : Meta → Meta = λ m. record m { source = source; expression = expression } in
    let with_source : Option (List ℕ) → Meta = λ v. record empty_meta { source = v; expression = expression } in
    let with_expression : Option (List ℕ) → Meta = λ v. record empty_meta { source = told (codes "source"); expression = v } in
    two ∙ ap put_last one ∙ ap put_both empty ∙ ap with_source source_is ∙ ap with_expression expression_is
