-- What begins at a place begins with its sign.
use Rattle.snap_scan.proofs.Prelude.{◌≡◌, ◌≢◌, ℕ, Bool, true, false, refl, subst, sym, slice_index, if◌then◌else◌, ◌==◌, ◌&&◌, ◌∙◌, arith, eqb-true, Place, explains, is_document_start, is_document_end, ScanInfo, TokenKind, Begins, is_alone, is_value, kind_of, kind_of_sign, both_second, eqb-false}
use Rattle.snap_scan_tokens.specs.declared.info.ScanInfo.TheVariants as i
use Rattle.snap_scan.specs.declared.kind.TokenKind.TheVariants as k

pick : (b : Bool) (x y : TokenKind) (c : ℕ) → (b ≡ true → Begins x c) → (b ≡ false → Begins y c) → Begins (if b then x else y) c
pick true x y c yes_b no_b = yes_b refl
pick false x y c yes_b no_b = no_b refl

-- a sign that counts only in some places, and is plain in others
or-plain : (b : Bool) (x : TokenKind) (c n : ℕ) → c ≡ n → n ≢ 0 → Begins x n → Begins (if b then x else k.Plain) c
or-plain true x c n is some begins = let P : ℕ → Type 0 = λ m. Begins x m in subst P (sym is) begins
or-plain false x c n is some begins = λ none. some (sym is ∙ none)

plain-or : (b : Bool) (x : TokenKind) (c n : ℕ) → c ≡ n → n ≢ 0 → Begins x n → Begins (if b then k.Plain else x) c
plain-or false x c n is some begins = let P : ℕ → Type 0 = λ m. Begins x m in subst P (sym is) begins
plain-or true x c n is some begins = λ none. some (sym is ∙ none)

refuses : (info : ScanInfo) (c n : ℕ) → c ≢ 0 → c ≡ n → explains n info ≡ true → (explains c info ≡ true) × (c ≢ 0)
refuses info c n some is e = let P : ℕ → Type 0 = λ m. explains m info ≡ true in (subst P (sym is) e, some)

pub sign-begins : (flow : Bool) (adjacent : ℕ) (p : Place) (c : ℕ) → c ≢ 0 → Begins (kind_of_sign flow adjacent p c) c
sign-begins flow adjacent p c some =
    pick (c == 91) _ _ c (eqb-true c 91) (λ _.
    pick (c == 123) _ _ c (eqb-true c 123) (λ _.
    pick (c == 93) _ _ c (eqb-true c 93) (λ _.
    pick (c == 125) _ _ c (eqb-true c 125) (λ _.
    pick (c == 44) _ _ c (eqb-true c 44) (λ _.
    pick (c == 45) _ _ c (λ e. or-plain (is_alone p.left) k.BlockEntry c 45 (eqb-true c 45 e) (omega arith) refl) (λ _.
    pick (c == 63) _ _ c (λ e. or-plain (is_alone p.left) k.Key c 63 (eqb-true c 63 e) (omega arith) refl) (λ _.
    pick (c == 58) _ _ c (λ e. or-plain (is_value flow adjacent p) k.Value c 58 (eqb-true c 58 e) (omega arith) refl) (λ _.
    pick (c == 42) _ _ c (eqb-true c 42) (λ _.
    pick (c == 38) _ _ c (eqb-true c 38) (λ _.
    pick (c == 33) _ _ c (eqb-true c 33) (λ _.
    pick (c == 124) _ _ c (λ e. plain-or flow k.Literal c 124 (eqb-true c 124 e) (omega arith) refl) (λ _.
    pick (c == 62) _ _ c (λ e. plain-or flow k.Folded c 62 (eqb-true c 62 e) (omega arith) refl) (λ _.
    pick (c == 39) _ _ c (eqb-true c 39) (λ _.
    pick (c == 34) _ _ c (eqb-true c 34) (λ _.
    pick (c == 37) _ _ c (λ e. refuses i.S3 c 37 some (eqb-true c 37 e) refl) (λ _.
    pick (c == 64) _ _ c (λ e. refuses i.S4 c 64 some (eqb-true c 64 e) refl) (λ _.
    pick (c == 96) _ _ c (λ e. refuses i.S5 c 96 some (eqb-true c 96 e) refl) (λ _. some))))))))))))))))))

first-of : (a b c d e : Bool) → (a && (b && c && d && e)) ≡ true → b ≡ true
first-of true true c d e all = refl
first-of true false c d e all = absurd (cc)
first-of false b c d e all = absurd (cc)

pub kind-begins : (flow : Bool) (adjacent : ℕ) (p : Place) → Begins (kind_of flow adjacent p) (slice_index p.left 0)
kind-begins flow adjacent p =
    let c = slice_index p.left 0 in
    pick (c == 0) _ _ c (eqb-true c 0) (λ some.
    pick (p.col == 0 && c == 37) _ _ c (λ e. eqb-true c 37 (both_second (p.col == 0) (c == 37) e)) (λ _.
    pick (is_document_start p) _ _ c (λ e. eqb-true c 45 (first-of _ (c == 45) _ _ _ e)) (λ _.
    pick (is_document_end p) _ _ c (λ e. eqb-true c 46 (first-of _ (c == 46) _ _ _ e)) (λ _.
    sign-begins flow adjacent p c (λ none. eqb-false c 0 some none)))))
