-- Double quotes are read as the text that is escaped between them.
use Rattle.snap_parse_laws.proofs.Prelude.{◌≡◌, ℕ, suc, ◌+◌, ◌*◌, ◌<◌, ◌/◌, ◌%◌, List, [], ◌∷◌, ◌++◌, Bool, true, false, refl, ap, ◌∙◌, arith, sym, subst, Some, Option, nat_lt, length, append-nil, append_assoc, nat_tests, ◌||◌, ◌&&◌, ◌==◌, if◌then◌else◌, digit_glyph, flat_map, escaped_code, is_blank, is_break, is_document_indicator, no_gap, Place, skipped, Quoted, double, double_from, digits, is_code, Inline, Gap, here}
use Rattle.snap_parse_laws.proofs.Escapes.{coded, glyph, passed}

pub pick-small : (P : List ℕ → Type 0) (b : Bool) (e f : List ℕ) → (b ≡ true → P e) → (b ≡ false → P f) → P (if b then e else f)
pick-small P true e f yes_ no_ = yes_ refl
pick-small P false e f yes_ no_ = no_ refl

pub small-code : (c : ℕ) → nat_lt c 32 || c == 127 ≡ true → c < 128
small-code c h = grind (arith, nat_tests)

-- a gap of blanks on one line
abbrev pub gap_in_line : List ℕ → Gap
gap_in_line g = record { fold = Inline; text = g }

-- an index after a text
abbrev pub advance : List ℕ → ℕ → ℕ
advance [] i = i
advance (x ∷ xs) i = advance xs (i + 1)

pub advance-length : (xs : List ℕ) (i : ℕ) → advance xs i ≡ i + length xs
advance-length [] i = omega arith
advance-length (x ∷ xs) i = let e : i + 1 + length xs ≡ i + length (x ∷ xs) = omega arith in advance-length xs (i + 1) ∙ e

not-zero : (j : ℕ) → (j + 1 == 0) ≡ false
not-zero j = grind (arith, nat_tests)

pub advance-right : (xs : List ℕ) (j : ℕ) → (j == 0) ≡ false → (advance xs j == 0) ≡ false
advance-right [] j h = h
advance-right (x ∷ xs) j h = advance-right xs (j + 1) (not-zero j)

pub advance-append : (xs ys : List ℕ) (i : ℕ) → advance (xs ++ ys) i ≡ advance ys (advance xs i)
advance-append [] ys i = refl
advance-append (x ∷ xs) ys i = advance-append xs ys (i + 1)

-- what is written of a character c is passed, and c is read
pub record Passed (c : ℕ) (e gap text rest : List ℕ) (i l j : ℕ) : Type 0 where
  pub gap_then : List ℕ
  pub text_then : List ℕ
  pub reads : double (gap_in_line gap) text (e ++ rest) (here (e ++ rest) i l j) ≡ double (gap_in_line gap_then) text_then rest (here rest (advance e i) l (advance e j))
  pub joins : text_then ++ gap_then ≡ text ++ gap ++ c ∷ []

abbrev pub Passes : ℕ → List ℕ → Type 0
Passes c e = (gap text rest : List ℕ) (i l j : ℕ) → (j == 0) ≡ false → Passed c e gap text rest i l j

pub passes-letter : (c : ℕ) (e : List ℕ)
    → ((gap text rest : List ℕ) (i l j : ℕ) → (j == 0) ≡ false → double (gap_in_line gap) text (e ++ rest) (here (e ++ rest) i l j)
    ≡ double no_gap (text ++ gap ++ c ∷ []) rest (here rest (advance e i) l (advance e j))) → Passes c e
passes-letter c e reads = λ gap text rest i l j right.
    record { gap_then = []; text_then = text ++ gap ++ c ∷ []; reads = reads gap text rest i l j right; joins = append-nil (text ++ gap ++ c ∷ []) }

pub passes-same : (c : ℕ) (e : List ℕ) (a : ℕ) → Passes a e → (c == a) ≡ true → Passes c e
passes-same c e a passes same = let f : c ≡ a = grind (arith, nat_tests) in let C : ℕ → Type 0 = λ x. Passes x e in subst C (sym f) passes

code-value : (c : ℕ) → (0 * 16 + c / 16) * 16 + c % 16 ≡ c
code-value c = omega arith

-- a code below 128 is that of a character
all-code : (p q : Bool) → p ≡ true → p || q ≡ true
all-code p q h = rw h refl

pub passes-code : (c : ℕ) → c < 128 → Passes c (escaped_code c)
passes-code c small =
    let a : ℕ = digit_glyph false (c / 16) in
    let b : ℕ = digit_glyph false (c % 16) in
    let v : ℕ = (0 * 16 + c / 16) * 16 + c % 16 in
    let value : v ≡ c = code-value c in
    let below : nat_lt v 55296 ≡ true = rw value (grind (arith, nat_tests)) in
    let known : is_code v ≡ true = all-code (nat_lt v 55296) (nat_lt 57343 v && nat_lt v 1114112) below in
    passes-letter c (escaped_code c) (λ gap text rest i l j right.
    let G : ℕ → Option Quoted = λ x. double no_gap (text ++ gap ++ x ∷ []) rest (here rest (i + 1 + 1 + 1 + 1 + 1 + 1) l (j + 1 + 1 + 1 + 1 + 1 + 1)) in
    let begun : double (gap_in_line gap) text (92 ∷ 117 ∷ 48 ∷ 48 ∷ a ∷ b ∷ rest) (here (92 ∷ 117 ∷ 48 ∷ 48 ∷ a ∷ b ∷ rest) i l j)
    ≡ digits 1 0 (text ++ gap) (a ∷ b ∷ rest) (here (a ∷ b ∷ rest) (i + 1 + 1 + 1 + 1) l (j + 1 + 1 + 1 + 1)) = rw right refl in
    begun ∙ coded (text ++ gap) rest a b (c / 16) (c % 16) (i + 1 + 1 + 1 + 1) l (j + 1 + 1 + 1 + 1) (glyph (c / 16) (omega arith)) (glyph (c % 16) (omega arith)) known ∙ ap G value)

five : (a b d e f : Bool) (x y z u v w : Option Quoted) → a ≡ false → b ≡ false → d ≡ false → e ≡ false → f ≡ false
    → (if a then x else (if b then y else (if d then z else (if e then u else (if f then v else w))))) ≡ w
five a b d e f x y z u v w p q r s t = rw (p, q, r, s, t) refl

pub record IsOther (c : ℕ) : Type 0 where
  pub quotes : (c == 34) ≡ false
  pub slash : (c == 92) ≡ false
  pub tab : (c == 9) ≡ false
  pub line : (c == 10) ≡ false
  pub return : (c == 13) ≡ false
  pub nul : (c == 0) ≡ false

pub passes-other-by : (c : ℕ) → IsOther c → (b : Bool) → (c == 32) ≡ b → Passes c (c ∷ [])
passes-other-by c is true e =
    let f : Passes 32 (32 ∷ []) = λ gap text rest i l j right. record { gap_then = gap ++ 32 ∷ []; text_then = text; reads = refl; joins = sym (append_assoc text gap (32 ∷ [])) } in
    let same : c ≡ 32 = grind (arith, nat_tests) in
    let C : ℕ → Type 0 = λ x. Passes x (x ∷ []) in
    subst C (sym same) f
passes-other-by c is false e =
    passes-letter c (c ∷ []) (λ gap text rest i l j right.
    let p : Place = here (c ∷ rest) i l j in
    let g : Gap = gap_in_line gap in
    let blank : is_blank c ≡ false = rw (e, is.tab) refl in
    let break_ : is_break c ≡ false = rw (is.line, is.return) refl in
    let stands : is_document_indicator p || c == 0 ≡ false = rw (right, is.nul) refl in
    let full : List ℕ = text ++ gap ++ c ∷ [] in
    let at : Place → Option Quoted = λ q. double no_gap full rest q in
    five (is_blank c) (is_break c) (is_document_indicator p || c == 0) (c == 34) (c == 92) _ _ _ _ _ (double no_gap full rest (skipped p)) blank break_ stands is.quotes is.slash
    ∙ ap at (passed c rest i l j is.line))

-- a text as it is written by a rule for each character, with the quote after it
abbrev pub closed_by : (ℕ → List ℕ) → List ℕ → List ℕ
closed_by write s = flat_map write s ++ 34 ∷ []

-- what is read of such a text with both its quotes, before a tail
abbrev pub read_of : (ℕ → List ℕ) → List ℕ → List ℕ → ℕ → ℕ → ℕ → Quoted
read_of write s tail i l j = record { text = s; place = here tail (i + length (34 ∷ closed_by write s)) l (j + length (34 ∷ closed_by write s)) }

quoted-rest : (write : ℕ → List ℕ) → ((c : ℕ) → Passes c (write c)) → (s gap text tail : List ℕ) (i l j : ℕ) → (j == 0) ≡ false
    → double (gap_in_line gap) text (closed_by write s ++ tail) (here (closed_by write s ++ tail) i l j)
    ≡ Some (record { text = text ++ gap ++ s; place = here tail (advance (closed_by write s) i) l (advance (closed_by write s) j) })
quoted-rest write holds [] gap text tail i l j right = rw (right, append-nil) refl
quoted-rest write holds (c ∷ s) gap text tail i l j right =
    let e : List ℕ = write c in
    let u : List ℕ = closed_by write s in
    let one = holds c gap text (u ++ tail) i l j right in
    let two = quoted-rest write holds s one.gap_then one.text_then tail (advance e i) l (advance e j) (advance-right e j right) in
    let split : e ++ flat_map write s ++ 34 ∷ [] ++ tail ≡ e ++ (u ++ tail) = simp append_assoc in
    let again : e ++ flat_map write s ++ 34 ∷ [] ≡ e ++ u = append_assoc e (flat_map write s) (34 ∷ []) in
    let at : List ℕ → Option Quoted = λ x. double (gap_in_line gap) text x (here x i l j) in
    let then_ : List ℕ → Option Quoted = λ x. Some (record { text = x; place = here tail (advance u (advance e i)) l (advance u (advance e j)) }) in
    let joins : one.text_then ++ one.gap_then ++ s ≡ text ++ gap ++ (c ∷ s) =
    let after : List ℕ → List ℕ = λ x. x ++ s in ap after one.joins ∙ simp append_assoc in
    ap at split ∙ one.reads ∙ two ∙ ap then_ joins ∙ rw (again, advance-append e u i, advance-append e u j) refl

-- what such a rule writes is read as the text
pub quoted-by : (write : ℕ → List ℕ) → ((c : ℕ) → Passes c (write c)) → (s tail : List ℕ) (i l j : ℕ)
    → double_from (here (34 ∷ (closed_by write s ++ tail)) i l j) ≡ Some (read_of write s tail i l j)
quoted-by write holds s tail i l j =
    let u : List ℕ = closed_by write s in
    let e : i + 1 + length u ≡ i + suc (length u) = omega arith in
    let f : j + 1 + length u ≡ j + suc (length u) = omega arith in
    quoted-rest write holds s [] [] tail (i + 1) l (j + 1) (not-zero j) ∙ rw (advance-length u (i + 1), advance-length u (j + 1), e, f) refl
