-- A text in double quotes, however its characters are written, is read as these.
use Rattle.snap_parse_laws.proofs.Prelude.{◌≡◌, ℕ, zero, suc, ◌+◌, ◌⊎◌, inl, inr, List, [], ◌∷◌, ◌++◌, Bool, true, false, refl, sym, ap, ◌∙◌, arith, subst, Some, None, Option, length, append-nil, append_assoc, nat_tests, ◌||◌, ◌&&◌, ◌==◌, if◌then◌else◌, is_some, list_all, is_break, no_gap, Place, Quoted, double, double_from, digits, is_code, hexadecimal, here, or_parts, and_parts, not_true}
use Rattle.snap_scan_tokens.specs.Quoted.{escape, escaped, further_digits, value_of, with_digit}
use Rattle.snap_parse_laws.specs.Layouts as w
use Rattle.snap_parse_laws.specs.LayoutTexts as laid
use Rattle.snap_parse_laws.specs.LayoutRules as rule
use Rattle.snap_parse_laws.proofs.Escapes.{apart, passed}
use Rattle.snap_parse_laws.proofs.Quotes.{gap_in_line, advance, advance-length, advance-right, advance-append, Passes, passes-letter, passes-other-by}

not-zero : (j : ℕ) → (j + 1 == 0) ≡ false
not-zero j = grind (arith, nat_tests)

taken : (a b : Bool) (x y z : Option Quoted) → a ≡ false → b ≡ true → (if a then x else (if b then y else z)) ≡ y
taken a b x y z p q = rw (p, q) refl

-- a tab stands for itself
passes-tab : Passes 9 (9 ∷ [])
passes-tab = λ gap text rest i l j right. record { gap_then = gap ++ 9 ∷ []; text_then = text; reads = refl; joins = sym (append_assoc text gap (9 ∷ [])) }

same-tab : (c : ℕ) → (c == 9) ≡ true → Passes c (c ∷ [])
same-tab c same = let e : c ≡ 9 = grind (arith, nat_tests) in let C : ℕ → Type 0 = λ x. Passes x (x ∷ []) in subst C (sym e) passes-tab

as-is-by : (c : ℕ) → rule.is_letter (w.as_is c) ≡ true → (b : Bool) → (c == 9) ≡ b → Passes c (c ∷ [])
as-is-by c is true e = same-tab c e
as-is-by c is false e =
    let d = or_parts (c == 34 || c == 92 || is_break c) (c == 0) (not_true _ is) in
    let b = or_parts (c == 34 || c == 92) (is_break c) d.0 in
    let a = or_parts (c == 34) (c == 92) b.0 in
    let ends = or_parts (c == 10) (c == 13) b.1 in
    passes-other-by c (record { quotes = a.0; slash = a.1; tab = e; line = ends.0; return = ends.1; nul = d.1 }) (c == 32) refl

-- after a backslash
behind-slash : (e : ℕ) (gap text rest : List ℕ) (i l j : ℕ) → (j == 0) ≡ false
    → double (gap_in_line gap) text (92 ∷ rest) (here (92 ∷ rest) i l j) ≡ escape (text ++ gap) rest (here rest (i + 1) l (j + 1))
behind-slash e gap text rest i l j right = rw right refl

short-read : (e : ℕ) (text rest : List ℕ) (i l j : ℕ) → is_some (escaped e) ≡ true
    → escape text (e ∷ rest) (here (e ∷ rest) i l j) ≡ double no_gap (text ++ value_of (escaped e) ∷ []) rest (here rest (i + 1) l (j + 1))
short-read e text rest i l j is =
    let P : ℕ → Bool = λ c. is_some (escaped c) in
    let feed : (e == 10) ≡ false = apart P 10 e refl is in
    let return : (e == 13) ≡ false = apart P 13 e refl is in
    let break_ : is_break e ≡ false = rw (feed, return) refl in
    let to : Place → Option Quoted = λ q. double no_gap (text ++ value_of (escaped e) ∷ []) rest q in
    taken (is_break e) (is_some (escaped e)) _ _ _ break_ is ∙ ap to (passed e rest i l j feed)

passes-short : (e : ℕ) → is_some (escaped e) ≡ true → Passes (value_of (escaped e)) (92 ∷ e ∷ [])
passes-short e is = passes-letter (value_of (escaped e)) (92 ∷ e ∷ []) (λ gap text rest i l j right.
    behind-slash e gap text (e ∷ rest) i l j right ∙ short-read e (text ++ gap) rest (i + 1) l (j + 1) is)

-- hexadecimal digits

record IsHexadecimal (d : ℕ) : Type 0 where
  known : is_some (hexadecimal d) ≡ true
  feed : (d == 10) ≡ false

hexadecimal-digit : (d : ℕ) → rule.is_hexadecimal d ≡ true → IsHexadecimal d
hexadecimal-digit d is = let P : ℕ → Bool = λ c. is_some (hexadecimal c) in record { known = is; feed = apart P 10 d refl is }

if-both : (a b : Bool) (x y : Option Quoted) → a ≡ true → b ≡ true → (if a && b then x else y) ≡ x
if-both a b x y p q = rw (p, q) refl

if-one : (a : Bool) (x y : Option Quoted) → a ≡ true → (if a then x else y) ≡ x
if-one a x y p = rw p refl

digits-read : (n : ℕ) (ds : List ℕ) → length ds ≡ n + 1 → list_all rule.is_hexadecimal ds ≡ true → (value : ℕ) → is_code (laid.number_from value ds) ≡ true
    → (text rest : List ℕ) (i l j : ℕ)
    → digits n value text (ds ++ rest) (here (ds ++ rest) i l j) ≡ double no_gap (text ++ laid.number_from value ds ∷ []) rest (here rest (advance ds i) l (advance ds j))
digits-read n [] size are value known text rest i l j = absurd (let e : 0 ≡ n + 1 = size in omega (arith, e))
digits-read zero (d ∷ []) size are value known text rest i l j =
    let one = hexadecimal-digit d (and_parts (rule.is_hexadecimal d) true are).0 in
    let to : Place → Option Quoted = λ q. double no_gap (text ++ with_digit value d ∷ []) rest q in
    if-both (is_some (hexadecimal d)) (is_code (with_digit value d)) _ _ one.known known ∙ ap to (passed d rest i l j one.feed)
digits-read zero (d ∷ e ∷ ds) size are value known text rest i l j = absurd (let f : suc (suc (length ds)) ≡ 0 + 1 = size in omega (arith, f))
digits-read (suc n) (d ∷ ds) size are value known text rest i l j =
    let two = and_parts (rule.is_hexadecimal d) (list_all rule.is_hexadecimal ds) are in
    let one = hexadecimal-digit d two.0 in
    let fewer : length ds ≡ n + 1 = let f : suc (length ds) ≡ suc n + 1 = size in omega (arith, f) in
    let to : Place → Option Quoted = λ q. digits n (with_digit value d) text (ds ++ rest) q in
    if-one (is_some (hexadecimal d)) _ _ one.known ∙ ap to (passed d (ds ++ rest) i l j one.feed) ∙ digits-read n ds fewer two.1 (with_digit value d) known text rest (i + 1) l (j + 1)

-- the letter before digits
abbrev further : Bool → Bool → Bool → Option ℕ
further a b c = if a then Some 1 else (if b then Some 3 else (if c then Some 7 else None))

which-code : (e : ℕ) (a b c : Bool) → (e == 120) ≡ a → (e == 117) ≡ b → (e == 85) ≡ c → is_some (further a b c) ≡ true
    → (e ≡ 120) ⊎ ((e ≡ 117) ⊎ (e ≡ 85))
which-code e true b c p q r is = inl (grind (arith, nat_tests))
which-code e false true c p q r is = inr (inl (grind (arith, nat_tests)))
which-code e false false true p q r is = inr (inr (grind (arith, nat_tests)))
which-code e false false false p q r is = absurd (cc)

reads-code-by : (e : ℕ) → (e ≡ 120) ⊎ ((e ≡ 117) ⊎ (e ≡ 85)) → (text rest : List ℕ) (i l j : ℕ)
    → escape text (e ∷ rest) (here (e ∷ rest) i l j) ≡ digits (value_of (further_digits e)) 0 text rest (here rest (i + 1) l (j + 1))
reads-code-by e (inl same) text rest i l j =
    let C : ℕ → Type 0 = λ x. escape text (x ∷ rest) (here (x ∷ rest) i l j) ≡ digits (value_of (further_digits x)) 0 text rest (here rest (i + 1) l (j + 1)) in subst C (sym same) refl
reads-code-by e (inr (inl same)) text rest i l j =
    let C : ℕ → Type 0 = λ x. escape text (x ∷ rest) (here (x ∷ rest) i l j) ≡ digits (value_of (further_digits x)) 0 text rest (here rest (i + 1) l (j + 1)) in subst C (sym same) refl
reads-code-by e (inr (inr same)) text rest i l j =
    let C : ℕ → Type 0 = λ x. escape text (x ∷ rest) (here (x ∷ rest) i l j) ≡ digits (value_of (further_digits x)) 0 text rest (here rest (i + 1) l (j + 1)) in subst C (sym same) refl

reads-code : (e : ℕ) → is_some (further_digits e) ≡ true → (text rest : List ℕ) (i l j : ℕ)
    → escape text (e ∷ rest) (here (e ∷ rest) i l j) ≡ digits (value_of (further_digits e)) 0 text rest (here rest (i + 1) l (j + 1))
reads-code e is text rest i l j = reads-code-by e (which-code e (e == 120) (e == 117) (e == 85) refl refl refl is) text rest i l j

same-length : (n m : ℕ) → (n == m) ≡ true → n ≡ m
same-length n m h = grind (arith, nat_tests)

passes-code : (e : ℕ) (ds : List ℕ) → rule.is_letter (w.code e ds) ≡ true → Passes (laid.number_from 0 ds) (92 ∷ e ∷ ds)
passes-code e ds is =
    let d = and_parts (is_some (further_digits e) && length ds == value_of (further_digits e) + 1 && list_all rule.is_hexadecimal ds) (is_code (laid.number_from 0 ds)) is in
    let b = and_parts (is_some (further_digits e) && length ds == value_of (further_digits e) + 1) (list_all rule.is_hexadecimal ds) d.0 in
    let a = and_parts (is_some (further_digits e)) (length ds == value_of (further_digits e) + 1) b.0 in
    passes-letter (laid.number_from 0 ds) (92 ∷ e ∷ ds) (λ gap text rest i l j right.
    behind-slash e gap text (e ∷ (ds ++ rest)) i l j right ∙ reads-code e a.0 (text ++ gap) (ds ++ rest) (i + 1) l (j + 1)
    ∙ digits-read (value_of (further_digits e)) ds (same-length (length ds) (value_of (further_digits e) + 1) a.1) b.1 0 d.1 (text ++ gap) rest (i + 1 + 1) l (j + 1 + 1))

pub letter-passes : (a : w.Letter) → rule.is_letter a ≡ true → Passes (laid.character a) (laid.letter_text a)
letter-passes (w.as_is c) is = as-is-by c is (c == 9) refl
letter-passes (w.short e) is = passes-short e is
letter-passes (w.code e ds) is = passes-code e ds is

letters-rest : (s : w.Letters) → rule.are_letters s ≡ true → (gap text tail : List ℕ) (i l j : ℕ) → (j == 0) ≡ false
    → double (gap_in_line gap) text (laid.letters_text s ++ tail) (here (laid.letters_text s ++ tail) i l j)
    ≡ Some (record { text = text ++ gap ++ laid.characters s; place = here tail (advance (laid.letters_text s) i) l (advance (laid.letters_text s) j) })
letters-rest w.no_letter are gap text tail i l j right = rw (right, append-nil) refl
letters-rest (w.letter a s) are gap text tail i l j right =
    let e : List ℕ = laid.letter_text a in
    let c : ℕ = laid.character a in
    let u : List ℕ = laid.letters_text s in
    let h = and_parts (rule.is_letter a) (rule.are_letters s) are in
    let one = letter-passes a h.0 gap text (u ++ tail) i l j right in
    let two = letters-rest s h.1 one.gap_then one.text_then tail (advance e i) l (advance e j) (advance-right e j right) in
    let at : List ℕ → Option Quoted = λ x. double (gap_in_line gap) text x (here x i l j) in
    let then_ : List ℕ → Option Quoted = λ x. Some (record { text = x; place = here tail (advance u (advance e i)) l (advance u (advance e j)) }) in
    let after : List ℕ → List ℕ = λ x. x ++ laid.characters s in
    let joins : one.text_then ++ one.gap_then ++ laid.characters s ≡ text ++ gap ++ (c ∷ laid.characters s) = ap after one.joins ∙ simp append_assoc in
    ap at (append_assoc e u tail) ∙ one.reads ∙ two ∙ ap then_ joins ∙ rw (advance-append e u i, advance-append e u j) refl

-- what is read of such a text with both its quotes
abbrev pub read_letters : w.Letters → List ℕ → ℕ → ℕ → ℕ → Quoted
read_letters s tail i l j =
    record { text = laid.characters s; place = here tail (i + length (laid.spelled (w.quote s))) l (j + length (laid.spelled (w.quote s))) }

pub letters-whole : (s : w.Letters) → rule.are_letters s ≡ true → (tail : List ℕ) (i l j : ℕ)
    → double_from (here (laid.spelled (w.quote s) ++ tail) i l j) ≡ Some (read_letters s tail i l j)
letters-whole s are tail i l j =
    let u : List ℕ = laid.letters_text s in
    let e : i + 1 + length u ≡ i + suc (length u) = omega arith in
    let f : j + 1 + length u ≡ j + suc (length u) = omega arith in
    letters-rest s are [] [] tail (i + 1) l (j + 1) (not-zero j) ∙ rw (advance-length u (i + 1), advance-length u (j + 1), e, f) refl
