-- The bare words of a JSON text: null, truth values and numbers.
use Rattle.snap_parse_laws_json.proofs.Prelude.{◌≡◌, ℕ, ℤ, pos, negsuc, zero, suc, ◌+◌, List, [], ◌∷◌, ◌++◌, Bool, true, false, refl, sym, ap, ◌∙◌, subst, arith, add-zero, append-nil, append_assoc, Some, None, Option, length, ◌||◌, ◌&&◌, ◌==◌, codes, slice_index, signed_decimal, decimal, list_all, spell_bool, is_alpha, is_blank, is_blank_or_end, is_break, is_digit, is_flow_sign, Place, plain, plain_from, ends_plain, has_levels, SimpleKey, is_bare, is_start, is_tail, here, Starts, starts, AreDigits, decimal-digits, bare-int, and_left, and_right, and_parts}
use Rattle.snap_scan_tokens.specs.Folding.{no_gap}
use Rattle.snap_scan_tokens.specs.Plain.{Plain}
use Rattle.snap_parse_laws.proofs.Escapes.{apart}
use Rattle.snap_parse_laws.proofs.Words.{both-false}

-- a word that JSON writes bare
pub record IsWord (w : List ℕ) : Type 0 where
  pub letter : ℕ
  pub letters : List ℕ
  pub is : w ≡ letter ∷ letters
  pub starts : Starts letter letters
  pub alpha : list_all is_alpha letters ≡ true

word-of : (c : ℕ) (w : List ℕ) → is_bare (c ∷ w) ≡ true → list_all is_alpha w ≡ true → IsWord (c ∷ w)
word-of c w bare alpha = record { letter = c; letters = w; is = refl; starts = starts c w (and_parts (is_start c w) (is_tail false w) bare).0; alpha = alpha }

alpha-digit : (c : ℕ) → is_digit c ≡ true → is_alpha c ≡ true
alpha-digit c h = rw h refl

alpha-digits : (cs : List ℕ) → list_all is_digit cs ≡ true → list_all is_alpha cs ≡ true
alpha-digits [] h = refl
alpha-digits (c ∷ cs) h =
    let two = and_parts (is_digit c) (list_all is_digit cs) h in
    rw (alpha-digit c two.0, alpha-digits cs two.1) refl

positive-word : (w : List ℕ) → AreDigits w → is_bare w ≡ true → IsWord w
positive-word w are bare =
    let there : is_bare (are.first ∷ are.rest) ≡ true = ap is_bare (sym are.is) ∙ bare in
    subst IsWord (sym are.is) (word-of are.first are.rest there (alpha-digits are.rest are.digits))

negative-word : (w : List ℕ) → AreDigits w → is_bare (45 ∷ w) ≡ true → IsWord (45 ∷ w)
negative-word w are bare =
    let all : list_all is_alpha (are.first ∷ are.rest) ≡ true = rw (alpha-digit are.first are.digit, alpha-digits are.rest are.digits) refl in
    word-of 45 w bare (ap (λ (x : List ℕ). list_all is_alpha x) are.is ∙ all)

pub int-word : (z : ℤ) → IsWord (signed_decimal z)
int-word (pos n) = positive-word (decimal n) (decimal-digits n) (bare-int (pos n))
int-word (negsuc n) = negative-word (decimal (suc n)) (decimal-digits (suc n)) (bare-int (negsuc n))

pub bool-word : (b : Bool) → IsWord (spell_bool b)
bool-word true = word-of 116 (codes "rue") refl refl
bool-word false = word-of 102 (codes "alse") refl refl

pub null-word : IsWord (codes "null")
null-word = word-of 110 (codes "ull") refl refl

-- a letter goes on in a plain scalar
letter-read : (c : ℕ) (flow : Bool) (tail : List ℕ) (i j : ℕ) (text : List ℕ) → is_alpha c ≡ true
    → plain None flow no_gap text (c ∷ tail) (here (c ∷ tail) i 1 j) ≡ plain None flow no_gap (text ++ c ∷ []) tail (here tail (i + 1) 1 (j + 1))
letter-read c flow tail i j text h =
    let p : Place = here (c ∷ tail) i 1 j in
    let line : (c == 10) ≡ false = apart is_alpha 10 c refl h in
    let blank : is_blank c ≡ false = both-false (c == 32) (c == 9) (apart is_alpha 32 c refl h) (apart is_alpha 9 c refl h) in
    let break_ : is_break c ≡ false = both-false (c == 10) (c == 13) line (apart is_alpha 13 c refl h) in
    let sign : is_flow_sign c ≡ false =
    rw (apart is_alpha 44 c refl h, apart is_alpha 91 c refl h, apart is_alpha 93 c refl h, apart is_alpha 123 c refl h, apart is_alpha 125 c refl h) refl in
    let ended : ends_plain None flow no_gap p ≡ false =
    both-false _ _ (both-false _ _ (both-false _ _ (both-false (c == 0) _ (apart is_alpha 0 c refl h) (and_left (c == 58) _ (apart is_alpha 58 c refl h)))
    (and_right flow (is_flow_sign c) sign)) refl) refl in
    rw (blank, break_, ended, line, append-nil text) refl

letters-read : (w : List ℕ) (flow : Bool) (tail : List ℕ) (i j : ℕ) (text : List ℕ) → list_all is_alpha w ≡ true
    → plain None flow no_gap text (w ++ tail) (here (w ++ tail) i 1 j) ≡ plain None flow no_gap (text ++ w) tail (here tail (i + length w) 1 (j + length w))
letters-read [] flow tail i j text h = rw (append-nil text, add-zero i, add-zero j) refl
letters-read (c ∷ w) flow tail i j text h =
    let two = and_parts (is_alpha c) (list_all is_alpha w) h in
    let m : i + 1 + length w ≡ i + suc (length w) = omega arith in
    let n : j + 1 + length w ≡ j + suc (length w) = omega arith in
    let e : text ++ c ∷ [] ++ w ≡ text ++ (c ∷ w) = append_assoc text (c ∷ []) w in
    letter-read c flow (w ++ tail) i j text two.0 ∙ letters-read w flow tail (i + 1) (j + 1) (text ++ c ∷ []) two.1 ∙ rw (e, m, n) refl

-- what may stand after a value: in a list or a dict a sign of flow, else nothing
abbrev pub EndsValue : ℕ → List ℕ → Type 0
EndsValue zero rest = rest ≡ []
EndsValue (suc n) rest = is_flow_sign (slice_index rest 0) ≡ true

pub some-levels : (n : ℕ) (outer : List (Option SimpleKey)) → length outer ≡ suc n → has_levels outer ≡ true
some-levels n [] h = absurd (cc)
some-levels n (k ∷ ks) h = refl

third-true : (a b c : Bool) → c ≡ true → a || b || c || false || false ≡ true
third-true true b c h = refl
third-true false true c h = refl
third-true false false true h = refl
third-true false false false h = absurd (cc)

abbrev pub word_read : List ℕ → List ℕ → ℕ → ℕ → Plain
word_read text rest i j = record { text = text; is_broken = false; place = here rest i 1 j }

-- a plain scalar ends after a value
word-ends : (n : ℕ) (outer : List (Option SimpleKey)) (rest : List ℕ) (i j : ℕ) (text : List ℕ) → length outer ≡ n → EndsValue n rest
    → plain None (has_levels outer) no_gap text rest (here rest i 1 j) ≡ Some (word_read text rest i j)
word-ends zero outer rest i j text h end = rw end refl
word-ends (suc n) outer [] i j text h end = absurd (cc)
word-ends (suc n) outer (c ∷ cs) i j text h end =
    let p : Place = here (c ∷ cs) i 1 j in
    let blank : is_blank c ≡ false = both-false (c == 32) (c == 9) (apart is_flow_sign 32 c refl end) (apart is_flow_sign 9 c refl end) in
    let break_ : is_break c ≡ false = both-false (c == 10) (c == 13) (apart is_flow_sign 10 c refl end) (apart is_flow_sign 13 c refl end) in
    let signs : has_levels outer && is_flow_sign c ≡ true = rw (some-levels n outer h, end) refl in
    let colon : Bool = c == 58 && (is_blank_or_end (slice_index cs 0) || (has_levels outer && is_flow_sign (slice_index cs 0))) in
    let ended : ends_plain None (has_levels outer) no_gap p ≡ true = third-true (c == 0) colon (has_levels outer && is_flow_sign c) signs in
    rw (blank, break_, ended) refl

letter-begins : (c : ℕ) (flow : Bool) (tail : List ℕ) (i j : ℕ) → (c == 32 || c == 9) ≡ false → (c == 10) ≡ false
    → plain_from None flow (here (c ∷ tail) i 1 j) ≡ plain None flow no_gap (c ∷ []) tail (here tail (i + 1) 1 (j + 1))
letter-begins c flow tail i j blank line = rw (blank, line) refl

-- a word is read whole
pub word-whole : (w : List ℕ) → IsWord w → (n : ℕ) (outer : List (Option SimpleKey)) (rest : List ℕ) (i j : ℕ) → length outer ≡ n → EndsValue n rest
    → plain_from None (has_levels outer) (here (w ++ rest) i 1 j) ≡ Some (word_read w rest (i + length w) (j + length w))
word-whole w is n outer rest i j h end =
    let flow : Bool = has_levels outer in
    let c : ℕ = is.letter in
    let cs : List ℕ = is.letters in
    let P : List ℕ → Type 0 = λ x. plain_from None flow (here (x ++ rest) i 1 j) ≡ Some (word_read x rest (i + length x) (j + length x)) in
    let e : i + 1 + length cs ≡ i + suc (length cs) = omega arith in
    let f : j + 1 + length cs ≡ j + suc (length cs) = omega arith in
    let there : P (c ∷ cs) =
    letter-begins c flow (cs ++ rest) i j is.starts.blank is.starts.line_feed ∙ letters-read cs flow rest (i + 1) (j + 1) (c ∷ []) is.alpha
    ∙ word-ends n outer rest (i + 1 + length cs) (j + 1 + length cs) (c ∷ cs) h end ∙ rw (e, f) refl in
    subst P (sym is.is) there
