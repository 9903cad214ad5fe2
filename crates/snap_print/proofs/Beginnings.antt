-- A text that begins neither as a reserved word nor as a number is neither.
use Rattle.snap_print.proofs.Prelude.{◌≡◌, ℕ, List, [], ◌∷◌, Bool, true, false, ◌==◌, ◌||◌, ◌&&◌, refl, sym, ap, ◌∙◌, arith, nat_tests, if◌then◌else◌, drop, codes, Some, None, is_ascii_digit, list_any, list_all, bytes_eq, or_from, and_parts}
use Rattle.std.proofs.lemmas.Slice.Eq.{bytes_eq-Decides}
use Rattle.snap_content.specs.Front.{begins}
use Rattle.snap_content.specs.Numbers as n
use Rattle.snap_content.specs.Quotes as q
use Rattle.snap_print.specs.Words.{is_letter, spells, fronts, fronts_word, begins_word}

neither : (a b : Bool) → (a || b) ≡ false → (a ≡ false) × (b ≡ false)
neither true b h = absurd (cc)
neither false b h = (refl, h)

apart : (b : Bool) (w v : List ℕ) → bytes_eq w v ≡ b → begins_word w ≡ false → begins_word v ≡ true → b ≡ false
apart false w v is h k = refl
apart true w v is h k =
    let same = ap begins_word ((bytes_eq-Decides w v).0 is) in
    absurd (cc (h, k, same))

no_word : (w : List ℕ) (ws : List (List ℕ)) → begins_word w ≡ false → list_all begins_word ws ≡ true → list_any (bytes_eq w) ws ≡ false
no_word w [] h all = refl
no_word w (v ∷ vs) h all =
    let p = and_parts (begins_word v) (list_all begins_word vs) all in
    or_from (bytes_eq w v) (list_any (bytes_eq w) vs) (apart (bytes_eq w v) w v refl h p.0) (no_word w vs h p.1)

-- what the first two characters are not
record IsOther (c d : ℕ) : Type 0 where
  digit : is_ascii_digit c ≡ false
  plus : (c == 43) ≡ false
  minus : (c == 45) ≡ false
  point : (c == 46) ≡ false
  nan : spells c d (110, 97) ≡ false
  inf : spells c d (105, 110) ≡ false

other : (c d : ℕ) → fronts_word c d ≡ false → IsOther c d
other c d h =
    let all = neither (is_ascii_digit c || list_any (λ first. c == first) (codes "~+-.")) (list_any (spells c d) fronts) h in
    let first = neither (is_ascii_digit c) _ all.0 in
    let tilde = neither (c == 126) _ first.1 in
    let plus = neither (c == 43) _ tilde.1 in
    let minus = neither (c == 45) _ plus.1 in
    let point = neither (c == 46) _ minus.1 in
    let nan = neither (spells c d (110, 97)) _ all.1 in
    let inf = neither (spells c d (105, 110)) _ nan.1 in
    record {
      digit = first.0;
      plus = plus.0;
      minus = minus.0;
      point = point.0;
      nan = nan.0;
      inf = inf.0;
    }

-- two letters that they are not
no_letters : (a b c d : ℕ) (cs : List ℕ) → spells c d (a, b) ≡ false → n.then_letter b (n.past_letter a (c ∷ d ∷ cs)) ≡ None
no_letters a b c d cs h = by (is_letter a c) h
  where
    by : (x : Bool) → (x && is_letter b d) ≡ false → n.then_letter b (if x then Some (d ∷ cs) else None) ≡ None
    by true h = ap (λ y. if y then Some cs else None) h
    by false h = refl

no_sign : (c d : ℕ) (cs : List ℕ) → IsOther c d → n.past_sign (c ∷ d ∷ cs) ≡ c ∷ d ∷ cs
no_sign c d cs o = ap (λ b. if b then d ∷ cs else c ∷ d ∷ cs) (or_from (c == 43) (c == 45) o.plus o.minus)

-- digits with a point: by whether it begins with a digit, and whether a point follows the digits
abbrev decimal_by : Bool → Bool → List ℕ → List ℕ → Bool
decimal_by digit point rest cs =
    if point then (digit || n.has_digit (drop 1 rest)) && n.is_exponent (n.past_digits (drop 1 rest)) else digit && n.is_exponent rest

no_decimal : (c d : ℕ) (cs : List ℕ) → IsOther c d → n.is_decimal_text (c ∷ cs) ≡ false
no_decimal c d cs o =
    let rest : n.past_digits (c ∷ cs) ≡ c ∷ cs = ap (λ b. if b then n.past_digits cs else c ∷ cs) o.digit in
    ap (λ r. decimal_by (is_ascii_digit c) (begins 46 r) r cs) rest
    ∙ ap (λ b. decimal_by (is_ascii_digit c) b (c ∷ cs) cs) o.point
    ∙ ap (λ b. decimal_by b false (c ∷ cs) cs) o.digit

no_float : (c d : ℕ) (cs : List ℕ) → IsOther c d → n.is_float_text (c ∷ d ∷ cs) ≡ false
no_float c d cs o =
    let text = c ∷ d ∷ cs in
    ap n.is_unsigned_float (no_sign c d cs o)
    ∙ or_from (n.is_decimal_text text || n.ends_infinity (n.past_inf text)) (n.is_end (n.past_nan text))
    (or_from (n.is_decimal_text text) (n.ends_infinity (n.past_inf text)) (no_decimal c d (d ∷ cs) o)
    (ap (λ x. n.ends_infinity (n.then_letter 102 x)) (no_letters 105 110 c d cs o.inf)))
    (ap (λ x. n.is_end (n.then_letter 110 x)) (no_letters 110 97 c d cs o.nan))

no_zero : (c : ℕ) → is_ascii_digit c ≡ false → (c == 48) ≡ false
no_zero c h = grind (arith, nat_tests)

no_octal : (c : ℕ) (cs : List ℕ) → (c == 48) ≡ false → n.is_octal_text (c ∷ cs) ≡ false
no_octal c [] h = refl
no_octal c (d ∷ cs) h = ap (λ b. (b && d == 111) && n.is_short_integer 8 cs) h

no_number : (c d : ℕ) (cs : List ℕ) → IsOther c d → n.is_number_text (c ∷ d ∷ cs) ≡ false
no_number c d cs o =
    let text = c ∷ d ∷ cs in
    let tail = d ∷ cs in
    or_from (n.is_float_text text || n.is_octal_text text || n.is_plus_text text) (n.is_plus_inf text)
    (or_from (n.is_float_text text || n.is_octal_text text) (n.is_plus_text text)
    (or_from (n.is_float_text text) (n.is_octal_text text) (no_float c d cs o) (no_octal c tail (no_zero c o.digit)))
    (ap (λ b. b && n.is_short_integer 10 tail) o.plus))
    (ap (λ b. b && (bytes_eq tail (codes ".inf") || bytes_eq tail (codes ".Inf") || bytes_eq tail (codes ".INF"))) o.plus)

no_hexadecimal : (c : ℕ) (cs : List ℕ) → (c == 48) ≡ false → q.starts_as_hexadecimal (c ∷ cs) ≡ false
no_hexadecimal c [] h = refl
no_hexadecimal c (d ∷ cs) h = ap (λ b. b && d == 120) h

six : (leading white zero special reserved number : Bool) → leading ≡ false → zero ≡ false → reserved ≡ false → number ≡ false
    → (special || white) ≡ (leading || white || zero || special || reserved || number)
six false true false true false false a b c d = refl
six false true false false false false a b c d = refl
six false false false true false false a b c d = refl
six false false false false false false a b c d = refl
six true white zero special reserved number a b c d = absurd (cc)
six false white true special reserved number a b c d = absurd (cc)
six false white false special true number a b c d = absurd (cc)
six false white false special false true a b c d = absurd (cc)

-- of a text that begins as no word, two looks tell
pub two_looks : (text cs : List ℕ) (c : ℕ) → text ≡ c ∷ cs → begins_word (c ∷ cs) ≡ false → q.is_leading c ≡ false
    → (list_any q.is_special text || q.ends_badly text) ≡ q.needs_quotes text
two_looks text [] c is word leading = absurd (cc)
two_looks text (d ∷ cs) c is word leading =
    let whole = c ∷ d ∷ cs in
    let o = other c d word in
    let same = six (q.is_leading c) (q.ends_badly whole) (q.starts_as_hexadecimal whole) (list_any q.is_special whole) (q.is_reserved whole)
    (n.is_number_text whole) leading (no_hexadecimal c (d ∷ cs) (no_zero c o.digit)) (no_word whole q.reserved word refl) (no_number c d cs o) in
    ap (λ t. list_any q.is_special t || q.ends_badly t) is ∙ same ∙ sym (ap q.needs_quotes is)
