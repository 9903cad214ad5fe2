-- Framed texts, and lines cut at a byte.
use Rattle.snap_text_literals.proofs.Prelude.{◌≡◌, ◌==◌, ℕ, ◌+◌, ◌-◌, ◌<◌, ◌≤◌, List, [], ◌∷◌, ◌++◌, Bool, true, false, cond, Option, None, Some, length, drop, take, refl, sym, ap, ◌∙◌, arith, nat_lt, length-append, subst, Bor, MatchOption, IfSome, inl, inr, nat_tests, eqb-true, chars-append, encodes-chars, encodes-append, scalars-chars, length-encode, IsCharBoundary-at_seam, IsUtf8-take, is_whitespace, len_utf8, list_any, chars, IsUtf8, IsCharBoundary, skip_leading_whitespace, begins, Lacks, IsLastPart, is_line_end, sign, space_front, last_line, is_framed, onto_front, at_byte, encode, encodes, scalar, scalars, ne_eqb, or-true, cond_both, both_second, list_any-append, some_same}
use Rattle.std.proofs.lemmas.List.{take-append-drop}
use Rattle.std.specs.Prelude.{◌↔◌, IsSome}
use Rattle.snap_text_literals.specs.Signed.{IsSigned}

-- white space in front
pub space-then : (text : List ℕ) → text ≡ space_front text ++ skip_leading_whitespace text
space-then [] = refl
space-then (c ∷ cs) = by (is_whitespace c) (space-then cs)
  where
    by : (b : Bool) → cs ≡ space_front cs ++ skip_leading_whitespace cs → c ∷ cs ≡ cond b (c ∷ space_front cs) [] ++ cond b (skip_leading_whitespace cs) (c ∷ cs)
    by true h = ap (λ t. c ∷ t) h
    by false h = refl

pub signed : (text body space inside : List ℕ) → body ≡ skip_leading_whitespace text → body ≡ 8942 ∷ inside
    → ((cs : List ℕ) → text ≡ cs ++ body → space ≡ cs) → IsSigned text space inside
signed text body space inside is sign_first before = record {
  framed = ap (begins sign) (sym is ∙ sign_first);
  space_is = before (space_front text) (space-then text ∙ ap (λ t. space_front text ++ t) (sym is));
  inside_is = ap (drop 1) (sym sign_first ∙ is);
}

pub unsigned : (text body : List ℕ) → body ≡ skip_leading_whitespace text → ((cs : List ℕ) → body ≡ 8942 ∷ cs → ⊥) → is_framed text ≡ false
unsigned text body is never = ap (begins sign) (sym is) ∙ by body never
  where
    by : (body : List ℕ) → ((cs : List ℕ) → body ≡ 8942 ∷ cs → ⊥) → begins sign body ≡ false
    by [] n = refl
    by (c ∷ cs) n = ne_eqb c 8942 (λ e. n cs (ap (λ d. d ∷ cs) e))

-- what stands after the last line end
lacking : (part : List ℕ) → Lacks 10 part → part ≡ last_line part
lacking [] h = refl
lacking (c ∷ cs) h = ap (λ b. cond b (last_line cs) (c ∷ cs)) (sym h)

holds-end : (before part : List ℕ) → list_any is_line_end (before ++ 10 ∷ part) ≡ true
holds-end before part = list_any-append is_line_end before (10 ∷ part) ∙ or-true (list_any is_line_end before)

behind-end : (before part : List ℕ) → Lacks 10 part → part ≡ last_line (before ++ 10 ∷ part)
behind-end [] part h = lacking part h
behind-end (c ∷ before) part h = behind-end before part h ∙ ap (λ b. cond b (last_line (before ++ 10 ∷ part)) (c ∷ (before ++ 10 ∷ part))) (sym (holds-end (c ∷ before) part))

pub last_line-is : (text part : List ℕ) → IsLastPart 10 text part → part ≡ last_line text
last_line-is text part (none, inl whole) = lacking part none ∙ ap last_line (sym whole)
last_line-is text part (none, inr (before, is)) = behind-end before part none ∙ ap last_line (sym is)

pub last_width-is : (text part : List ℕ) → IsUtf8 part → IsLastPart 10 (chars text) (chars part) → length part ≡ length (encodes (last_line (chars text)))
last_width-is text part u h = ap length (sym (encodes-chars part u) ∙ ap encodes (last_line-is (chars text) (chars part) h))

-- a line cut at a byte
some_width : (c : ℕ) → 0 < len_utf8 c
some_width c =
    let P : ℕ → Type 0 = λ n. 0 < n in
    cond_both (nat_lt c 128) _ _ P (λ _. omega arith) (λ _. cond_both (nat_lt c 2048) _ _ P (λ _. omega arith)
    (λ _. cond_both (nat_lt c 65536) _ _ P (λ _. omega arith) (λ _. omega arith)))

cut_step : (c w k n : ℕ) (cs : List ℕ) (r : Option (List ℕ × List ℕ)) → n ≡ w + k → 0 < w → at_byte k cs ≡ r
    → cond (n == 0) (Some ([], c ∷ cs)) (cond (nat_lt n w) None (onto_front c (at_byte (n - w) cs))) ≡ onto_front c r
cut_step c w k n cs r is some more =
    let other : (n == 0) ≡ false = grind (arith, nat_tests) in
    let enough : nat_lt n w ≡ false = grind (arith, nat_tests) in
    let left : n - w ≡ k = omega (arith, is) in
    rw (other, enough, left, more)

at-start : (rest : List ℕ) → at_byte 0 rest ≡ Some ([], rest)
at-start [] = refl
at-start (c ∷ cs) = refl

cut-own : (front rest : List ℕ) → at_byte (length (encodes front)) (front ++ rest) ≡ Some (front, rest)
cut-own [] rest = at-start rest
cut-own (c ∷ front) rest =
    let size : length (encode c ++ encodes front) ≡ len_utf8 c + length (encodes front) = omega (arith, length-append (encode c) (encodes front), length-encode c) in
    cut_step c (len_utf8 c) (length (encodes front)) (length (encode c ++ encodes front)) (front ++ rest) (Some (front, rest)) size (some_width c) (cut-own front rest)

-- what was cut is the line, and its front has so many bytes
record IsCut (n : ℕ) (line front rest : List ℕ) : Type 0 where
  is : line ≡ front ++ rest
  width : length (encodes front) ≡ n

onto_is : (c w n : ℕ) (cs front rest : List ℕ) (r : Option (List ℕ × List ℕ)) → onto_front c r ≡ Some (front, rest) → len_utf8 c ≡ w → w ≤ n
    → ((f s : List ℕ) → r ≡ Some (f, s) → IsCut (n - w) cs f s) → IsCut n (c ∷ cs) front rest
onto_is c w n cs front rest None e wide le more = absurd (cc)
onto_is c w n cs front rest (Some (f, s)) e wide le more =
    let cut = more f s refl in
    let same : ◌≡◌ {A = List ℕ × List ℕ} (c ∷ f, s) (front, rest) = some_same (c ∷ f, s) (front, rest) e in
    let front_is : c ∷ f ≡ front = ap (λ (p : List ℕ × List ℕ). p.0) same in
    let rest_is : s ≡ rest = ap (λ (p : List ℕ × List ℕ). p.1) same in
    record {
      is = ap (λ t. c ∷ t) cut.is ∙ ap (λ t. t ++ s) front_is ∙ ap (λ t. front ++ t) rest_is;
      width = ap (λ t. length (encodes t)) (sym front_is) ∙ omega (arith, length-append (encode c) (encodes f), length-encode c, cut.width, wide, le);
    }

start_is : (n : ℕ) (line front rest : List ℕ) → (n == 0) ≡ true → ◌≡◌ {A = Option (List ℕ × List ℕ)} (Some ([], line)) (Some (front, rest)) → IsCut n line front rest
start_is n line front rest is_zero e =
    let same : ◌≡◌ {A = List ℕ × List ℕ} ([], line) (front, rest) = some_same ([], line) (front, rest) e in
    let front_is : [] ≡ front = ap (λ (p : List ℕ × List ℕ). p.0) same in
    let rest_is : line ≡ rest = ap (λ (p : List ℕ × List ℕ). p.1) same in
    let none : n ≡ 0 = eqb-true n 0 is_zero in
    record { is = rest_is ∙ ap (λ t. t ++ rest) front_is; width = ap (λ t. length (encodes t)) (sym front_is) ∙ sym none }

cut-is : (n : ℕ) (line front rest : List ℕ) → at_byte n line ≡ Some (front, rest) → IsCut n line front rest
cut-is n [] front rest e = by (n == 0) refl e
  where
    by : (b : Bool) → (n == 0) ≡ b → cond {A = Option (List ℕ × List ℕ)} b (Some ([], [])) None ≡ Some (front, rest) → IsCut n [] front rest
    by true is_zero h = start_is n [] front rest is_zero h
    by false is_zero h = absurd (cc)
cut-is n (c ∷ cs) front rest e = by (n == 0) (nat_lt n (len_utf8 c)) refl refl e (λ f s k. cut-is (n - len_utf8 c) cs f s k)
  where
    by : (a b : Bool) → (n == 0) ≡ a → nat_lt n (len_utf8 c) ≡ b → cond {A = Option (List ℕ × List ℕ)} a (Some ([], c ∷ cs)) (cond b None (onto_front c (at_byte (n - len_utf8 c) cs))) ≡ Some (front, rest)
        → ((f s : List ℕ) → at_byte (n - len_utf8 c) cs ≡ Some (f, s) → IsCut (n - len_utf8 c) cs f s) → IsCut n (c ∷ cs) front rest
    by true b is_zero less h more = start_is n (c ∷ cs) front rest is_zero h
    by false true is_zero less h more = absurd (cc)
    by false false is_zero less h more =
        let le : len_utf8 c ≤ n = grind (arith, nat_tests) in
        onto_is c (len_utf8 c) n cs front rest (at_byte (n - len_utf8 c) cs) h refl le more

scalars-back : (front rest : List ℕ) → scalars (front ++ rest) ≡ true → scalars rest ≡ true
scalars-back [] rest h = h
scalars-back (c ∷ front) rest h = scalars-back front rest (both_second (scalar c) (scalars (front ++ rest)) h)

no_boundary : (n : ℕ) (s : List ℕ) → IsUtf8 s → (IsCharBoundary s n → ⊥) → at_byte n (chars s) ≡ None
no_boundary n s u never = by (at_byte n (chars s)) refl
  where
    by : (r : Option (List ℕ × List ℕ)) → at_byte n (chars s) ≡ r → r ≡ None
    by None e = refl
    by (Some (front, rest)) e =
        let cut = cut-is n (chars s) front rest e in
        let bytes : s ≡ encodes front ++ encodes rest = sym (encodes-chars s u) ∙ ap encodes cut.is ∙ encodes-append front rest in
        let back : IsUtf8 (encodes rest) = (rest, (scalars-back front rest (ap scalars (sym cut.is) ∙ scalars-chars s u), refl)) in
        absurd (never (subst (λ k. IsCharBoundary s k) cut.width (IsCharBoundary-at_seam s (encodes front) (encodes rest) bytes back)))

pub cut_clause : (n : ℕ) (s : List ℕ) (r : Option (Bor (List ℕ) × Bor (List ℕ))) → IsUtf8 s → (IsSome r ↔ IsCharBoundary s n) → IfSome r (λ x. x.0.now ≡ take n s)
    → IfSome r (λ x. x.1.now ≡ drop n s) → IfSome r (λ x. length x.0.now ≡ n)
    → MatchOption r (at_byte n (chars s) ≡ None) (λ p. at_byte n (chars s) ≡ Some (chars p.0.now, chars p.1.now))
cut_clause n s None u variant front back len = no_boundary n s u (λ b. let some = variant.1 b in cc)
cut_clause n s (Some p) u variant front back len =
    let boundary = variant.0 refl in
    let utf8 : IsUtf8 p.0.now = subst (λ t. IsUtf8 t) (sym front) (IsUtf8-take s n u boundary) in
    let is : chars s ≡ chars p.0.now ++ chars p.1.now =
    ap chars (sym (take-append-drop n s) ∙ ap (λ t. t ++ drop n s) (sym front) ∙ ap (λ t. p.0.now ++ t) (sym back)) ∙ chars-append p.0.now p.1.now utf8 in
    let width : length (encodes (chars p.0.now)) ≡ n = ap length (encodes-chars p.0.now utf8) ∙ len in
    ap (λ k. at_byte k (chars s)) (sym width) ∙ ap (at_byte (length (encodes (chars p.0.now)))) is ∙ cut-own (chars p.0.now) (chars p.1.now)
