-- What has been read of a segment, and what one more character makes of it.
use Rattle.snap_select.proofs.Prelude.{◌≡◌, ℕ, ℤ, Bool, true, false, inl, inr, List, [], ◌∷◌, ◌++◌, length, Option, Some, None, cond, refl, sym, ap, ◌∙◌, append_assoc, append-nil, arith, length-append, eqb-true, eqb-false, and_from, and_parts, ltb-true, is_digit, digit_value, list_all, ⊤, IsTrue, ◌==◌, ◌&&◌, not, IsNumeral, AllDigits, digits_value, is_xid_continue, is_blank, AreBlanks, begins_name, IsName, Quoted, Quotes, dotted, bracketed, signed, signed_value, SpellsBound, MayBound, unbounded, bounded, Spells, Token, dot, in_name, star, bracket, in_quotes, backslash, minus, number, behind_number, colon, to_minus, to_number, closing, Move, on, ends, ended_before, nowhere, behind, move, Key, Index, Range}
use Rattle.std.proofs.lemmas.Int.Digits.{digits_push}
use Rattle.std.proofs.lemmas.List.Folds.{list_all-append}

-- an opened range, up to the blanks after its colon
pub record OpenRange (from : Option ℤ) (text : List ℕ) : Type 0 where
  pub blanks : List ℕ
  pub bound : List ℕ
  pub gap : List ℕ
  pub more : List ℕ
  pub is : text ≡ 91 ∷ blanks ++ bound ++ gap ++ 58 ∷ more
  pub blank : AreBlanks blanks
  pub may : MayBound from bound
  pub blank_gap : AreBlanks gap
  pub blank_more : AreBlanks more

-- an opened number, up to the blanks after it
pub record OpenNumber (negative : Bool) (digits gap text : List ℕ) : Type 0 where
  pub blanks : List ℕ
  pub is : text ≡ 91 ∷ blanks ++ signed negative digits ++ gap
  pub blank : AreBlanks blanks
  pub numeral : IsNumeral 10 digits
  pub blank_gap : AreBlanks gap

abbrev pub TokenMeans : Token → List ℕ → Type 0
TokenMeans dot t = t ≡ 46 ∷ []
TokenMeans (in_name name) t = (t ≡ 46 ∷ name) × IsName name
TokenMeans star t = t ≡ 46 ∷ 42 ∷ []
TokenMeans bracket t = (blanks : List ℕ) × (t ≡ 91 ∷ blanks) × AreBlanks blanks
TokenMeans (in_quotes key) t = (blanks : List ℕ) × (inside : List ℕ) × (t ≡ 91 ∷ blanks ++ 34 ∷ inside) × AreBlanks blanks × Quotes key inside
TokenMeans (backslash key) t = (blanks : List ℕ) × (inside : List ℕ) × (t ≡ 91 ∷ blanks ++ 34 ∷ inside ++ 92 ∷ []) × AreBlanks blanks × Quotes key inside
TokenMeans minus t = (blanks : List ℕ) × (t ≡ 91 ∷ blanks ++ 45 ∷ []) × AreBlanks blanks
TokenMeans (number negative digits) t = OpenNumber negative digits [] t
TokenMeans (behind_number negative digits gap) t = (blanks : List ℕ) × OpenNumber negative digits blanks t × (length blanks ≡ gap)
TokenMeans (colon from) t = OpenRange from t
TokenMeans (to_minus from) t = (front : List ℕ) × OpenRange from front × (t ≡ front ++ 45 ∷ [])
TokenMeans (to_number from negative digits) t = (front : List ℕ) × OpenRange from front × (t ≡ front ++ signed negative digits) × IsNumeral 10 digits
TokenMeans (closing segment) t = (blanks : List ℕ) → AreBlanks blanks → Spells segment (t ++ blanks ++ 93 ∷ [])

-- the text after the character, or the one before it
abbrev pub MoveMeans : List ℕ → List ℕ → Move → Type 0
MoveMeans t more (on token) = TokenMeans token more
MoveMeans t more (ends segment) = Spells segment more
MoveMeans t more (ended_before segment) = Spells segment t
MoveMeans t more nowhere = ⊤

-- groups of texts
twice_nothing : (p q : List ℕ) → p ++ q ≡ ((p ++ []) ++ []) ++ q
twice_nothing p q = sym (ap (λ x. x ++ q) (append-nil (p ++ []) ∙ append-nil p))

inner : (p b g m s : List ℕ) → (((p ++ b) ++ g) ++ m) ++ s ≡ p ++ (((b ++ g) ++ m) ++ s)
inner p b g m s = simp append_assoc

-- by a test
pub pick : {A : Type 0} (b : Bool) (x y : A) (P : A → Type 0) → (b ≡ true → P x) → (b ≡ false → P y) → P (cond b x y)
pick true x y P f g = f refl
pick false x y P f g = g refl

pub either : (b : Bool) (Q : Type 0) → (b ≡ true → Q) → (b ≡ false → Q) → Q
either true Q f g = f refl
either false Q f g = g refl

-- one character more
pub all_more : (p : ℕ → Bool) (cs : List ℕ) (c : ℕ) → IsTrue (list_all p cs) → p c ≡ true → IsTrue (list_all p (cs ++ c ∷ []))
all_more p cs c h k = rw list_all-append (and_from (list_all p cs) (list_all p (c ∷ [])) h (rw k refl))

name_more : (name : List ℕ) (c : ℕ) → IsName name → is_xid_continue c ≡ true → IsName (name ++ c ∷ [])
name_more [] c h k = absurd h
name_more (d ∷ ds) c h k = (h.0, all_more is_xid_continue ds c h.1 k)

pub numeral_more : (ds : List ℕ) (c : ℕ) → AllDigits 10 ds → is_digit c 10 ≡ true → IsNumeral 10 (ds ++ c ∷ [])
numeral_more ds c h k = (omega (arith, length-append ds (c ∷ [])), digits_push 10 ds c h (ltb-true (digit_value c) 10 k))

quotes_more : (key inside : List ℕ) (c : ℕ) (tail : List ℕ) → Quotes key inside → Quoted c tail [] → Quotes (key ++ c ∷ []) (inside ++ tail)
quotes_more [] inside c tail h k = rw h ([], k, refl)
quotes_more (d ∷ ds) inside c tail h k =
    (h.0 ++ tail, elim h.1 [ inl p ↦ inl (ap (λ x. x ++ tail) p.0, p.1, p.2) | inr e ↦ inr (ap (λ x. x ++ tail) e) ], quotes_more ds h.0 c tail h.2 k)

pub signed_more : (negative : Bool) (ds cs : List ℕ) → signed negative ds ++ cs ≡ signed negative (ds ++ cs)
signed_more negative ds cs = grind arith

pub bound_spelled : (negative : Bool) (digits : List ℕ) → IsNumeral 10 digits → SpellsBound (signed_value negative digits) (signed negative digits)
bound_spelled negative digits h = record { negative = negative; digits = digits; is = refl; numeral = h; value = refl }

-- after a number, with blanks or without
index_spelled : (negative : Bool) (digits gap text : List ℕ) (c : ℕ) → OpenNumber negative digits gap text → (c == 93) && not negative ≡ true → Spells (Index (digits_value 10 digits)) (text ++ c ∷ [])
index_spelled true digits gap text c h e = absurd (let q = and_parts (c == 93) false e in cc (q.1))
index_spelled false digits gap text c h e = record {
  before = h.blanks;
  inside = digits;
  after = gap;
  is = ap (λ x. x ++ c ∷ []) h.is ∙ ap (λ x. (91 ∷ h.blanks ++ digits ++ gap) ++ x ∷ []) (eqb-true c 93 (and_parts (c == 93) true e).0) ∙ simp append_assoc;
  blank_before = h.blank;
  blank_after = h.blank_gap;
  holds = (h.numeral, refl);
}

colon_opened : (negative : Bool) (digits gap text : List ℕ) (c : ℕ) → OpenNumber negative digits gap text → (c == 58) ≡ true → OpenRange (Some (signed_value negative digits)) (text ++ c ∷ [])
colon_opened negative digits gap text c h e = record {
  blanks = h.blanks;
  bound = signed negative digits;
  gap = gap;
  more = [];
  is = ap (λ x. x ++ c ∷ []) h.is ∙ ap (λ x. (91 ∷ h.blanks ++ signed negative digits ++ gap) ++ x ∷ []) (eqb-true c 58 e) ∙ simp append_assoc;
  blank = h.blank;
  may = bound_spelled negative digits h.numeral;
  blank_gap = h.blank_gap;
  blank_more = refl;
}

behind_on : (negative : Bool) (digits gap t : List ℕ) (c : ℕ) → OpenNumber negative digits gap t → MoveMeans t (t ++ c ∷ []) (behind negative digits c)
behind_on negative digits gap t c h =
    let P = MoveMeans t (t ++ c ∷ []) in
    pick (c == 58) _ _ P (λ e. colon_opened negative digits gap t c h e)
    (λ f. pick ((c == 93) && not negative) _ _ P (λ e. index_spelled negative digits gap t c h e) (λ g. tt))

gap_more : (negative : Bool) (digits gap t : List ℕ) (c : ℕ) → OpenNumber negative digits gap t → is_blank c ≡ true → OpenNumber negative digits (gap ++ c ∷ []) (t ++ c ∷ [])
gap_more negative digits gap t c h e = record {
  blanks = h.blanks;
  is = ap (λ x. x ++ c ∷ []) h.is ∙ simp append_assoc;
  blank = h.blank;
  numeral = h.numeral;
  blank_gap = all_more is_blank gap c h.blank_gap e;
}

number_more : (negative : Bool) (digits t : List ℕ) (c : ℕ) → OpenNumber negative digits [] t → is_digit c 10 ≡ true → OpenNumber negative (digits ++ c ∷ []) [] (t ++ c ∷ [])
number_more negative digits t c h e = record {
  blanks = h.blanks;
  is = ap (λ x. x ++ c ∷ []) h.is ∙ (simp (append-nil, append_assoc)) ∙ ap (λ x. (91 ∷ h.blanks ++ x) ++ []) (signed_more negative digits (c ∷ []));
  blank = h.blank;
  numeral = numeral_more digits c h.numeral.1 e;
  blank_gap = refl;
}

first_digit : (negative : Bool) (blanks t : List ℕ) (c : ℕ) → t ++ c ∷ [] ≡ 91 ∷ blanks ++ signed negative (c ∷ []) → AreBlanks blanks → is_digit c 10 ≡ true → OpenNumber negative (c ∷ []) [] (t ++ c ∷ [])
first_digit negative blanks t c is h e = record {
  blanks = blanks;
  is = is ∙ sym (append-nil (91 ∷ blanks ++ signed negative (c ∷ [])));
  blank = h;
  numeral = numeral_more [] c tt e;
  blank_gap = refl;
}

-- after the colon of a range
range_more : (from : Option ℤ) (t : List ℕ) (c : ℕ) → OpenRange from t → is_blank c ≡ true → OpenRange from (t ++ c ∷ [])
range_more from t c h e = record {
  blanks = h.blanks;
  bound = h.bound;
  gap = h.gap;
  more = h.more ++ c ∷ [];
  is = ap (λ x. x ++ c ∷ []) h.is ∙ simp append_assoc;
  blank = h.blank;
  may = h.may;
  blank_gap = h.blank_gap;
  blank_more = all_more is_blank h.more c h.blank_more e;
}

pub range_spelled : (from to : Option ℤ) (front second after : List ℕ) → OpenRange from front → MayBound to second → AreBlanks after → Spells (Range from to) ((front ++ second) ++ after ++ 93 ∷ [])
range_spelled from to front second after h k b = record {
  before = h.blanks;
  inside = h.bound ++ h.gap ++ 58 ∷ h.more ++ second;
  after = after;
  is = ap (λ x. (x ++ second) ++ after ++ 93 ∷ []) h.is ∙ ap (λ x. x ++ after ++ 93 ∷ []) (inner (91 ∷ h.blanks) h.bound h.gap (58 ∷ h.more) second);
  blank_before = h.blank;
  blank_after = b;
  holds = bounded h.bound h.gap h.more second refl h.may h.blank_gap h.blank_more k;
}

range_closed : (from to : Option ℤ) (front second t : List ℕ) (c : ℕ) → OpenRange from front → MayBound to second → t ≡ front ++ second → (c == 93) ≡ true → Spells (Range from to) (t ++ c ∷ [])
range_closed from to front second t c h k is e = rw (is, eqb-true c 93 e) (rw append-nil at (range_spelled from to front second [] h k refl))

range_closing : (from to : Option ℤ) (front second t : List ℕ) (c : ℕ) → OpenRange from front → MayBound to second → t ≡ front ++ second → is_blank c ≡ true → TokenMeans (closing (Range from to)) (t ++ c ∷ [])
range_closing from to front second t c h k is e = λ blanks b.
    rw (is, append_assoc (front ++ second) (c ∷ []) blanks) (range_spelled from to front second (c ∷ blanks) h k (and_from (is_blank c) (list_all is_blank blanks) e b))

empty_range : (blanks t : List ℕ) (c : ℕ) → t ≡ 91 ∷ blanks → AreBlanks blanks → (c == 93) ≡ true → Spells (Range None None) (t ++ c ∷ [])
empty_range blanks t c is h e = record {
  before = blanks;
  inside = [];
  after = [];
  is = ap (λ x. x ++ c ∷ []) is ∙ ap (λ x. 91 ∷ blanks ++ x ∷ []) (eqb-true c 93 e) ∙ twice_nothing (91 ∷ blanks) (93 ∷ []);
  blank_before = h;
  blank_after = refl;
  holds = unbounded refl refl refl;
}

key_closing : (key inside blanks t : List ℕ) (c : ℕ) → t ≡ 91 ∷ blanks ++ 34 ∷ inside → AreBlanks blanks → Quotes key inside → (c == 34) ≡ true → TokenMeans (closing (Key key)) (t ++ c ∷ [])
key_closing key inside blanks t c is h k e = λ after b. bracketed (record {
  before = blanks;
  inside = 34 ∷ inside ++ 34 ∷ [];
  after = after;
  is = ap (λ x. (x ++ c ∷ []) ++ after ++ 93 ∷ []) is ∙ ap (λ x. ((91 ∷ blanks ++ 34 ∷ inside) ++ x ∷ []) ++ after ++ 93 ∷ []) (eqb-true c 34 e) ∙ simp append_assoc;
  blank_before = h;
  blank_after = b;
  holds = record { inside = inside; is = refl; quotes = k };
})

pub token_on : (token : Token) (t : List ℕ) (c : ℕ) → TokenMeans token t → MoveMeans t (t ++ c ∷ []) (move token c)
token_on dot t c h =
    let P = MoveMeans t (t ++ c ∷ []) in
    let more = ap (λ x. x ++ c ∷ []) h in
    pick (begins_name c) _ _ P (λ e. (more, (e, refl))) (λ f. pick (c == 42) _ _ P (λ e. more ∙ ap (λ x. 46 ∷ x ∷ []) (eqb-true c 42 e)) (λ g. tt))
token_on (in_name name) t c h =
    pick (is_xid_continue c) _ _ (MoveMeans t (t ++ c ∷ [])) (λ e. (ap (λ x. x ++ c ∷ []) h.0, name_more name c h.1 e)) (λ f. dotted h.0 h.1)
token_on star t c h =
    pick (c == 42) _ _ (MoveMeans t (t ++ c ∷ [])) (λ e. ap (λ x. x ++ c ∷ []) h ∙ ap (λ x. 46 ∷ 42 ∷ x ∷ []) (eqb-true c 42 e)) (λ f. h)
token_on bracket t c h =
    let P = MoveMeans t (t ++ c ∷ []) in
    let more = ap (λ x. x ++ c ∷ []) h.1 in
    let named : (d : ℕ) → (c == d) ≡ true → t ++ c ∷ [] ≡ 91 ∷ h.0 ++ d ∷ [] = λ d e. more ∙ ap (λ x. 91 ∷ h.0 ++ x ∷ []) (eqb-true c d e) in
    pick (is_blank c) _ _ P (λ e. (h.0 ++ c ∷ [], more, all_more is_blank h.0 c h.2 e))
    (λ f. pick (c == 34) _ _ P (λ e. (h.0, [], named 34 e, h.2, refl))
    (λ f. pick (c == 45) _ _ P (λ e. (h.0, named 45 e, h.2))
    (λ f. pick (is_digit c 10) _ _ P (λ e. first_digit false h.0 t c more h.2 e)
    (λ f. pick (c == 58) _ _ P
    (λ e. record { blanks = h.0; bound = []; gap = []; more = []; is = named 58 e ∙ twice_nothing (91 ∷ h.0) (58 ∷ []); blank = h.2; may = refl; blank_gap = refl; blank_more = refl })
    (λ f. pick (c == 93) _ _ P (λ e. empty_range h.0 t c h.1 h.2 e) (λ g. tt))))))
token_on (in_quotes key) t c h =
    let P = MoveMeans t (t ++ c ∷ []) in
    let more : t ++ c ∷ [] ≡ 91 ∷ h.0 ++ 34 ∷ h.1 ++ c ∷ [] = ap (λ x. x ++ c ∷ []) h.2 in
    pick (c == 34) _ _ P (λ e. key_closing key h.1 h.0 t c h.2 h.3 h.4 e)
    (λ f. pick (c == 92) _ _ P (λ e. (h.0, h.1, more ∙ ap (λ x. 91 ∷ h.0 ++ 34 ∷ h.1 ++ x ∷ []) (eqb-true c 92 e), h.3, h.4))
    (λ g. (h.0, h.1 ++ c ∷ [], more ∙ append_assoc (91 ∷ h.0) (34 ∷ h.1) (c ∷ []), h.3, quotes_more key h.1 c (c ∷ []) h.4 (inl (refl, eqb-false c 34 f, eqb-false c 92 g)))))
token_on (backslash key) t c h = (h.0, h.1 ++ 92 ∷ c ∷ [], ap (λ x. x ++ c ∷ []) h.2 ∙ simp append_assoc, h.3, quotes_more key h.1 c (92 ∷ c ∷ []) h.4 (inr refl))
token_on minus t c h =
    pick (is_digit c 10) _ _ (MoveMeans t (t ++ c ∷ [])) (λ e. first_digit true h.0 t c (ap (λ x. x ++ c ∷ []) h.1 ∙ simp append_assoc) h.2 e) (λ g. tt)
token_on (number negative digits) t c h =
    let P = MoveMeans t (t ++ c ∷ []) in
    pick (is_digit c 10) _ _ P (λ e. number_more negative digits t c h e)
    (λ f. pick (is_blank c) _ _ P (λ e. (c ∷ [], gap_more negative digits [] t c h e, refl)) (λ g. behind_on negative digits [] t c h))
token_on (behind_number negative digits gap) t c h =
    pick (is_blank c) _ _ (MoveMeans t (t ++ c ∷ []))
    (λ e. (h.0 ++ c ∷ [], gap_more negative digits h.0 t c h.1 e, omega (arith, length-append h.0 (c ∷ []), h.2))) (λ g. behind_on negative digits h.0 t c h.1)
token_on (colon from) t c h =
    let P = MoveMeans t (t ++ c ∷ []) in
    pick (is_blank c) _ _ P (λ e. range_more from t c h e)
    (λ f. pick (c == 45) _ _ P (λ e. (t, h, ap (λ x. t ++ x ∷ []) (eqb-true c 45 e)))
    (λ f. pick (is_digit c 10) _ _ P (λ e. (t, h, refl, numeral_more [] c tt e))
    (λ f. pick (c == 93) _ _ P (λ e. range_closed from None t [] t c h refl (sym (append-nil t)) e) (λ g. tt))))
token_on (to_minus from) t c h =
    pick (is_digit c 10) _ _ (MoveMeans t (t ++ c ∷ []))
    (λ e. (h.0, h.1, ap (λ x. x ++ c ∷ []) h.2 ∙ append_assoc h.0 (45 ∷ []) (c ∷ []), numeral_more [] c tt e)) (λ g. tt)
token_on (to_number from negative digits) t c h =
    let P = MoveMeans t (t ++ c ∷ []) in
    let to = Some (signed_value negative digits) in
    let spelled = bound_spelled negative digits h.3 in
    pick (is_digit c 10) _ _ P
    (λ e. (h.0, h.1, ap (λ x. x ++ c ∷ []) h.2 ∙ append_assoc h.0 (signed negative digits) (c ∷ []) ∙ ap (λ x. h.0 ++ x) (signed_more negative digits (c ∷ [])), numeral_more digits c h.3.1 e))
    (λ f. pick (is_blank c) _ _ P (λ e. range_closing from to h.0 (signed negative digits) t c h.1 spelled h.2 e)
    (λ g. pick (c == 93) _ _ P (λ e. range_closed from to h.0 (signed negative digits) t c h.1 spelled h.2 e) (λ g. tt)))
token_on (closing segment) t c h =
    let P = MoveMeans t (t ++ c ∷ []) in
    pick (is_blank c) _ _ P (λ e blanks b. rw (append_assoc t (c ∷ []) blanks) (h (c ∷ blanks) (and_from (is_blank c) (list_all is_blank blanks) e b)))
    (λ f. pick (c == 93) _ _ P (λ e. rw (eqb-true c 93 e) (rw append-nil at (h [] refl))) (λ g. tt))
