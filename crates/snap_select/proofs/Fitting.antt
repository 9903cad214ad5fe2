-- Numbers that fit and single deep wildcards, along a text.
use Rattle.snap_select.proofs.Prelude.{◌≡◌, ℕ, suc, ℤ, pos, negsuc, neg_ℤ, ◌+◌, ◌*◌, ◌^◌, ◌<◌, ◌≤◌, Bool, true, false, List, [], ◌∷◌, ◌++◌, Option, Some, None, cond, refl, sym, subst, arith, lt-leb, leb-false, ltb-true, is_digit, digit_value, ◌==◌, ◌&&◌, ◌||◌, not, ⊤, digits_value, digits_value_after, is_xid_continue, is_deep, has_deep, is_blank, begins_name, signed_value, FitsBound, MayFit, Fits, AllFit, deep_count, ArePlain, Parts, Token, dot, in_name, star, bracket, in_quotes, backslash, minus, number, behind_number, colon, to_minus, to_number, closing, Move, on, ends, ended_before, nowhere, move, whole, Place, before_part, first_dot, ready, inside, behind_part, separate, follow, moved, step, with_last, ended, is_far, is_over, flaw_in, flaw, SelectFault, DeepTwice, TooLarge, Segment, DeepWildcard, Wildcard, Index, Range, ◌↔◌, ap}
use Rattle.std.proofs.lemmas.Bool.Decides.{nat_tests}
use Rattle.snap_select.proofs.Walks.{Leads, Ons, at_blank}
use Rattle.snap_select.proofs.Tokens.{pick}

-- bounds that fit, by the number after the minus
pub near_fits : (bound : ℤ) → is_far bound ≡ false → FitsBound bound
near_fits (pos n) h = leb-false (2 ^ 63) n h
near_fits (negsuc n) h = leb-false (2 ^ 63) n h

pub fits_near : (bound : ℤ) → FitsBound bound → is_far bound ≡ false
fits_near (pos n) h = lt-leb (2 ^ 63) n h
fits_near (negsuc n) h = lt-leb (2 ^ 63) n h

-- a number below one that fits, with a minus and without
near_below : (negative : Bool) (v w : ℕ) → v ≤ w → is_far (cond negative (neg_ℤ (pos w)) (pos w)) ≡ false → is_far (cond negative (neg_ℤ (pos v)) (pos v)) ≡ false
near_below negative v w h k = grind (arith, nat_tests)

-- digits, and more digits
pub value_grows : (n : ℕ) (cs : List ℕ) → n ≤ digits_value_after 10 n cs
value_grows n [] = omega arith
value_grows n (c ∷ cs) = let h = value_grows (n * 10 + digit_value c) cs in omega arith

value_append : (n : ℕ) (a b : List ℕ) → digits_value_after 10 n (a ++ b) ≡ digits_value_after 10 (digits_value_after 10 n a) b
value_append n [] b = refl
value_append n (c ∷ cs) b = value_append (n * 10 + digit_value c) cs b

pub front_below : (a b : List ℕ) → digits_value 10 a ≤ digits_value 10 (a ++ b)
front_below a b = let h = value_append 0 a b in let k = value_grows (digits_value 10 a) b in omega arith

pub far_less : (negative : Bool) (a b : List ℕ) → is_far (signed_value negative (a ++ b)) ≡ false → is_far (signed_value negative a) ≡ false
far_less negative a b h = near_below negative (digits_value 10 a) (digits_value 10 (a ++ b)) (front_below a b) h

pub over_less : (negative : Bool) (a b : List ℕ) → is_over negative (a ++ b) ≡ false → is_over negative a ≡ false
over_less negative a b h = grind (arith, nat_tests, front_below a b, far_less negative a b)

pub near_over : (negative : Bool) (ds : List ℕ) → is_far (signed_value negative ds) ≡ false → is_over negative ds ≡ false
near_over negative ds h = grind (arith, nat_tests)

pub one_near : (negative : Bool) (c : ℕ) → digit_value c < 10 → is_far (signed_value negative (c ∷ [])) ≡ false
one_near negative c h = grind (arith, nat_tests)

-- a segment that may stand after these
abbrev pub MayStand : List Segment → Segment → Type 0
MayStand ss segment = Fits segment × (is_deep segment && has_deep ss ≡ false)

-- what fits of a token after these segments
abbrev pub TokenFits : List Segment → Token → Type 0
TokenFits ss (number negative digits) = is_over negative digits ≡ false
TokenFits ss (behind_number negative digits gap) = is_over negative digits ≡ false
TokenFits ss (colon from) = MayFit from
TokenFits ss (to_minus from) = MayFit from
TokenFits ss (to_number from negative digits) = MayFit from × (is_far (signed_value negative digits) ≡ false)
TokenFits ss (closing segment) = MayStand ss segment
TokenFits ss _ = ⊤

-- the statement holds exactly where what the move leads to fits
abbrev MoveFits : Type 0 → List Segment → Move → Type 0
MoveFits B ss (on token) = B ↔ TokenFits ss token
MoveFits B ss (ends segment) = B ↔ MayStand ss segment
MoveFits B ss (ended_before segment) = B ↔ MayStand ss segment
MoveFits B ss nowhere = ⊤

-- the token fits, and the character shows no flaw
abbrev pub WasFit : List Segment → Token → ℕ → Type 0
WasFit ss token c = TokenFits ss token × (flaw_in ss token c ≡ None)

no_flaw : (k : SelectFault) (f : Bool) → cond f (Some k) None ≡ None → f ≡ false
no_flaw k f h = grind arith

flawless : (k : SelectFault) (f : Bool) → f ≡ false → cond f (Some k) None ≡ None
flawless k f h = rw h refl

-- nothing has to fit
abbrev NoFlaw : Type 0
NoFlaw = ◌≡◌ {A = Option SelectFault} None None

free : (⊤ × NoFlaw) ↔ ⊤
free = (λ h. tt, λ h. (tt, refl))

blank_apart : (c : ℕ) → is_blank c ≡ true → (c == 58) ≡ false
blank_apart c h = at_blank (λ x. (x == 58) ≡ false) c h refl refl

-- after a number, by whether a colon follows, or else a bracket
behind_fits : (ss : List Segment) (negative : Bool) (digits : List ℕ) (e i : Bool)
    → MoveFits ((is_over negative digits ≡ false) × (cond (e && is_far (signed_value negative digits)) (Some TooLarge) None ≡ None)) ss
    (cond e (on (colon (Some (signed_value negative digits)))) (cond (i && not negative) (ends (Index (digits_value 10 digits))) nowhere))
behind_fits ss negative digits true i =
    let bound = signed_value negative digits in
    (λ h. near_fits bound (no_flaw TooLarge (is_far bound) h.1), λ h. let n = fits_near bound h in (near_over negative digits n, flawless TooLarge (is_far bound) n))
behind_fits ss true digits false true = tt
behind_fits ss false digits false true = (λ h. (leb-false (2 ^ 64) (digits_value 10 digits) h.0, refl), λ h. (lt-leb (2 ^ 64) (digits_value 10 digits) h.0, refl))
behind_fits ss negative digits false false = tt

-- at a number, by whether a digit follows, or else a blank, or else a colon or a bracket
number_fits : (ss : List Segment) (negative : Bool) (digits : List ℕ) (c : ℕ) (d b e i : Bool) → (b ≡ true → e ≡ false)
    → MoveFits ((is_over negative digits ≡ false) × (cond d (cond (is_over negative (digits ++ c ∷ [])) (Some TooLarge) None) (cond (e && is_far (signed_value negative digits)) (Some TooLarge) None) ≡ None)) ss
    (cond d (on (number negative (digits ++ c ∷ []))) (cond b (on (behind_number negative digits 1))
    (cond e (on (colon (Some (signed_value negative digits)))) (cond (i && not negative) (ends (Index (digits_value 10 digits))) nowhere))))
number_fits ss negative digits c true b e i x =
    let over = is_over negative (digits ++ c ∷ []) in (λ h. no_flaw TooLarge over h.1, λ h. (over_less negative digits (c ∷ []) h, flawless TooLarge over h))
number_fits ss negative digits c false true e i x = (λ h. h.0, λ h. (h, rw (x refl) refl))
number_fits ss negative digits c false false e i x = behind_fits ss negative digits e i

bound_fits : (ss : List Segment) (from : Option ℤ) (bound : ℤ) → ((MayFit from × (is_far bound ≡ false)) × NoFlaw) ↔ MayStand ss (Range from (Some bound))
bound_fits ss from bound = (λ h. ((h.0.0, near_fits bound h.0.1), refl), λ h. ((h.0.0, fits_near bound h.0.1), refl))

-- at a second bound, by whether a digit follows, or else a blank or a bracket
to_number_fits : (ss : List Segment) (from : Option ℤ) (negative : Bool) (digits : List ℕ) (c : ℕ) (d b e : Bool)
    → MoveFits ((MayFit from × (is_far (signed_value negative digits) ≡ false)) × (cond (d && is_far (signed_value negative (digits ++ c ∷ []))) (Some TooLarge) None ≡ None)) ss
    (cond d (on (to_number from negative (digits ++ c ∷ []))) (cond b (on (closing (Range from (Some (signed_value negative digits))))) (cond e (ends (Range from (Some (signed_value negative digits)))) nowhere)))
to_number_fits ss from negative digits c true b e =
    let far = is_far (signed_value negative (digits ++ c ∷ [])) in
    (λ h. (h.0.0, no_flaw TooLarge far h.1), λ h. ((h.0, far_less negative digits (c ∷ []) h.1), flawless TooLarge far h.1))
to_number_fits ss from negative digits c false true e = bound_fits ss from (signed_value negative digits)
to_number_fits ss from negative digits c false false true = bound_fits ss from (signed_value negative digits)
to_number_fits ss from negative digits c false false false = tt

star_fits : (ss : List Segment) (b : Bool) → MoveFits (⊤ × (cond (b && has_deep ss) (Some DeepTwice) None ≡ None)) ss (cond b (ends DeepWildcard) (ended_before Wildcard))
star_fits ss true = (λ h. (tt, no_flaw DeepTwice (has_deep ss) h.1), λ h. (tt, flawless DeepTwice (has_deep ss) h.1))
star_fits ss false = (λ h. (tt, refl), λ h. (tt, refl))

token_fits : (ss : List Segment) (token : Token) (c : ℕ) → MoveFits (WasFit ss token c) ss (move token c)
token_fits ss dot c =
    let P = MoveFits (WasFit ss dot c) ss in
    pick (begins_name c) _ _ P (λ e. free) (λ f. pick (c == 42) _ _ P (λ e. free) (λ g. tt))
token_fits ss (in_name name) c = pick (is_xid_continue c) _ _ (MoveFits (WasFit ss (in_name name) c) ss) (λ e. free) (λ f. (λ h. (tt, refl), λ h. (tt, refl)))
token_fits ss star c = star_fits ss (c == 42)
token_fits ss bracket c =
    let P = MoveFits (WasFit ss bracket c) ss in
    pick (is_blank c) _ _ P (λ e. free)
    (λ f. pick (c == 34) _ _ P (λ e. free)
    (λ f. pick (c == 45) _ _ P (λ e. free)
    (λ f. pick (is_digit c 10) _ _ P (λ e. (λ h. near_over false (c ∷ []) (one_near false c (ltb-true (digit_value c) 10 e)), λ h. (tt, refl)))
    (λ f. pick (c == 58) _ _ P (λ e. free)
    (λ f. pick (c == 93) _ _ P (λ e. (λ h. ((tt, tt), refl), λ h. (tt, refl))) (λ g. tt))))))
token_fits ss (in_quotes key) c =
    let P = MoveFits (WasFit ss (in_quotes key) c) ss in
    pick (c == 34) _ _ P (λ e. (λ h. (tt, refl), λ h. (tt, refl))) (λ f. pick (c == 92) _ _ P (λ e. free) (λ g. free))
token_fits ss (backslash key) c = free
token_fits ss minus c =
    pick (is_digit c 10) _ _ (MoveFits (WasFit ss minus c) ss) (λ e. (λ h. one_near true c (ltb-true (digit_value c) 10 e), λ h. (tt, refl))) (λ g. tt)
token_fits ss (number negative digits) c = number_fits ss negative digits c (is_digit c 10) (is_blank c) (c == 58) (c == 93) (blank_apart c)
token_fits ss (behind_number negative digits gap) c =
    pick (is_blank c) _ _ (MoveFits (WasFit ss (behind_number negative digits gap) c) ss) (λ e. (λ h. h.0, λ h. (h, rw (blank_apart c e) refl))) (λ f. behind_fits ss negative digits (c == 58) (c == 93))
token_fits ss (colon from) c =
    let P = MoveFits (WasFit ss (colon from) c) ss in
    pick (is_blank c) _ _ P (λ e. (λ h. h.0, λ h. (h, refl)))
    (λ f. pick (c == 45) _ _ P (λ e. (λ h. h.0, λ h. (h, refl)))
    (λ f. pick (is_digit c 10) _ _ P (λ e. (λ h. (h.0, one_near false c (ltb-true (digit_value c) 10 e)), λ h. (h.0, refl)))
    (λ f. pick (c == 93) _ _ P (λ e. (λ h. ((h.0, tt), refl), λ h. (h.0.0, refl))) (λ g. tt))))
token_fits ss (to_minus from) c =
    pick (is_digit c 10) _ _ (MoveFits (WasFit ss (to_minus from) c) ss) (λ e. (λ h. (h.0, one_near true c (ltb-true (digit_value c) 10 e)), λ h. (h.0, refl))) (λ g. tt)
token_fits ss (to_number from negative digits) c = to_number_fits ss from negative digits c (is_digit c 10) (is_blank c) (c == 93)
token_fits ss (closing segment) c =
    let P = MoveFits (WasFit ss (closing segment) c) ss in
    let same : WasFit ss (closing segment) c ↔ MayStand ss segment = (λ h. h.0, λ h. (h, refl)) in
    pick (is_blank c) _ _ P (λ e. same) (λ f. pick (c == 93) _ _ P (λ e. same) (λ g. tt))

-- to a place, without a flaw on the way
abbrev pub Fitting : Place → List ℕ → Place → Type 0
Fitting s [] z = s ≡ z
Fitting s (c ∷ cs) z = (to : Place) × (step s c ≡ Some to) × (flaw s c ≡ None) × Fitting to cs z

-- along a text inside one segment, to a token that fits, there is no flaw
pub tokens_fit : (ps : Parts) (ss : List Segment) (s : Token) (cs : List ℕ) (z : Token) → Ons s cs z → TokenFits ss z → Fitting (inside ps ss s) cs (inside ps ss z) × TokenFits ss s
tokens_fit ps ss s [] z h k = (ap (inside ps ss) h, subst (TokenFits ss) (sym h) k)
tokens_fit ps ss s (c ∷ cs) z h k =
    let m = tokens_fit ps ss h.0 cs z h.2 k in
    let w = (subst (MoveFits (WasFit ss s c) ss) h.1 (token_fits ss s c)).1 m.1 in ((inside ps ss h.0, ap (moved ps ss c) h.1, w.1, m.0), w.0)

-- a part whose numbers fit, with one deep wildcard at most
abbrev pub IsPlain : List Segment → Type 0
IsPlain ss = AllFit ss × (deep_count ss ≤ 1)

abbrev pub PlaceFits : Place → Type 0
PlaceFits (before_part ps) = ArePlain ps
PlaceFits (first_dot ps) = ArePlain ps
PlaceFits (ready ps ss) = ArePlain ps × IsPlain ss
PlaceFits (inside ps ss token) = ArePlain ps × IsPlain ss × TokenFits ss token
PlaceFits (behind_part ps) = ArePlain ps

abbrev MaybeFits : Type 0 → Option Place → Type 0
MaybeFits B None = ⊤
MaybeFits B (Some s) = B ↔ PlaceFits s

-- parts and segments, and one more
plain_parts : (ps : Parts) (p : List Segment) → (ArePlain ps × IsPlain p) ↔ ArePlain (ps ++ p ∷ [])
plain_parts [] p = (λ h. (h.1.0, h.1.1, tt), λ h. (tt, (h.0, h.1)))
plain_parts (q ∷ qs) p = let k = plain_parts qs p in (λ h. (h.0.0, h.0.1, k.0 (h.0.2, h.1)), λ h. let w = k.1 h.2 in ((h.0, h.1, w.0), w.1))

all_fit : (ss : List Segment) (seg : Segment) → (AllFit ss × Fits seg) ↔ AllFit (ss ++ seg ∷ [])
all_fit [] seg = (λ h. (h.1, tt), λ h. (tt, h.0))
all_fit (s ∷ ss) seg = let k = all_fit ss seg in (λ h. (h.0.0, k.0 (h.0.1, h.1)), λ h. let w = k.1 h.1 in ((h.0, w.0), w.1))

-- one deep wildcard more
abbrev IsCount : Bool → ℕ → Type 0
IsCount true n = 1 ≤ n
IsCount false n = n ≡ 0

deep_counted : (ss : List Segment) → IsCount (has_deep ss) (deep_count ss)
deep_counted [] = refl
deep_counted (s ∷ ss) = one_more (is_deep s) (has_deep ss) (deep_count ss) (deep_counted ss)
  where
    one_more : (b f : Bool) (n : ℕ) → IsCount f n → IsCount (b || f) (cond b (suc n) n)
    one_more true f n h = omega arith
    one_more false f n h = h

count_more : (ss : List Segment) (seg : Segment) → deep_count (ss ++ seg ∷ []) ≡ deep_count ss + cond (is_deep seg) 1 0
count_more [] seg = grind arith
count_more (s ∷ ss) seg = grind (arith, count_more ss seg)

one_deep : (d f : Bool) (n : ℕ) → IsCount f n → ((n ≤ 1) × (d && f ≡ false)) ↔ (n + cond d 1 0 ≤ 1)
one_deep true true n h = (λ k. absurd (cc (k.1)), λ k. absurd (omega arith))
one_deep true false n h = (λ k. omega arith, λ k. (omega arith, refl))
one_deep false f n h = (λ k. omega arith, λ k. (omega arith, refl))

part_stands : (ss : List Segment) (seg : Segment) → (IsPlain ss × MayStand ss seg) ↔ IsPlain (ss ++ seg ∷ [])
part_stands ss seg =
    let a = all_fit ss seg in
    let o = one_deep (is_deep seg) (has_deep ss) (deep_count ss) (deep_counted ss) in
    let c = count_more ss seg in
    (λ h. (a.0 (h.0.0, h.1.0), rw c (o.0 (h.0.1, h.1.1))), λ h. let w = a.1 h.0 in let v = o.1 (rw c at h.1) in ((w.0, v.0), (w.1, v.1)))

none_plain : IsPlain []
none_plain = (tt, omega arith)

-- along a step
separate_fits : (B : Type 0) (ps : Parts) (c : ℕ) → B ↔ ArePlain ps → MaybeFits B (separate ps c)
separate_fits B ps c h = pick (is_blank c) _ _ (MaybeFits B) (λ e. h) (λ f. pick (c == 44) _ _ (MaybeFits B) (λ e. h) (λ g. tt))

follow_fits : (B : Type 0) (ps : Parts) (ss : List Segment) (c : ℕ) → B ↔ (ArePlain ps × IsPlain ss) → MaybeFits B (follow ps ss c)
follow_fits B ps ss c h =
    let k = plain_parts ps ss in
    let opened : B ↔ (ArePlain ps × IsPlain ss × ⊤) = (λ b. let w = h.0 b in (w.0, w.1, tt), λ w. h.1 (w.0, w.1)) in
    pick (c == 46) _ _ (MaybeFits B) (λ e. opened)
    (λ f. pick (c == 91) _ _ (MaybeFits B) (λ e. opened) (λ g. separate_fits B (ps ++ ss ∷ []) c (λ b. k.0 (h.0 b), λ w. h.1 (k.1 w))))

stood : (B Q : Type 0) (ps : Parts) (ss : List Segment) (s : Segment) → B ↔ (ArePlain ps × IsPlain ss × Q) → Q ↔ MayStand ss s → B ↔ (ArePlain ps × IsPlain (ss ++ s ∷ []))
stood B Q ps ss s r h = let k = part_stands ss s in (λ b. let w = r.0 b in (w.0, k.0 (w.1, h.0 w.2)), λ w. let v = k.1 w.1 in r.1 (w.0, v.0, h.1 v.1))

moved_fits : (B Q : Type 0) (ps : Parts) (ss : List Segment) (c : ℕ) (m : Move) → B ↔ (ArePlain ps × IsPlain ss × Q) → MoveFits Q ss m → MaybeFits B (moved ps ss c m)
moved_fits B Q ps ss c (on token) r h = (λ b. let w = r.0 b in (w.0, w.1, h.0 w.2), λ w. r.1 (w.0, w.1, h.1 w.2))
moved_fits B Q ps ss c (ends s) r h = stood B Q ps ss s r h
moved_fits B Q ps ss c (ended_before s) r h = follow_fits B ps (ss ++ s ∷ []) c (stood B Q ps ss s r h)
moved_fits B Q ps ss c nowhere r h = tt

-- where a part begins
kept : (ps : Parts) → (ArePlain ps × NoFlaw) ↔ ArePlain ps
kept ps = (λ b. b.0, λ k. (k, refl))

begun : (ps : Parts) → (ArePlain ps × NoFlaw) ↔ (ArePlain ps × IsPlain [] × ⊤)
begun ps = (λ b. (b.0, none_plain, tt), λ k. (k.0, refl))

step_fits : (s : Place) (c : ℕ) → MaybeFits (PlaceFits s × (flaw s c ≡ None)) (step s c)
step_fits (before_part ps) c =
    let P = MaybeFits (PlaceFits (before_part ps) × (flaw (before_part ps) c ≡ None)) in
    pick (is_blank c) _ _ P (λ e. kept ps) (λ f. pick (c == 46) _ _ P (λ e. kept ps) (λ f. pick (c == 91) _ _ P (λ e. begun ps) (λ g. tt)))
step_fits (first_dot ps) c =
    let P = MaybeFits (PlaceFits (first_dot ps) × (flaw (first_dot ps) c ≡ None)) in
    let k = plain_parts ps [] in
    pick (begins_name c) _ _ P (λ e. begun ps)
    (λ f. pick (c == 42) _ _ P (λ e. begun ps)
    (λ f. pick (c == 91) _ _ P (λ e. begun ps) (λ g. separate_fits _ (ps ++ [] ∷ []) c (λ b. k.0 (b.0, none_plain), λ w. ((k.1 w).0, refl)))))
step_fits (ready ps ss) c = follow_fits _ ps ss c (λ b. b.0, λ w. (w, refl))
step_fits (inside ps ss token) c =
    moved_fits _ (WasFit ss token c) ps ss c (move token c) (λ b. (b.0.0, b.0.1, (b.0.2, b.1)), λ w. ((w.0, w.1, w.2.0), w.2.1)) (token_fits ss token c)
step_fits (behind_part ps) c = separate_fits _ ps c (kept ps)

fit_step : (s : Place) (c : ℕ) (z : Place) → step s c ≡ Some z → (PlaceFits s × (flaw s c ≡ None)) ↔ PlaceFits z
fit_step s c z e = subst (MaybeFits (PlaceFits s × (flaw s c ≡ None))) e (step_fits s c)

pub fitting_leads : (s : Place) (t : List ℕ) (z : Place) → Fitting s t z → Leads s t z
fitting_leads s [] z h = h
fitting_leads s (c ∷ cs) z h = (h.0, h.1, fitting_leads h.0 cs z h.3)

pub fitting_fits : (s : Place) (t : List ℕ) (z : Place) → Fitting s t z → PlaceFits s → PlaceFits z
fitting_fits s [] z h k = subst PlaceFits h k
fitting_fits s (c ∷ cs) z h k = fitting_fits h.0 cs z h.3 ((fit_step s c h.0 h.1).0 (k, h.2))

pub leads_fitting : (s : Place) (t : List ℕ) (z : Place) → Leads s t z → PlaceFits z → Fitting s t z × PlaceFits s
leads_fitting s [] z h k = (h, subst PlaceFits (sym h) k)
leads_fitting s (c ∷ cs) z h k = let m = leads_fitting h.0 cs z h.2 k in let w = (fit_step s c h.0 h.1).1 m.1 in ((h.0, h.1, w.1, m.0), w.0)

-- the parts at an end
abbrev EndFits : Type 0 → Option Parts → Type 0
EndFits B None = ⊤
EndFits B (Some parts) = B ↔ ArePlain parts

abbrev SegmentFits : Type 0 → List Segment → Option Segment → Type 0
SegmentFits B ss None = ⊤
SegmentFits B ss (Some s) = B ↔ MayStand ss s

whole_fits : (ss : List Segment) (token : Token) → SegmentFits (TokenFits ss token) ss (whole token)
whole_fits ss (in_name name) = (λ h. (tt, refl), λ h. tt)
whole_fits ss star = (λ h. (tt, refl), λ h. tt)
whole_fits ss _ = tt

last_fits : (B : Type 0) (ps : Parts) (ss : List Segment) (o : Option Segment) → SegmentFits B ss o → EndFits (ArePlain ps × IsPlain ss × B) (with_last ps ss o)
last_fits B ps ss None h = tt
last_fits B ps ss (Some s) h =
    let k = stood (ArePlain ps × IsPlain ss × B) B ps ss s (λ b. b, λ b. b) h in
    let w = plain_parts ps (ss ++ s ∷ []) in (λ b. w.0 (k.0 b), λ v. k.1 (w.1 v))

end_fits : (s : Place) → EndFits (PlaceFits s) (ended s)
end_fits (before_part ps) = tt
end_fits (first_dot ps) = let k = plain_parts ps [] in (λ h. k.0 (h, none_plain), λ w. (k.1 w).0)
end_fits (ready ps ss) = plain_parts ps ss
end_fits (inside ps ss token) = last_fits (TokenFits ss token) ps ss (whole token) (whole_fits ss token)
end_fits (behind_part ps) = (λ h. h, λ h. h)

pub fit_end : (s : Place) (parts : Parts) → ended s ≡ Some parts → PlaceFits s ↔ ArePlain parts
fit_end s parts e = subst (EndFits (PlaceFits s)) e (end_fits s)
