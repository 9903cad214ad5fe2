-- A refusal is the fault of the text at the smallest column.
use Rattle.snap_select.proofs.Prelude.{◌≡◌, ℕ, suc, ℤ, ◌+◌, ◌≤◌, Bool, true, false, ◌⊎◌, inl, inr, List, [], ◌∷◌, ◌++◌, length, Option, Some, None, cond, refl, sym, ap, ◌∙◌, subst, append_assoc, append-nil, arith, length-append, eqb-true, and_parts, same_Some, is_digit, ◌==◌, ◌&&◌, IsNumeral, is_xid_start, unicode_ident, has_deep, IsStuck, BadTokenAt, Opens, IsTooLarge, first, second, TooLargeAt, DeepTwiceAt, FaultAt, IsFault, AreBlanks, signed, signed_value, IsSelector, Parts, Token, dot, star, bracket, number, behind_number, colon, to_number, Move, on, move, Place, before_part, inside, moved, step, ended, is_far, is_over, flaw_in, flaw, since_in, since, outcome, refuses, SelectFault, BadToken, DeepTwice, TooLarge, Segment}
use Rattle.snap_select.specs.Faults.{neither}
use Rattle.snap_select.proofs.Fitting.{Fitting, fitting_leads}
use Rattle.snap_select.proofs.Oversize.{far_unfit, unfit_far, over_unfit, over_far, unfit_over, is_large, counted_since, spills, colon_flaw, gap_since}
use Rattle.snap_select.proofs.Outcomes.{Stuck, Clear, Refused, by_stuck, by_flaw, why, selector_selects}
use Rattle.snap_select.proofs.Places.{Means, Opened}
use Rattle.snap_select.proofs.Starts.{leads_means, spelled_on, leads_begins, begins_leads, MayOpen, opens_leads}
use Rattle.snap_select.proofs.Tokens.{TokenMeans, OpenNumber, OpenRange, signed_more, numeral_more}
use Rattle.snap_select.proofs.Walks.{Leads, leads_on, leads_half, leads_as, leads_once, Spot, behind_bracket, behind_colon, opening, counting, tokens_lead, number_on, at_number, gap_leads, from_leads, along_blanks}

-- two cuts of one text
data Cuts (a b x y : List ℕ) : Type 0 where
  ahead : (m : List ℕ) → x ≡ a ++ m → b ≡ m ++ y → Cuts a b x y
  short : (c : ℕ) (m : List ℕ) → a ≡ x ++ c ∷ m → y ≡ c ∷ m ++ b → Cuts a b x y

cuts_more : (p q : ℕ) (a b x y : List ℕ) → p ≡ q → Cuts a b x y → Cuts (p ∷ a) b (q ∷ x) y
cuts_more p q a b x y e (ahead m k r) = ahead m (cc (e, k)) r
cuts_more p q a b x y e (short c m k r) = short c m (cc (e, k)) r

cuts : (a b x y : List ℕ) → a ++ b ≡ x ++ y → Cuts a b x y
cuts [] b x y e = ahead x refl e
cuts (p ∷ ps) b [] y e = short p ps refl (sym e)
cuts (p ∷ ps) b (q ∷ qs) y e = cuts_more p q ps b qs y (cc) (cuts ps b qs y (cc))

none_some : (A : Type 0) (o : Option A) (x : A) → o ≡ None → o ≡ Some x → ⊥
none_some A o x h k = cc

-- where a front of a text leads, the rest leads on from there
onward : (front other m : List ℕ) (z near : Place) → Leads (before_part []) front z → Leads (before_part []) other near → other ≡ front ++ m → Leads z m near
onward front other m z near h k e =
    let w = leads_half (before_part []) front m near (leads_as (before_part []) other (front ++ m) near e k) in
    subst (λ x. Leads x m near) (leads_once (before_part []) front w.0 z w.1 h) w.2

-- a front from which the text goes on isn't stuck
not_stuck : (front back whole m : List ℕ) (c : ℕ) (rest : List ℕ) (z : Place) → Leads (before_part []) whole z → whole ≡ front ++ c ∷ m → back ≡ c ∷ rest → IsStuck front back → ⊥
not_stuck front back whole m c rest z h e f k =
    let same = e ∙ sym (append_assoc front (c ∷ []) m) in
    let w = leads_half (before_part []) (front ++ c ∷ []) m z (leads_as (before_part []) whole ((front ++ c ∷ []) ++ m) z same h) in
    subst (IsStuck front) f k (leads_begins (front ++ c ∷ []) w.0 w.1)

-- the front of a text that is stuck is stuck by the definition too
stuck_so : (front back : List ℕ) (z : Place) → Leads (before_part []) front z → Stuck z back → IsStuck front back
stuck_so front [] z h k = λ parts spelled.
    let w = spelled_on front parts spelled in
    none_some Parts (ended z) parts k (subst (λ x. ended x ≡ Some parts) (leads_once (before_part []) front w.to z w.leads h) w.at.end)
stuck_so front (c ∷ cs) z h k = λ begins.
    let w = begins_leads (front ++ c ∷ []) begins in
    let v = onward front (front ++ c ∷ []) (c ∷ []) z w.0 h w.1 refl in
    none_some Place (step z c) v.0 k.0 v.1

-- from one character to the next, at most one more has been read of a number or a wildcard
abbrev move_since : Move → ℕ
move_since (on token) = since_in token
move_since _ = 0

abbrev place_since : Option Place → ℕ
place_since None = 0
place_since (Some z) = since z

token_since : (token : Token) (c : ℕ) → move_since (move token c) ≤ suc (since_in token)
token_since (number negative digits) c = grind (arith, length-append digits (c ∷ []))
token_since (to_number from negative digits) c = grind (arith, length-append digits (c ∷ []))
token_since _ c = grind arith

moved_since : (n : ℕ) (ps : Parts) (ss : List Segment) (c : ℕ) (m : Move) → move_since m ≤ suc n → place_since (moved ps ss c m) ≤ suc n
moved_since n ps ss c m h = grind arith

step_since : (s : Place) (c : ℕ) → place_since (step s c) ≤ suc (since s)
step_since (inside ps ss token) c = moved_since (since_in token) ps ss c (move token c) (token_since token c)
step_since _ c = grind arith

since_along : (s : Place) (m : List ℕ) (z : Place) → Leads s m z → since z ≤ since s + length m
since_along s [] z h = let e = ap since h in omega (arith, e)
since_along s (c ∷ cs) z h = let k = since_along h.0 cs z h.2 in let o = rw h.1 at (step_since s c) in omega (arith, k, o)

-- a flaw that the text leads to, however many there are before it
record Flawed (text : List ℕ) (kind : SelectFault) (place : ℕ) : Type 0 where
  front : List ℕ
  c : ℕ
  back : List ℕ
  near : Place
  is : text ≡ front ++ c ∷ back
  leads : Leads (before_part []) front near
  flawed : flaw near c ≡ Some kind
  at : place + since near ≡ length front + 1

-- groups of texts
regroup : (p s t a : List ℕ) → (p ++ (s ++ t)) ++ a ≡ (p ++ s) ++ (t ++ a)
regroup p s t a = simp append_assoc

-- a number that is too large, up to the digit that shows it
spilled : (text lead : List ℕ) (k : Spot) (negative : Bool) (digits after : List ℕ) (ps : Parts) (ss : List Segment) (place : ℕ) → text ≡ (lead ++ signed negative digits) ++ after
    → Leads (before_part []) lead (inside ps ss (opening k)) → IsNumeral 10 digits → is_large k negative digits ≡ true → place ≡ length lead + 1 → Flawed text TooLarge place
spilled text lead k negative digits after ps ss place is h n o at =
    let w = spills k negative digits n o in
    let near = inside ps ss (counting k negative w.near) in
    record {
      front = lead ++ signed negative w.near;
      c = w.c;
      back = w.more ++ after;
      near = near;
      is = is ∙ ap (λ z. (lead ++ z) ++ after) w.is ∙ regroup lead (signed negative w.near) (w.c ∷ w.more) after;
      leads = leads_on (before_part []) lead (signed negative w.near) (inside ps ss (opening k)) near h (tokens_lead ps ss (opening k) (signed negative w.near) (counting k negative w.near) (number_on k negative w.near w.numeral));
      flawed = w.flawed ps ss;
      at = omega (arith, at, counted_since k negative w.near, length-append lead (signed negative w.near));
    }

-- a number that the colon after it makes too large
colon_flawed : (text lead : List ℕ) (negative : Bool) (digits gap back after : List ℕ) (ps : Parts) (ss : List Segment) (place : ℕ) → text ≡ (lead ++ signed negative digits) ++ after → after ≡ gap ++ 58 ∷ back → AreBlanks gap
    → Leads (before_part []) lead (inside ps ss bracket) → IsNumeral 10 digits → is_far (signed_value negative digits) ≡ true → place ≡ length lead + 1 → Flawed text TooLarge place
colon_flawed text lead negative digits gap back after ps ss place is e b h k o at =
    let number = signed negative digits ++ gap in
    let near = inside ps ss (at_number negative digits gap) in
    record {
      front = lead ++ number;
      c = 58;
      back = back;
      near = near;
      is = is ∙ ap (λ z. (lead ++ signed negative digits) ++ z) e ∙ sym (regroup lead (signed negative digits) gap (58 ∷ back));
      leads = leads_on (before_part []) lead number (inside ps ss bracket) near h (gap_leads ps ss negative digits gap k b);
      flawed = colon_flaw ps ss negative digits gap true o;
      at = omega (arith, at, gap_since negative digits gap, length-append lead number, length-append (signed negative digits) gap);
    }

-- a number that is too large, as a flaw
large_flawed : (text : List ℕ) (place : ℕ) → TooLargeAt text place → Flawed text TooLarge place
large_flawed text place h = by_case h.large
  where
    m : MayOpen (before_part []) h.before h.opens.earlier h.segments
    m = opens_leads h.segments h.before h.opens

    at : place ≡ length (h.before ++ h.opening) + 1
    at = omega (arith, h.place, length-append h.before h.opening)

    led : (opening : List ℕ) (token : Token) → h.opening ≡ opening → Leads (before_part []) (h.before ++ opening) (inside h.opens.earlier h.segments token) → Leads (before_part []) (h.before ++ h.opening) (inside h.opens.earlier h.segments token)
    led opening token e l = subst (λ x. Leads (before_part []) (h.before ++ x) (inside h.opens.earlier h.segments token)) (sym e) l

    opened : (blanks : List ℕ) → AreBlanks blanks → Leads (before_part []) (h.before ++ 91 ∷ blanks) (inside h.opens.earlier h.segments bracket)
    opened blanks b =
        let z = inside h.opens.earlier h.segments bracket in leads_on (before_part []) h.before (91 ∷ blanks) m.to z m.leads (z, m.opened, along_blanks z blanks (λ c e. rw e refl) b)

    by_case : IsTooLarge h.opening h.negative h.digits h.after → Flawed text TooLarge place
    by_case (neither blanks e b i u) =
        spilled text (h.before ++ h.opening) behind_bracket h.negative h.digits h.after h.opens.earlier h.segments place h.is (led (91 ∷ blanks) bracket e (opened blanks b)) h.numeral (unfit_over h.negative h.digits i u) at
    by_case (first blanks gap back e b f g u) =
        colon_flawed text (h.before ++ h.opening) h.negative h.digits gap back h.after h.opens.earlier h.segments place h.is f g (led (91 ∷ blanks) bracket e (opened blanks b)) h.numeral (unfit_far (signed_value h.negative h.digits) u) at
    by_case (second blanks bound gap gap' from e b k g g' u) =
        let z = inside h.opens.earlier h.segments (colon from) in
        let other = 91 ∷ blanks ++ bound ++ gap ++ 58 ∷ gap' in
        spilled text (h.before ++ h.opening) (behind_colon from) h.negative h.digits h.after h.opens.earlier h.segments place h.is
        (led other (colon from) e (leads_as (before_part []) ((h.before ++ 91 ∷ blanks) ++ (bound ++ gap ++ 58 ∷ gap')) (h.before ++ other) z (simp append_assoc)
        (leads_on (before_part []) (h.before ++ 91 ∷ blanks) (bound ++ gap ++ 58 ∷ gap') (inside h.opens.earlier h.segments bracket) z
        (opened blanks b) (from_leads h.opens.earlier h.segments from bound gap gap' k g g'))))
        h.numeral (unfit_far (signed_value h.negative h.digits) u) at

star_leads : (before : List ℕ) (z : Place) (ps : Parts) (ss : List Segment) → Leads (before_part []) before z → step z 46 ≡ Some (inside ps ss dot) → Leads (before_part []) (before ++ 46 ∷ 42 ∷ []) (inside ps ss star)
unfolding unicode_ident is_xid_start
star_leads before z ps ss h e = leads_on (before_part []) before (46 ∷ 42 ∷ []) z (inside ps ss star) h (inside ps ss dot, e, (inside ps ss star, refl, refl))

deep_flawed : (text : List ℕ) (place : ℕ) → DeepTwiceAt text place → Flawed text DeepTwice place
deep_flawed text place h =
    let m = opens_leads h.segments h.before h.opens in
    record {
      front = h.before ++ 46 ∷ 42 ∷ [];
      c = 42;
      back = h.after;
      near = inside h.opens.earlier h.segments star;
      is = h.is ∙ sym (append_assoc h.before (46 ∷ 42 ∷ []) (42 ∷ h.after));
      leads = star_leads h.before m.to h.opens.earlier h.segments m.leads (m.dotted h.deep);
      flawed = rw (h.deep) refl;
      at = omega (arith, h.place, length-append h.before (46 ∷ 42 ∷ []));
    }

-- a flaw is a fault
some_flaw : (k : SelectFault) (b : Bool) (kind : SelectFault) → cond b (Some k) None ≡ Some kind → (b ≡ true) × (k ≡ kind)
some_flaw k true kind e = (refl, same_Some k kind e)
some_flaw k false kind e = absurd (cc)

some_large : (d o f : Bool) (kind : SelectFault) → cond d (cond o (Some TooLarge) None) (cond f (Some TooLarge) None) ≡ Some kind → (((d ≡ true) × (o ≡ true)) ⊎ (f ≡ true)) × (TooLarge ≡ kind)
some_large true o f kind e = let k = some_flaw TooLarge o kind e in (inl (refl, k.0), k.1)
some_large false o f kind e = let k = some_flaw TooLarge f kind e in (inr k.0, k.1)

opened_opens : (ps : Parts) (ss : List Segment) (piece text : List ℕ) (h : Opened ps ss piece text) → Opens ss (h.lead ++ h.body)
opened_opens ps ss piece text h =
    let k = h.between in record { earlier = ps; front = k.front; blanks = k.blanks; body = h.body; is = ap (λ x. x ++ h.body) k.is; commas = k.commas; blank = k.blank; stands = h.stands }

deep_here : (ps : Parts) (ss : List Segment) (piece near back text : List ℕ) (c column : ℕ) → Opened ps ss piece near → piece ≡ 46 ∷ 42 ∷ [] → (c == 42) && has_deep ss ≡ true → text ≡ near ++ c ∷ back
    → column + 2 ≡ length near + 1 → DeepTwiceAt text column
deep_here ps ss piece near back text c column h e f is at =
    let b = h.lead ++ h.body in
    let q = and_parts (c == 42) (has_deep ss) f in
    let whole : near ≡ b ++ 46 ∷ 42 ∷ [] = h.is ∙ ap (λ x. b ++ x) e in
    record {
      before = b;
      segments = ss;
      after = back;
      is = is ∙ ap (λ x. x ++ c ∷ back) whole ∙ append_assoc b (46 ∷ 42 ∷ []) (c ∷ back) ∙ ap (λ x. b ++ 46 ∷ 42 ∷ x ∷ back) (eqb-true c 42 q.0);
      place = omega (arith, at, ap length whole, length-append b (46 ∷ 42 ∷ []));
      opens = opened_opens ps ss piece near h;
      deep = q.1;
    }

-- a number that is too large, of which the tail of a piece has been read
number_here : (ps : Parts) (ss : List Segment) (opening tail piece near rest text : List ℕ) (negative : Bool) (digits after : List ℕ) (column : ℕ) → Opened ps ss piece near → piece ≡ opening ++ tail
    → tail ++ rest ≡ signed negative digits ++ after → text ≡ near ++ rest → column + length tail ≡ length near + 1 → IsNumeral 10 digits → IsTooLarge opening negative digits after → TooLargeAt text column
number_here ps ss opening tail piece near rest text negative digits after column h e f is at n large =
    let b = h.lead ++ h.body in
    let whole : near ≡ b ++ (opening ++ tail) = h.is ∙ ap (λ x. b ++ x) e in
    record {
      before = b;
      segments = ss;
      opening = opening;
      negative = negative;
      digits = digits;
      after = after;
      is = is ∙ ap (λ x. x ++ rest) whole ∙ regroup b opening tail rest ∙ ap (λ x. (b ++ opening) ++ x) f ∙ sym (append_assoc (b ++ opening) (signed negative digits) after);
      place = omega (arith, at, ap length whole, length-append b (opening ++ tail), length-append opening tail);
      opens = opened_opens ps ss piece near h;
      numeral = n;
      large = large;
    }

digit_moved : (negative : Bool) (digits : List ℕ) (c : ℕ) (back : List ℕ) → signed negative digits ++ c ∷ back ≡ signed negative (digits ++ c ∷ []) ++ back
digit_moved negative digits c back = sym (append_assoc (signed negative digits) (c ∷ []) back) ∙ ap (λ x. x ++ back) (signed_more negative digits (c ∷ []))

over_here : (ps : Parts) (ss : List Segment) (negative : Bool) (digits piece near back text : List ℕ) (c column : ℕ) → Opened ps ss piece near → OpenNumber negative digits [] piece → is_digit c 10 ≡ true
    → is_over negative (digits ++ c ∷ []) ≡ true → text ≡ near ++ c ∷ back → column + length (signed negative digits) ≡ length near + 1 → TooLargeAt text column
over_here ps ss negative digits piece near back text c column h n d o is at =
    let more = digits ++ c ∷ [] in
    number_here ps ss (91 ∷ n.blanks) (signed negative digits) piece near (c ∷ back) text negative more back column h (n.is ∙ append-nil (91 ∷ n.blanks ++ signed negative digits)) (digit_moved negative digits c back) is at
    (numeral_more digits c n.numeral.1 d) (neither n.blanks refl n.blank (over_unfit negative more o) (far_unfit (signed_value negative more) (over_far negative more o)))

colon_here : (ps : Parts) (ss : List Segment) (negative : Bool) (digits gap piece near back text : List ℕ) (c column : ℕ) → Opened ps ss piece near → OpenNumber negative digits gap piece
    → (c == 58) && is_far (signed_value negative digits) ≡ true → text ≡ near ++ c ∷ back → column + (length (signed negative digits) + length gap) ≡ length near + 1 → TooLargeAt text column
colon_here ps ss negative digits gap piece near back text c column h n f is at =
    let q = and_parts (c == 58) (is_far (signed_value negative digits)) f in
    let number = signed negative digits in
    number_here ps ss (91 ∷ n.blanks) (number ++ gap) piece near (c ∷ back) text negative digits (gap ++ c ∷ back) column h (n.is ∙ append_assoc (91 ∷ n.blanks) number gap) (append_assoc number gap (c ∷ back)) is
    (omega (arith, at, length-append number gap)) n.numeral
    (first n.blanks gap back refl n.blank (ap (λ x. gap ++ x ∷ back) (eqb-true c 58 q.0)) n.blank_gap (far_unfit (signed_value negative digits) q.1))

second_here : (ps : Parts) (ss : List Segment) (from : Option ℤ) (negative : Bool) (digits opened piece near back text : List ℕ) (c column : ℕ) → Opened ps ss piece near → OpenRange from opened → piece ≡ opened ++ signed negative digits
    → IsNumeral 10 digits → is_digit c 10 && is_far (signed_value negative (digits ++ c ∷ [])) ≡ true → text ≡ near ++ c ∷ back → column + length (signed negative digits) ≡ length near + 1 → TooLargeAt text column
second_here ps ss from negative digits opened piece near back text c column h r e n f is at =
    let more = digits ++ c ∷ [] in
    let q = and_parts (is_digit c 10) (is_far (signed_value negative more)) f in
    number_here ps ss opened (signed negative digits) piece near (c ∷ back) text negative more back column h e (digit_moved negative digits c back) is at (numeral_more digits c n.1 q.0)
    (second r.blanks r.bound r.gap r.more from r.is r.blank r.may r.blank_gap r.blank_more (far_unfit (signed_value negative more) q.1))

token_here : (ps : Parts) (ss : List Segment) (token : Token) (piece near back text : List ℕ) (c column : ℕ) (kind : SelectFault) → Opened ps ss piece near → TokenMeans token piece → flaw_in ss token c ≡ Some kind
    → text ≡ near ++ c ∷ back → column + since_in token ≡ length near + 1 → FaultAt text kind column
token_here ps ss star piece near back text c column kind h m f is at =
    let k = some_flaw DeepTwice ((c == 42) && has_deep ss) kind f in subst (λ x. FaultAt text x column) k.1 (deep_here ps ss piece near back text c column h m k.0 is at)
token_here ps ss (number negative digits) piece near back text c column kind h m f is at =
    let k = some_large (is_digit c 10) (is_over negative (digits ++ c ∷ [])) ((c == 58) && is_far (signed_value negative digits)) kind f in
    subst (λ x. FaultAt text x column) k.1 (elim k.0 [
      | inl p ↦ over_here ps ss negative digits piece near back text c column h m p.0 p.1 is at
      | inr g ↦ colon_here ps ss negative digits [] piece near back text c column h m g is (omega (arith, at))
    ])
token_here ps ss (behind_number negative digits gap) piece near back text c column kind h m f is at =
    let k = some_flaw TooLarge ((c == 58) && is_far (signed_value negative digits)) kind f in
    subst (λ x. FaultAt text x column) k.1 (colon_here ps ss negative digits m.0 piece near back text c column h m.1 k.0 is (omega (arith, at, m.2)))
token_here ps ss (to_number from negative digits) piece near back text c column kind h m f is at =
    let k = some_flaw TooLarge (is_digit c 10 && is_far (signed_value negative (digits ++ c ∷ []))) kind f in
    subst (λ x. FaultAt text x column) k.1 (second_here ps ss from negative digits m.0 piece near back text c column h m.1 m.2 m.3 k.0 is at)
token_here ps ss _ piece near back text c column kind h m f is at = absurd (cc)

flaw_here : (s : Place) (near back text : List ℕ) (c column : ℕ) (kind : SelectFault) → Means s near → flaw s c ≡ Some kind → text ≡ near ++ c ∷ back → column + since s ≡ length near + 1 → FaultAt text kind column
flaw_here (inside ps ss token) near back text c column kind m f is at = token_here ps ss token m.0 near back text c column kind m.1 m.2 f is at
flaw_here _ near back text c column kind m f is at = absurd (cc)

-- along a text without a flaw there is none
fitting_half : (s : Place) (a : List ℕ) (c : ℕ) (m : List ℕ) (z near : Place) → Fitting s (a ++ c ∷ m) z → Leads s a near → flaw near c ≡ None
fitting_half s [] c m z near h k = subst (λ x. flaw x c ≡ None) k h.2
fitting_half s (d ∷ ds) c m z near h k = fitting_half h.0 ds c m z near h.3 (subst (λ x. Leads x ds near) (sym (same_Some h.0 k.0 (sym h.1 ∙ k.1))) k.2)

-- where a text goes on without a flaw, none begins
unflawed : (other rest front m : List ℕ) (d : ℕ) (back : List ℕ) (c : ℕ) (kind : SelectFault) (z near : Place) → Fitting (before_part []) front z → Leads (before_part []) other near → flaw near c ≡ Some kind
    → front ≡ other ++ d ∷ m → c ∷ rest ≡ d ∷ m ++ back → ⊥
unflawed other rest front m d back c kind z near h k flawed e f =
    let same : d ≡ c = cc in
    let clear = fitting_half (before_part []) other d m z near (subst (λ x. Fitting (before_part []) x z) e h) k in
    none_some SelectFault (flaw near c) kind (subst (λ x. flaw near x ≡ None) same clear) flawed

-- after a front without a flaw, a flaw stands no earlier
flaw_later : (text : List ℕ) (h : Clear (before_part []) text) (kind : SelectFault) (place : ℕ) (k : Flawed text kind place)
    → (m : List ℕ) × (k.front ≡ h.front ++ m) × (h.back ≡ m ++ k.c ∷ k.back) × Leads h.near m k.near
flaw_later text h kind place k = elim (cuts h.front h.back k.front (k.c ∷ k.back) (sym h.is ∙ k.is)) [
  | ahead m e f ↦ (m, e, f, onward h.front k.front m h.near k.near (fitting_leads (before_part []) h.front h.near h.fitting) k.leads e)
  | short c m e f ↦ absurd (unflawed k.front k.back h.front m c h.back k.c kind h.near k.near h.fitting k.leads k.flawed e f)
]

-- and where the text is stuck, there is none
stuck_unflawed : (z near : Place) (back m : List ℕ) (c : ℕ) (rest : List ℕ) (kind : SelectFault) → Stuck z back → Leads z m near → back ≡ m ++ c ∷ rest → flaw near c ≡ Some kind → ⊥
stuck_unflawed z near back [] c rest kind s l f e = none_some SelectFault (flaw near c) kind (subst (λ x. flaw x c ≡ None) l (subst (Stuck z) f s).1) e
stuck_unflawed z near back (d ∷ ds) c rest kind s l f e = none_some Place (step z d) l.0 (subst (Stuck z) f s).0 l.1

-- nor does a token stand earlier with which nothing goes on
bad_later : (text front back : List ℕ) (z : Place) (place : ℕ) → Leads (before_part []) front z → text ≡ front ++ back → BadTokenAt text place → length front + 1 ≤ place
bad_later text front back z place leads is b = elim (cuts front back b.front b.back (sym is ∙ b.is)) [
  | ahead m e f ↦ omega (arith, ap length e, length-append front m, b.place)
  | short c m e f ↦ absurd (not_stuck b.front b.back front m c (m ++ back) z leads e f b.stuck)
]

any_flawed : (text : List ℕ) (kind : SelectFault) (place : ℕ) → FaultAt text kind place → BadTokenAt text place ⊎ Flawed text kind place
any_flawed text BadToken place h = inl h
any_flawed text DeepTwice place h = inr (deep_flawed text place h)
any_flawed text TooLarge place h = inr (large_flawed text place h)

refused_so : (text : List ℕ) (kind : SelectFault) (left : ℕ) → outcome (before_part []) text ≡ refuses kind left → (parts : Parts) → ¬ IsSelector text parts
refused_so text kind left h parts = λ k. let e = selector_selects text parts k in cc

stuck_first : (text : List ℕ) (h : Clear (before_part []) text) (column : ℕ) → Stuck h.near h.back → column ≡ length h.front + 1 → (other : SelectFault) (place : ℕ) → FaultAt text other place → column ≤ place
stuck_first text h column stuck at other place k = elim (any_flawed text other place k) [
  | inl b ↦ omega (arith, at, bad_later text h.front h.back h.near place (fitting_leads (before_part []) h.front h.near h.fitting) h.is b)
  | inr f ↦ absurd (let w = flaw_later text h other place f in stuck_unflawed h.near f.near h.back w.0 f.c f.back other stuck w.3 w.2 f.flawed)
]

flaw_first : (text : List ℕ) (h : Clear (before_part []) text) (column : ℕ) → column + since h.near ≡ length h.front + 1 → (other : SelectFault) (place : ℕ) → FaultAt text other place → column ≤ place
flaw_first text h column at other place k = elim (any_flawed text other place k) [
  | inl b ↦ omega (arith, at, bad_later text h.front h.back h.near place (fitting_leads (before_part []) h.front h.near h.fitting) h.is b)
  | inr f ↦ let w = flaw_later text h other place f in omega (arith, at, f.at, ap length w.1, length-append h.front w.0, since_along h.near w.0 f.near w.3)
]

-- every refusal, by what shows it
fault_why : (text : List ℕ) (kind : SelectFault) (left column : ℕ) → outcome (before_part []) text ≡ refuses kind left → column + left ≡ length text + 1 → Refused (before_part []) text kind left → IsFault text kind column
fault_why text kind left column o count (by_stuck h bad n stuck) =
    let leads = fitting_leads (before_part []) h.front h.near h.fitting in
    let at : column ≡ length h.front + 1 = omega (arith, n, ap length h.is, length-append h.front h.back, count) in
    let here : BadTokenAt text column =
    record { front = h.front; back = h.back; is = h.is; place = at; begins = leads_begins h.front h.near leads; stuck = stuck_so h.front h.back h.near leads stuck } in
    record { here = subst (λ x. FaultAt text x column) bad here; first = stuck_first text h column stuck at; refused = refused_so text kind left o }
fault_why text kind left column o count (by_flaw h c rest e n flawed) =
    let means = leads_means h.front h.near (fitting_leads (before_part []) h.front h.near h.fitting) in
    let is : text ≡ h.front ++ c ∷ rest = h.is ∙ ap (λ x. h.front ++ x) e in
    let at : column + since h.near ≡ length h.front + 1 = omega (arith, n, ap length is, length-append h.front (c ∷ rest), count) in
    record { here = flaw_here h.near h.front rest text c column kind means flawed is at; first = flaw_first text h column at; refused = refused_so text kind left o }

pub fault_of : (text : List ℕ) (kind : SelectFault) (left column : ℕ) → outcome (before_part []) text ≡ refuses kind left → column + left ≡ length text + 1 → IsFault text kind column
fault_of text kind left column h count = fault_why text kind left column h count (why (before_part []) text (refuses kind left) h)

-- from a fault on, no more is left than the text has
within_why : (text : List ℕ) (kind : SelectFault) (left : ℕ) → Refused (before_part []) text kind left → left ≤ length text
within_why text kind left (by_stuck h bad n k) = omega (arith, n, ap length h.is, length-append h.front h.back)
within_why text kind left (by_flaw h c rest e n f) =
    let k = since_along (before_part []) h.front h.near (fitting_leads (before_part []) h.front h.near h.fitting) in
    omega (arith, k, n, ap length h.is, ap length e, length-append h.front h.back)

pub left_within : (text : List ℕ) (kind : SelectFault) (left : ℕ) → outcome (before_part []) text ≡ refuses kind left → left ≤ length text
left_within text kind left h = within_why text kind left (why (before_part []) text (refuses kind left) h)
