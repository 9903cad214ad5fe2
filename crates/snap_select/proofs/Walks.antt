-- From place to place along a text: every spelled text leads to its parts.
use Rattle.snap_select.proofs.Prelude.{◌≡◌, ℕ, ℤ, suc, ◌+◌, ◌<◌, Bool, true, false, inl, inr, List, [], ◌∷◌, ◌++◌, length, Option, Some, None, refl, sym, ap, ◌∙◌, subst, append_assoc, append-nil, arith, eqb-true, ne_eqb, lt-ltb, and_parts, same_Some, is_digit, digit_value, list_all, IsTrue, ◌==◌, IsNumeral, AllDigits, digits_value, is_xid_start, is_xid_continue, unicode_ident, is_blank, AreBlanks, IsName, Quotes, InQuotes, dotted, bracketed, Bracketed, signed, signed_value, MayBound, unbounded, bounded, SpellsBounds, Spells, SpellsEach, Parts, dot, in_name, star, bracket, in_quotes, backslash, minus, number, behind_number, colon, to_minus, to_number, closing, Place, before_part, ready, inside, behind_part, step, ended, Segment, DeepWildcard, Wildcard, Key, Index, Range, Token, on, ends, move, moved}
use Rattle.snap_select.proofs.PieceFacts.{digit_no_minus, digit_apart}
use Rattle.snap_select.proofs.Tokens.{either}

abbrev pub Leads : Place → List ℕ → Place → Type 0
Leads s [] z = s ≡ z
Leads s (c ∷ cs) z = (to : Place) × (step s c ≡ Some to) × Leads to cs z

pub leads_on : (s : Place) (a b : List ℕ) (m z : Place) → Leads s a m → Leads m b z → Leads s (a ++ b) z
leads_on s [] b m z h k = subst (λ x. Leads x b z) (sym h) k
leads_on s (c ∷ cs) b m z h k = (h.0, h.1, leads_on h.0 cs b m z h.2 k)

pub leads_half : (s : Place) (a b : List ℕ) (z : Place) → Leads s (a ++ b) z → (m : Place) × Leads s a m × Leads m b z
leads_half s [] b z h = (s, refl, h)
leads_half s (c ∷ cs) b z h = let k = leads_half h.0 cs b z h.2 in (k.0, (h.0, h.1, k.1), k.2)

-- a text leads to one place
pub leads_once : (s : Place) (a : List ℕ) (y z : Place) → Leads s a y → Leads s a z → y ≡ z
leads_once s [] y z h k = sym h ∙ k
leads_once s (c ∷ cs) y z h k =
    leads_once k.0 cs y z (subst (λ x. Leads x cs y) (same_Some h.0 k.0 (sym h.1 ∙ k.1)) h.2) k.2

pub leads_as : (s : Place) (a b : List ℕ) (z : Place) → a ≡ b → Leads s a z → Leads s b z
leads_as s a b z e h = subst (λ x. Leads s x z) e h

-- inside one segment, from token to token along a text
abbrev pub Ons : Token → List ℕ → Token → Type 0
Ons s [] z = s ≡ z
Ons s (c ∷ cs) z = (to : Token) × (move s c ≡ on to) × Ons to cs z

pub tokens_lead : (ps : Parts) (ss : List Segment) (s : Token) (cs : List ℕ) (z : Token) → Ons s cs z → Leads (inside ps ss s) cs (inside ps ss z)
tokens_lead ps ss s [] z h = ap (inside ps ss) h
tokens_lead ps ss s (c ∷ cs) z h = (inside ps ss h.0, ap (moved ps ss c) h.1, tokens_lead ps ss h.0 cs z h.2)

-- what holds of a blank and of a tab
pub at_blank : (P : ℕ → Type 0) (c : ℕ) → is_blank c ≡ true → P 32 → P 9 → P c
at_blank P c h k m = either (c == 32) (P c) (λ e. subst P (sym (eqb-true c 32 e)) k) (λ e. subst P (sym (eqb-true c 9 (rw e at h))) m)

-- along blanks, where a blank changes nothing
pub along_blanks : (s : Place) (cs : List ℕ) → ((c : ℕ) → is_blank c ≡ true → step s c ≡ Some s) → AreBlanks cs → Leads s cs s
along_blanks s [] h k = refl
along_blanks s (c ∷ cs) h k = let q = and_parts (is_blank c) (list_all is_blank cs) k in (s, h c q.0, along_blanks s cs h q.1)

-- along a name, numerals, and what stands in quotes
pub in_name_on : (name cs : List ℕ) → IsTrue (list_all is_xid_continue cs) → Ons (in_name name) cs (in_name (name ++ cs))
in_name_on name [] h = ap in_name (sym (append-nil name))
in_name_on name (c ∷ cs) h =
    let q = and_parts (is_xid_continue c) (list_all is_xid_continue cs) h in
    (in_name (name ++ c ∷ []), rw q.0 refl, subst (λ x. Ons (in_name (name ++ c ∷ [])) cs (in_name x)) (append_assoc name (c ∷ []) cs) (in_name_on (name ++ c ∷ []) cs q.1))

pub name_on : (name : List ℕ) → IsName name → Ons dot name (in_name name)
name_on [] h = absurd h
name_on (c ∷ cs) h = (in_name (c ∷ []), rw h.0 refl, in_name_on (c ∷ []) cs h.1)

pub digit_is : (c : ℕ) → digit_value c < 10 → is_digit c 10 ≡ true
digit_is c h = lt-ltb (digit_value c) 10 h

pub no_blank : (c : ℕ) → digit_value c < 10 → is_blank c ≡ false
no_blank c h = let a = digit_apart c 32 h (λ k. omega arith) in let b = digit_apart c 9 h (λ k. omega arith) in rw (a, b) refl

-- where a number stands: after a bracket, or after the colon of a range from that bound
pub data Spot : Type 0 where
  behind_bracket : Spot
  behind_colon : Option ℤ → Spot

-- what has been read there, before a number and in one
abbrev pub opening : Spot → Token
opening behind_bracket = bracket
opening (behind_colon from) = colon from

abbrev pub counting : Spot → Bool → List ℕ → Token
counting behind_bracket = number
counting (behind_colon from) = to_number from

digit_on : (k : Spot) (negative : Bool) (digits : List ℕ) (c : ℕ) → digit_value c < 10 → move (counting k negative digits) c ≡ on (counting k negative (digits ++ c ∷ []))
digit_on k negative digits c h = grind (arith, digit_is c h)

digits_on : (k : Spot) (negative : Bool) (digits cs : List ℕ) → AllDigits 10 cs → Ons (counting k negative digits) cs (counting k negative (digits ++ cs))
digits_on k negative digits [] h = ap (counting k negative) (sym (append-nil digits))
digits_on k negative digits (c ∷ cs) h =
    let more = counting k negative (digits ++ c ∷ []) in
    (more, digit_on k negative digits c h.0, subst (λ x. Ons more cs (counting k negative x)) (append_assoc digits (c ∷ []) cs) (digits_on k negative (digits ++ c ∷ []) cs h.1))

-- the first digit, with a minus in front of it and without
first_on : (k : Spot) (negative : Bool) (c : ℕ) (cs : List ℕ) (z : Token) → digit_value c < 10 → Ons (counting k negative (c ∷ [])) cs z → Ons (opening k) (signed negative (c ∷ cs)) z
first_on behind_bracket true c cs z h k = (minus, refl, (number true (c ∷ []), rw (digit_is c h) refl, k))
first_on (behind_colon from) true c cs z h k = (to_minus from, refl, (to_number from true (c ∷ []), rw (digit_is c h) refl, k))
first_on behind_bracket false c cs z h k =
    let b = digit_apart c 34 h (λ k. omega arith) in (number false (c ∷ []), rw (no_blank c h, b, digit_no_minus c h, digit_is c h) refl, k)
first_on (behind_colon from) false c cs z h k = (to_number from false (c ∷ []), rw (no_blank c h, digit_no_minus c h, digit_is c h) refl, k)

pub number_on : (k : Spot) (negative : Bool) (digits : List ℕ) → IsNumeral 10 digits → Ons (opening k) (signed negative digits) (counting k negative digits)
number_on k negative [] h = absurd (omega (arith, h.0))
number_on k negative (c ∷ cs) h = first_on k negative c cs (counting k negative (c ∷ cs)) h.1.0 (digits_on k negative (c ∷ []) cs h.1.1)

quotes_on : (key cs text : List ℕ) → Quotes cs text → Ons (in_quotes key) text (in_quotes (key ++ cs))
quotes_on key [] text h = subst (λ x. Ons (in_quotes key) x (in_quotes (key ++ []))) (sym h) (ap in_quotes (sym (append-nil key)))
quotes_on key (c ∷ cs) text h =
    let more = in_quotes (key ++ c ∷ []) in
    let z = in_quotes (key ++ c ∷ cs) in
    let later = subst (λ x. Ons more h.0 (in_quotes x)) (append_assoc key (c ∷ []) cs) (quotes_on (key ++ c ∷ []) cs h.0 h.2) in
    elim h.1 [
      | inl p ↦ subst (λ x. Ons (in_quotes key) x z) (sym p.0) (more, rw (ne_eqb c 34 p.1, ne_eqb c 92 p.2) refl, later)
      | inr e ↦ subst (λ x. Ons (in_quotes key) x z) (sym e) (backslash key, refl, (more, refl, later))
    ]

-- a place where a part may end
pub record PartEnds (s : Place) (ps : Parts) : Type 0 where
  pub space : step s 32 ≡ Some (behind_part ps)
  pub tab : step s 9 ≡ Some (behind_part ps)
  pub comma : step s 44 ≡ Some (before_part ps)
  pub end : ended s ≡ Some ps

-- a place where the segments are whole
pub record AtEnd (s : Place) (ps : Parts) (ss : List Segment) : Type 0 where
  pub dotted : step s 46 ≡ Some (inside ps ss dot)
  pub opened : step s 91 ≡ Some (inside ps ss bracket)
  pub part : PartEnds s (ps ++ ss ∷ [])

pub at_ready : (ps : Parts) (ss : List Segment) → AtEnd (ready ps ss) ps ss
at_ready ps ss = record { dotted = refl; opened = refl; part = record { space = refl; tab = refl; comma = refl; end = refl } }

at_name : (ps : Parts) (ss : List Segment) (name : List ℕ) → AtEnd (inside ps ss (in_name name)) ps (ss ++ Key name ∷ [])
unfolding unicode_ident is_xid_continue
at_name ps ss name = record { dotted = refl; opened = refl; part = record { space = refl; tab = refl; comma = refl; end = refl } }

at_star : (ps : Parts) (ss : List Segment) → AtEnd (inside ps ss star) ps (ss ++ Wildcard ∷ [])
at_star ps ss = record { dotted = refl; opened = refl; part = record { space = refl; tab = refl; comma = refl; end = refl } }

-- a place to which the text leads, with the segments whole
pub record LeadsToEnd (s : Place) (text : List ℕ) (ps : Parts) (ss : List Segment) : Type 0 where
  pub to : Place
  pub leads : Leads s text to
  pub at : AtEnd to ps ss

star_step : (ps : Parts) (ss : List Segment) → step (inside ps ss dot) 42 ≡ Some (inside ps ss star)
unfolding unicode_ident is_xid_start
star_step ps ss = refl

wildcard_on : (s : Place) (ps : Parts) (ss : List Segment) → AtEnd s ps ss → LeadsToEnd s (46 ∷ 42 ∷ []) ps (ss ++ Wildcard ∷ [])
wildcard_on s ps ss h = record { to = inside ps ss star; leads = (inside ps ss dot, h.dotted, (inside ps ss star, star_step ps ss, refl)); at = at_star ps ss }

deep_on : (s : Place) (ps : Parts) (ss : List Segment) → AtEnd s ps ss → LeadsToEnd s (46 ∷ 42 ∷ 42 ∷ []) ps (ss ++ DeepWildcard ∷ [])
deep_on s ps ss h = record {
  to = ready ps (ss ++ DeepWildcard ∷ []);
  leads = (inside ps ss dot, h.dotted, (inside ps ss star, star_step ps ss, (ready ps (ss ++ DeepWildcard ∷ []), refl, refl)));
  at = at_ready ps (ss ++ DeepWildcard ∷ []);
}

key_dotted : (s : Place) (ps : Parts) (ss : List Segment) (key : List ℕ) → AtEnd s ps ss → IsName key → LeadsToEnd s (46 ∷ key) ps (ss ++ Key key ∷ [])
key_dotted s ps ss key h k = record { to = inside ps ss (in_name key); leads = (inside ps ss dot, h.dotted, tokens_lead ps ss dot key (in_name key) (name_on key k)); at = at_name ps ss key }

-- through brackets
pub bracket_blank : (ps : Parts) (ss : List Segment) (c : ℕ) → is_blank c ≡ true → step (inside ps ss bracket) c ≡ Some (inside ps ss bracket)
bracket_blank ps ss c h = rw h refl

colon_blank : (ps : Parts) (ss : List Segment) (from : Option ℤ) (c : ℕ) → is_blank c ≡ true → step (inside ps ss (colon from)) c ≡ Some (inside ps ss (colon from))
colon_blank ps ss from c h = rw h refl

closing_blank : (ps : Parts) (ss : List Segment) (segment : Segment) (c : ℕ) → is_blank c ≡ true → step (inside ps ss (closing segment)) c ≡ Some (inside ps ss (closing segment))
closing_blank ps ss segment c h = rw h refl

pub opens : (s : Place) (ps : Parts) (ss : List Segment) (blanks : List ℕ) → AtEnd s ps ss → AreBlanks blanks → Leads s (91 ∷ blanks) (inside ps ss bracket)
opens s ps ss blanks h b = (inside ps ss bracket, h.opened, along_blanks (inside ps ss bracket) blanks (bracket_blank ps ss) b)

closes : (ps : Parts) (ss : List Segment) (segment : Segment) (after : List ℕ) → AreBlanks after → Leads (inside ps ss (closing segment)) (after ++ 93 ∷ []) (ready ps (ss ++ segment ∷ []))
closes ps ss segment after b =
    leads_on (inside ps ss (closing segment)) after (93 ∷ []) (inside ps ss (closing segment)) (ready ps (ss ++ segment ∷ []))
    (along_blanks (inside ps ss (closing segment)) after (closing_blank ps ss segment) b) (ready ps (ss ++ segment ∷ []), refl, refl)

-- through brackets, from what leads from inside them to the end
through : (s : Place) (ps : Parts) (ss : List Segment) (segment : Segment) (before held after text : List ℕ) → AtEnd s ps ss → AreBlanks before
    → text ≡ 91 ∷ before ++ held ++ after ++ 93 ∷ [] → Leads (inside ps ss bracket) (held ++ (after ++ 93 ∷ [])) (ready ps (ss ++ segment ∷ [])) → LeadsToEnd s text ps (ss ++ segment ∷ [])
through s ps ss segment before held after text h b is k = record {
  to = ready ps (ss ++ segment ∷ []);
  leads = leads_as s ((91 ∷ before) ++ (held ++ (after ++ 93 ∷ []))) text (ready ps (ss ++ segment ∷ []))
      (sym (is ∙ append_assoc (91 ∷ before ++ held) after (93 ∷ []) ∙ append_assoc (91 ∷ before) held (after ++ 93 ∷ [])))
      (leads_on s (91 ∷ before) (held ++ (after ++ 93 ∷ [])) (inside ps ss bracket) (ready ps (ss ++ segment ∷ [])) (opens s ps ss before h b) k);
  at = at_ready ps (ss ++ segment ∷ []);
}

key_bracketed : (s : Place) (ps : Parts) (ss : List Segment) (key text : List ℕ) → AtEnd s ps ss → Bracketed (InQuotes key) text → LeadsToEnd s text ps (ss ++ Key key ∷ [])
key_bracketed s ps ss key text h k =
    let z = ready ps (ss ++ Key key ∷ []) in
    let held = k.holds in
    through s ps ss (Key key) k.before k.inside k.after text h k.blank_before k.is
    (leads_as (inside ps ss bracket) (((34 ∷ held.inside) ++ 34 ∷ []) ++ (k.after ++ 93 ∷ [])) (k.inside ++ (k.after ++ 93 ∷ [])) z (ap (λ x. x ++ (k.after ++ 93 ∷ [])) (sym held.is))
    (leads_on (inside ps ss bracket) ((34 ∷ held.inside) ++ 34 ∷ []) (k.after ++ 93 ∷ []) (inside ps ss (closing (Key key))) z
    (leads_on (inside ps ss bracket) (34 ∷ held.inside) (34 ∷ []) (inside ps ss (in_quotes key)) (inside ps ss (closing (Key key)))
    (inside ps ss (in_quotes []), refl, tokens_lead ps ss (in_quotes []) held.inside (in_quotes key) (quotes_on [] key held.inside held.quotes)) (inside ps ss (closing (Key key)), refl, refl))
    (closes ps ss (Key key) k.after k.blank_after)))

-- after a number, along blanks
gap_on : (negative : Bool) (digits : List ℕ) (count : ℕ) (gap : List ℕ) → AreBlanks gap → (total : ℕ) → total ≡ count + length gap → Ons (behind_number negative digits count) gap (behind_number negative digits total)
gap_on negative digits count [] b total e = ap (behind_number negative digits) (sym (e ∙ omega arith))
gap_on negative digits count (c ∷ cs) b total e =
    let q = and_parts (is_blank c) (list_all is_blank cs) b in (behind_number negative digits (suc count), rw q.0 refl, gap_on negative digits (suc count) cs q.1 total (omega (arith, e)))

-- where a number has been read, with blanks after it or without
unfoldable pub at_number : Bool → List ℕ → List ℕ → Token
at_number negative digits [] = number negative digits
at_number negative digits (c ∷ cs) = behind_number negative digits (length (c ∷ cs))

pub gap_behind : (negative : Bool) (digits gap : List ℕ) → AreBlanks gap → Ons (number negative digits) gap (at_number negative digits gap)
unfolding at_number
gap_behind negative digits [] b = refl
gap_behind negative digits (c ∷ cs) b =
    let q = and_parts (is_blank c) (list_all is_blank cs) b in
    let behind = behind_number negative digits 1 in
    (behind, at_blank (λ x. move (number negative digits) x ≡ on behind) c q.0 refl refl, gap_on negative digits 1 cs q.1 (length (c ∷ cs)) (omega arith))

pub colon_move : (negative : Bool) (digits gap : List ℕ) → move (at_number negative digits gap) 58 ≡ on (colon (Some (signed_value negative digits)))
unfolding at_number
colon_move negative digits gap = grind arith

index_move : (digits gap : List ℕ) → move (at_number false digits gap) 93 ≡ ends (Index (digits_value 10 digits))
unfolding at_number
index_move digits gap = grind arith

pub gap_leads : (ps : Parts) (ss : List Segment) (negative : Bool) (digits gap : List ℕ) → IsNumeral 10 digits → AreBlanks gap
    → Leads (inside ps ss bracket) (signed negative digits ++ gap) (inside ps ss (at_number negative digits gap))
gap_leads ps ss negative digits gap h b =
    leads_on (inside ps ss bracket) (signed negative digits) gap (inside ps ss (number negative digits)) (inside ps ss (at_number negative digits gap))
    (tokens_lead ps ss bracket (signed negative digits) (number negative digits) (number_on behind_bracket negative digits h))
    (tokens_lead ps ss (number negative digits) gap (at_number negative digits gap) (gap_behind negative digits gap b))

index_on : (s : Place) (ps : Parts) (ss : List Segment) (digits before after text : List ℕ) → AtEnd s ps ss → AreBlanks before → AreBlanks after → IsNumeral 10 digits
    → text ≡ 91 ∷ before ++ digits ++ after ++ 93 ∷ [] → LeadsToEnd s text ps (ss ++ Index (digits_value 10 digits) ∷ [])
index_on s ps ss digits before after text h b b' k is =
    let z = ready ps (ss ++ Index (digits_value 10 digits) ∷ []) in
    through s ps ss (Index (digits_value 10 digits)) before digits after text h b is
    (leads_as (inside ps ss bracket) ((digits ++ after) ++ 93 ∷ []) (digits ++ (after ++ 93 ∷ [])) z (append_assoc digits after (93 ∷ []))
    (leads_on (inside ps ss bracket) (digits ++ after) (93 ∷ []) (inside ps ss (at_number false digits after)) z (gap_leads ps ss false digits after k b') (z, ap (moved ps ss 93) (index_move digits after), refl)))

-- up to after a colon
pub from_leads : (ps : Parts) (ss : List Segment) (from : Option ℤ) (bound gap more : List ℕ) → MayBound from bound → AreBlanks gap → AreBlanks more
    → Leads (inside ps ss bracket) (bound ++ gap ++ 58 ∷ more) (inside ps ss (colon from))
from_leads ps ss None bound gap more k b b' =
    let z = inside ps ss (colon None) in
    rw k (leads_on (inside ps ss bracket) gap (58 ∷ more) (inside ps ss bracket) z (along_blanks (inside ps ss bracket) gap (bracket_blank ps ss) b) (z, refl, along_blanks z more (colon_blank ps ss None) b'))
from_leads ps ss (Some v) bound gap more k b b' =
    let z = inside ps ss (colon (Some (signed_value k.negative k.digits))) in
    let m = at_number k.negative k.digits gap in
    rw (k.is, ← (k.value))
    (leads_on (inside ps ss bracket) (signed k.negative k.digits ++ gap) (58 ∷ more) (inside ps ss m) z (gap_leads ps ss k.negative k.digits gap k.numeral b)
    (z, ap (moved ps ss 58) (colon_move k.negative k.digits gap), along_blanks z more (colon_blank ps ss (Some (signed_value k.negative k.digits))) b'))

-- the second bound, and the end
to_end : (ps : Parts) (ss : List Segment) (from to : Option ℤ) (second after : List ℕ) → MayBound to second → AreBlanks after
    → Leads (inside ps ss (colon from)) (second ++ (after ++ 93 ∷ [])) (ready ps (ss ++ Range from to ∷ []))
to_end ps ss from None second after k b =
    let z = ready ps (ss ++ Range from None ∷ []) in
    rw k (leads_on (inside ps ss (colon from)) after (93 ∷ []) (inside ps ss (colon from)) z (along_blanks (inside ps ss (colon from)) after (colon_blank ps ss from) b) (z, refl, refl))
to_end ps ss from (Some v) second after k b =
    let z = ready ps (ss ++ Range from (Some (signed_value k.negative k.digits)) ∷ []) in
    rw (k.is, ← (k.value))
    (leads_on (inside ps ss (colon from)) (signed k.negative k.digits) (after ++ 93 ∷ []) (inside ps ss (to_number from k.negative k.digits)) z
    (tokens_lead ps ss (colon from) (signed k.negative k.digits) (to_number from k.negative k.digits) (number_on (behind_colon from) k.negative k.digits k.numeral)) (shut after b))
  where
    segment : Segment
    segment = Range from (Some (signed_value k.negative k.digits))

    shut : (after : List ℕ) → AreBlanks after → Leads (inside ps ss (to_number from k.negative k.digits)) (after ++ 93 ∷ []) (ready ps (ss ++ segment ∷ []))
    shut [] b = (ready ps (ss ++ segment ∷ []), refl, refl)
    shut (c ∷ cs) b =
        let q = and_parts (is_blank c) (list_all is_blank cs) b in
        (inside ps ss (closing segment), at_blank (λ x. step (inside ps ss (to_number from k.negative k.digits)) x ≡ Some (inside ps ss (closing segment))) c q.0 refl refl, closes ps ss segment cs q.1)

range_on : (s : Place) (ps : Parts) (ss : List Segment) (from to : Option ℤ) (before held after text : List ℕ) → AtEnd s ps ss → AreBlanks before → AreBlanks after
    → text ≡ 91 ∷ before ++ held ++ after ++ 93 ∷ [] → SpellsBounds from to held → LeadsToEnd s text ps (ss ++ Range from to ∷ [])
range_on s ps ss from to before held after text h b b' is (unbounded none e f) =
    let z = ready ps (ss ++ Range None None ∷ []) in
    rw (e, f) (through s ps ss (Range None None) before held after text h b is
    (rw none (leads_on (inside ps ss bracket) after (93 ∷ []) (inside ps ss bracket) z (along_blanks (inside ps ss bracket) after (bracket_blank ps ss) b') (z, refl, refl))))
range_on s ps ss from to before held after text h b b' is (bounded first gap more second e k g g' m) =
    let z = ready ps (ss ++ Range from to ∷ []) in
    through s ps ss (Range from to) before held after text h b is
    (leads_as (inside ps ss bracket) ((first ++ gap ++ 58 ∷ more) ++ (second ++ (after ++ 93 ∷ []))) (held ++ (after ++ 93 ∷ [])) z
    (sym (ap (λ x. x ++ (after ++ 93 ∷ [])) e ∙ append_assoc (first ++ gap ++ 58 ∷ more) second (after ++ 93 ∷ [])))
    (leads_on (inside ps ss bracket) (first ++ gap ++ 58 ∷ more) (second ++ (after ++ 93 ∷ [])) (inside ps ss (colon from)) z (from_leads ps ss from first gap more k g g') (to_end ps ss from to second after m b')))

along : (s : Place) (text same : List ℕ) (ps : Parts) (ss : List Segment) → text ≡ same → LeadsToEnd s same ps ss → LeadsToEnd s text ps ss
along s text same ps ss e h = subst (λ x. LeadsToEnd s x ps ss) (sym e) h

segment_on : (s : Place) (ps : Parts) (ss : List Segment) (seg : Segment) (text : List ℕ) → AtEnd s ps ss → Spells seg text → LeadsToEnd s text ps (ss ++ seg ∷ [])
segment_on s ps ss (Key key) text h (dotted is name) = along s text (46 ∷ key) ps (ss ++ Key key ∷ []) is (key_dotted s ps ss key h name)
segment_on s ps ss (Key key) text h (bracketed k) = key_bracketed s ps ss key text h k
segment_on s ps ss (Index index) text h k =
    subst (λ x. LeadsToEnd s text ps (ss ++ Index x ∷ [])) k.holds.1 (index_on s ps ss k.inside k.before k.after text h k.blank_before k.blank_after k.holds.0 k.is)
segment_on s ps ss DeepWildcard text h k = along s text (46 ∷ 42 ∷ 42 ∷ []) ps (ss ++ DeepWildcard ∷ []) k (deep_on s ps ss h)
segment_on s ps ss Wildcard text h k = along s text (46 ∷ 42 ∷ []) ps (ss ++ Wildcard ∷ []) k (wildcard_on s ps ss h)
segment_on s ps ss (Range from to) text h k = range_on s ps ss from to k.before k.inside k.after text h k.blank_before k.blank_after k.is k.holds

pub each_on : (s : Place) (ps : Parts) (xs ss : List Segment) (text : List ℕ) → AtEnd s ps xs → SpellsEach ss text → LeadsToEnd s text ps (xs ++ ss)
each_on s ps xs [] text h k = along s text [] ps (xs ++ []) k (record { to = s; leads = refl; at = subst (AtEnd s ps) (sym (append-nil xs)) h })
each_on s ps xs (y ∷ ys) text h k =
    let one = segment_on s ps xs y k.front h k.first in
    let others = each_on one.to ps (xs ++ y ∷ []) ys k.back one.at k.second in
    along s text (k.front ++ k.back) ps (xs ++ y ∷ ys) k.is (record {
      to = others.to;
      leads = leads_on s k.front k.back one.to others.to one.leads others.leads;
      at = subst (AtEnd others.to ps) (append_assoc xs (y ∷ []) ys) others.at;
    })
