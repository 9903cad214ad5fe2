-- From the start: the texts that lead somewhere are the beginnings of selectors.
use Rattle.snap_select.proofs.Prelude.{◌≡◌, ◌≢◌, ℕ, true, inl, inr, List, [], ◌∷◌, ◌++◌, Some, None, refl, sym, ap, ◌∙◌, subst, append_assoc, append-nil, and_parts, same_Some, list_all, is_xid_start, is_xid_continue, unicode_ident, has_deep, Begins, Opens, is_blank, AreBlanks, IsName, dotted, bracketed, signed_value, Spells, SpellsEach, MayFollowDot, Stands, SpellsPart, BeforeComma, EachBeforeComma, IsSpelled, Parts, Token, dot, in_name, star, bracket, in_quotes, backslash, minus, number, behind_number, colon, to_minus, to_number, closing, Place, before_part, first_dot, ready, inside, behind_part, step, ended, Segment, DeepWildcard, Wildcard, Key, Index, Range, ℤ, Option, on, ends, move, moved}
use Rattle.snap_select.proofs.Places.{Means, kept, end_kept}
use Rattle.snap_select.proofs.Walks.{Leads, leads_on, leads_half, leads_as, along_blanks, at_blank, PartEnds, AtEnd, at_ready, each_on}

-- each step along a text keeps what the places mean
leads_kept : (s : Place) (t a : List ℕ) (z : Place) → Means s t → Leads s a z → Means z (t ++ a)
leads_kept s t [] z h k = rw append-nil (subst (λ x. Means x t) k h)
leads_kept s t (c ∷ cs) z h k = subst (Means z) (append_assoc t (c ∷ []) cs) (leads_kept k.0 (t ++ c ∷ []) cs z (kept s t c k.0 h k.1) k.2)

pub starts : Means (before_part []) []
starts = record { front = []; blanks = []; is = refl; commas = refl; blank = refl }

pub leads_means : (t : List ℕ) (z : Place) → Leads (before_part []) t z → Means z t
leads_means t z h = leads_kept (before_part []) [] t z starts h

-- how the text of segments begins: with a bracket, or with a dot and what a part may begin with after a dot
data Shape (text : List ℕ) : Type 0 where
  by_bracket : (r : List ℕ) → text ≡ 91 ∷ r → Shape text
  by_dot : (c : ℕ) (r : List ℕ) → text ≡ 46 ∷ c ∷ r → ((ps : Parts) → step (inside ps [] dot) c ≡ step (first_dot ps) c) → Shape text

name_shape : (key text : List ℕ) → text ≡ 46 ∷ key → IsName key → Shape text
name_shape [] text is name = absurd name
name_shape (c ∷ cs) text is name = by_dot c cs is (λ ps. rw name.0 refl)

star_same : (ps : Parts) → step (inside ps [] dot) 42 ≡ step (first_dot ps) 42
unfolding unicode_ident is_xid_start
star_same ps = refl

segment_shape : (seg : Segment) (text : List ℕ) → Spells seg text → Shape text
segment_shape (Key key) text (dotted is name) = name_shape key text is name
segment_shape (Key key) text (bracketed k) = by_bracket (k.before ++ k.inside ++ k.after ++ 93 ∷ []) k.is
segment_shape (Index index) text k = by_bracket (k.before ++ k.inside ++ k.after ++ 93 ∷ []) k.is
segment_shape DeepWildcard text h = by_dot 42 (42 ∷ []) h star_same
segment_shape Wildcard text h = by_dot 42 [] h star_same
segment_shape (Range from to) text k = by_bracket (k.before ++ k.inside ++ k.after ++ 93 ∷ []) k.is

shape_more : (text front back : List ℕ) → text ≡ front ++ back → Shape front → Shape text
shape_more text front back h (by_bracket r is) = by_bracket (r ++ back) (h ∙ ap (λ x. x ++ back) is)
shape_more text front back h (by_dot c r is same) = by_dot c (r ++ back) (h ∙ ap (λ x. x ++ back) is) same

each_shape : (y : Segment) (ys : List Segment) (text : List ℕ) → SpellsEach (y ∷ ys) text → Shape text
each_shape y ys text h = shape_more text h.front h.back h.is (segment_shape y h.front h.first)

no_shape : Shape [] → ⊥
no_shape (by_bracket r is) = cc
no_shape (by_dot c r is same) = cc

behind_dot : (ps : Parts) (c : ℕ) (r : List ℕ) (z : Place) → step (inside ps [] dot) c ≡ step (first_dot ps) c → Leads (ready ps []) (46 ∷ c ∷ r) z → Leads (before_part ps) (46 ∷ c ∷ r) z
behind_dot ps c r z e h = (first_dot ps, refl, (h.2.0, sym e ∙ subst (λ x. step x c ≡ Some h.2.0) (sym (same_Some (inside ps [] dot) h.0 h.1)) h.2.1, h.2.2))

by_first : (ps : Parts) (text : List ℕ) (z : Place) → Shape text → Leads (ready ps []) text z → Leads (before_part ps) text z
by_first ps text z (by_bracket r is) h = rw is (rw is at h)
by_first ps text z (by_dot c r is same) h = rw is (behind_dot ps c r z (same ps) (rw is at h))

-- after a first dot a bracket leads on as at the start
led_first : (ps : Parts) (c : ℕ) (r : List ℕ) (z : Place) → c ≡ 91 → Leads (ready ps []) (c ∷ r) z → Leads (before_part ps) (46 ∷ c ∷ r) z
unfolding unicode_ident is_xid_start
led_first ps c r z e h = rw e (first_dot ps, refl, rw e at h)

dot_ends : (ps : Parts) → PartEnds (first_dot ps) (ps ++ [] ∷ [])
unfolding unicode_ident is_xid_start
dot_ends ps = record { space = refl; tab = refl; comma = refl; end = refl }

behind_ends : (ps : Parts) → PartEnds (behind_part ps) ps
behind_ends ps = record { space = refl; tab = refl; comma = refl; end = refl }

-- where the text of segments leads: to a place where they are whole, to a lone dot, or nowhere
data Led (ps : Parts) (ss : List Segment) (text : List ℕ) : Type 0 where
  to_end : (to : Place) → Leads (before_part ps) text to → AtEnd to ps ss → Led ps ss text
  to_dot : text ≡ 46 ∷ [] → ss ≡ [] → Led ps ss text
  at_start : text ≡ [] → ss ≡ [] → Led ps ss text

-- without a dot in front, and with one in front of a bracket or alone
plain_led : (ps : Parts) (ss : List Segment) (body : List ℕ) → SpellsEach ss body → Led ps ss body
plain_led ps [] body h = at_start h refl
plain_led ps (y ∷ ys) body h =
    let k = each_on (ready ps []) ps [] (y ∷ ys) body (at_ready ps []) h in to_end k.to (by_first ps body k.to (each_shape y ys body h) k.leads) k.at

dotted_led : (ps : Parts) (ss : List Segment) (body : List ℕ) → SpellsEach ss body → MayFollowDot body → Led ps ss (46 ∷ body)
dotted_led ps [] [] h k = to_dot refl refl
dotted_led ps (y ∷ ys) [] h k = absurd (no_shape (each_shape y ys [] h))
dotted_led ps ss (c ∷ cs) h k = let e = each_on (ready ps []) ps [] ss (c ∷ cs) (at_ready ps []) h in to_end e.to (led_first ps c cs e.to k e.leads) e.at

stands_led : (ps : Parts) (ss : List Segment) (text : List ℕ) → Stands ss text → Led ps ss text
stands_led ps ss text h = elim h.led [ inl e ↦ rw e (plain_led ps ss h.body h.each) | inr p ↦ rw (p.0) (dotted_led ps ss h.body h.each p.1) ]

-- where a part's text leads
pub record ToPart (s : Place) (text : List ℕ) (ps : Parts) : Type 0 where
  pub to : Place
  pub leads : Leads s text to
  pub at : PartEnds to ps

stands_part : (ps : Parts) (ss : List Segment) (text : List ℕ) → Led ps ss text → text ≢ [] → ToPart (before_part ps) text (ps ++ ss ∷ [])
stands_part ps ss text (to_end to h k) n = record { to = to; leads = h; at = k.part }
stands_part ps ss text (to_dot e f) n = rw (e, f) (record { to = first_dot ps; leads = (first_dot ps, refl, refl); at = dot_ends ps })
stands_part ps ss text (at_start e f) n = absurd (n e)

-- blanks after a part
trail : (s : Place) (ps : Parts) (after : List ℕ) → PartEnds s ps → AreBlanks after → ToPart s after ps
trail s ps [] h b = record { to = s; leads = refl; at = h }
trail s ps (c ∷ cs) h b =
    let q = and_parts (is_blank c) (list_all is_blank cs) b in
    let near = at_blank (λ x. step s x ≡ Some (behind_part ps)) c q.0 h.space h.tab in
    record { to = behind_part ps; leads = (behind_part ps, near, along_blanks (behind_part ps) cs (λ d e. rw e refl) q.1); at = behind_ends ps }

start_blank : (ps : Parts) (c : ℕ) → is_blank c ≡ true → step (before_part ps) c ≡ Some (before_part ps)
start_blank ps c h = rw h refl

pub part_on : (ps : Parts) (ss : List Segment) (text : List ℕ) → SpellsPart ss text → ToPart (before_part ps) text (ps ++ ss ∷ [])
part_on ps ss text h =
    let k = stands_part ps ss h.inside (stands_led ps ss h.inside h.stands) h.filled in
    let m = trail k.to (ps ++ ss ∷ []) h.after k.at h.blank_after in
    record {
      to = m.to;
      leads = leads_as (before_part ps) ((h.before ++ h.inside) ++ h.after) text m.to (sym h.is)
          (leads_on (before_part ps) (h.before ++ h.inside) h.after k.to m.to
          (leads_on (before_part ps) h.before h.inside (before_part ps) k.to (along_blanks (before_part ps) h.before (start_blank ps) h.blank_before) k.leads) m.leads);
      at = m.at;
    }

comma_on : (ps : Parts) (ss : List Segment) (text : List ℕ) → BeforeComma ss text → Leads (before_part ps) text (before_part (ps ++ ss ∷ []))
comma_on ps ss text h =
    let k = part_on ps ss h.part h.spelled in
    let z = before_part (ps ++ ss ∷ []) in
    leads_as (before_part ps) (h.part ++ 44 ∷ []) text z (sym h.is) (leads_on (before_part ps) h.part (44 ∷ []) k.to z k.leads (z, k.at.comma, refl))

pub commas_on : (ps earlier : Parts) (text : List ℕ) → EachBeforeComma earlier text → Leads (before_part ps) text (before_part (ps ++ earlier))
commas_on ps [] text h = leads_as (before_part ps) [] text (before_part (ps ++ [])) (sym h) (ap (λ x. before_part x) (sym (append-nil ps)))
commas_on ps (q ∷ qs) text h =
    let z = before_part ((ps ++ q ∷ []) ++ qs) in
    subst (λ x. Leads (before_part ps) text (before_part x)) (append_assoc ps (q ∷ []) qs)
    (leads_as (before_part ps) (h.front ++ h.back) text z (sym h.is)
    (leads_on (before_part ps) h.front h.back (before_part (ps ++ q ∷ [])) z (comma_on ps q h.front h.first) (commas_on (ps ++ q ∷ []) qs h.back h.second)))

-- every spelled text leads to its parts
pub spelled_on : (text : List ℕ) (parts : Parts) → IsSpelled text parts → ToPart (before_part []) text parts
spelled_on text parts h =
    let k = part_on h.earlier h.last h.spelled.back h.spelled.second in
    subst (ToPart (before_part []) text) (sym h.are) (record {
      to = k.to;
      leads = leads_as (before_part []) (h.spelled.front ++ h.spelled.back) text k.to (sym h.spelled.is)
          (leads_on (before_part []) h.spelled.front h.spelled.back (before_part h.earlier) k.to (commas_on [] h.earlier h.spelled.front h.spelled.first) k.leads);
      at = k.at;
    })

-- every place leads to an end
pub record Live (s : Place) : Type 0 where
  pub rest : List ℕ
  pub to : Place
  pub parts : Parts
  pub leads : Leads s rest to
  pub end : ended to ≡ Some parts

-- a place where the text may end, one after a character, and one in front of a closing bracket
end_live : (s : Place) (parts : Parts) → ended s ≡ Some parts → Live s
end_live s parts e = record { rest = []; to = s; parts = parts; leads = refl; end = e }

on_live : (s : Place) (c : ℕ) (z : Place) → step s c ≡ Some z → Live z → Live s
on_live s c z e k = record { rest = c ∷ k.rest; to = k.to; parts = k.parts; leads = (z, e, k.leads); end = k.end }

shut_live : (ps : Parts) (ss : List Segment) (token : Token) (segment : Segment) → move token 93 ≡ ends segment → Live (inside ps ss token)
shut_live ps ss token segment e = on_live (inside ps ss token) 93 (ready ps (ss ++ segment ∷ [])) (ap (moved ps ss 93) e) (end_live (ready ps (ss ++ segment ∷ [])) (ps ++ (ss ++ segment ∷ []) ∷ []) refl)

quotes_live : (ps : Parts) (ss : List Segment) (key : List ℕ) → Live (inside ps ss (in_quotes key))
quotes_live ps ss key = on_live (inside ps ss (in_quotes key)) 34 (inside ps ss (closing (Key key))) refl (shut_live ps ss (closing (Key key)) (Key key) refl)

bound_live : (ps : Parts) (ss : List Segment) (token : Token) (from : Option ℤ) → move token 58 ≡ on (colon from) → Live (inside ps ss token)
bound_live ps ss token from e = on_live (inside ps ss token) 58 (inside ps ss (colon from)) (ap (moved ps ss 58) e) (shut_live ps ss (colon from) (Range from None) refl)

live_token : (ps : Parts) (ss : List Segment) (token : Token) → Live (inside ps ss token)
unfolding unicode_ident is_xid_start is_xid_continue
live_token ps ss dot = on_live (inside ps ss dot) 42 (inside ps ss star) refl (end_live (inside ps ss star) (ps ++ (ss ++ Wildcard ∷ []) ∷ []) refl)
live_token ps ss (in_name name) = end_live (inside ps ss (in_name name)) (ps ++ (ss ++ Key name ∷ []) ∷ []) refl
live_token ps ss star = end_live (inside ps ss star) (ps ++ (ss ++ Wildcard ∷ []) ∷ []) refl
live_token ps ss bracket = shut_live ps ss bracket (Range None None) refl
live_token ps ss (in_quotes key) = quotes_live ps ss key
live_token ps ss (backslash key) = on_live (inside ps ss (backslash key)) 34 (inside ps ss (in_quotes (key ++ 34 ∷ []))) refl (quotes_live ps ss (key ++ 34 ∷ []))
live_token ps ss minus =
    let nought = number true (48 ∷ []) in on_live (inside ps ss minus) 48 (inside ps ss nought) refl (bound_live ps ss nought (Some (signed_value true (48 ∷ []))) refl)
live_token ps ss (number negative digits) = bound_live ps ss (number negative digits) (Some (signed_value negative digits)) refl
live_token ps ss (behind_number negative digits gap) = bound_live ps ss (behind_number negative digits gap) (Some (signed_value negative digits)) refl
live_token ps ss (colon from) = shut_live ps ss (colon from) (Range from None) refl
live_token ps ss (to_minus from) =
    let nought = to_number from true (48 ∷ []) in on_live (inside ps ss (to_minus from)) 48 (inside ps ss nought) refl (shut_live ps ss nought (Range from (Some (signed_value true (48 ∷ [])))) refl)
live_token ps ss (to_number from negative digits) = shut_live ps ss (to_number from negative digits) (Range from (Some (signed_value negative digits))) refl
live_token ps ss (closing segment) = shut_live ps ss (closing segment) segment refl

pub live : (s : Place) → Live s
live (before_part ps) = on_live (before_part ps) 46 (first_dot ps) refl (end_live (first_dot ps) (ps ++ [] ∷ []) refl)
live (first_dot ps) = end_live (first_dot ps) (ps ++ [] ∷ []) refl
live (ready ps ss) = end_live (ready ps ss) (ps ++ ss ∷ []) refl
live (inside ps ss token) = live_token ps ss token
live (behind_part ps) = end_live (behind_part ps) ps refl

pub leads_begins : (t : List ℕ) (z : Place) → Leads (before_part []) t z → Begins t
leads_begins t z h =
    let k = live z in
    record { rest = k.rest; parts = k.parts; spelled = end_kept k.to (t ++ k.rest) k.parts (leads_means (t ++ k.rest) k.to (leads_on (before_part []) t k.rest z k.to h k.leads)) k.end }

pub begins_leads : (t : List ℕ) → Begins t → (z : Place) × Leads (before_part []) t z
begins_leads t h = let k = spelled_on (t ++ h.rest) h.parts h.spelled in let w = leads_half (before_part []) t h.rest k.to k.leads in (w.0, w.1)

-- a place where a bracket may open, and where a dot may stand after a deep wildcard
pub record MayOpen (s : Place) (text : List ℕ) (ps : Parts) (ss : List Segment) : Type 0 where
  pub to : Place
  pub leads : Leads s text to
  pub opened : step to 91 ≡ Some (inside ps ss bracket)
  pub dotted : has_deep ss ≡ true → step to 46 ≡ Some (inside ps ss dot)

dot_opens : (ps : Parts) → MayOpen (before_part ps) (46 ∷ []) ps []
unfolding unicode_ident is_xid_start
dot_opens ps = record { to = first_dot ps; leads = (first_dot ps, refl, refl); opened = refl; dotted = λ e. absurd (cc) }

stands_opens : (ps : Parts) (ss : List Segment) (text : List ℕ) → Led ps ss text → MayOpen (before_part ps) text ps ss
stands_opens ps ss text (to_end to h k) = record { to = to; leads = h; opened = k.opened; dotted = λ e. k.dotted }
stands_opens ps ss text (to_dot e f) = rw (e, f) (dot_opens ps)
stands_opens ps ss text (at_start e f) = rw (e, f) (record { to = before_part ps; leads = refl; opened = refl; dotted = λ e. absurd (cc) })

pub opens_leads : (ss : List Segment) (text : List ℕ) (h : Opens ss text) → MayOpen (before_part []) text h.earlier ss
opens_leads ss text h =
    let k = stands_opens h.earlier ss h.body (stands_led h.earlier ss h.body h.stands) in
    let z = before_part h.earlier in
    record {
      to = k.to;
      leads = leads_as (before_part []) ((h.front ++ h.blanks) ++ h.body) text k.to (sym h.is)
          (leads_on (before_part []) (h.front ++ h.blanks) h.body z k.to
          (leads_on (before_part []) h.front h.blanks z z (commas_on [] h.earlier h.front h.commas) (along_blanks z h.blanks (start_blank h.earlier) h.blank)) k.leads);
      opened = k.opened;
      dotted = k.dotted;
    }
