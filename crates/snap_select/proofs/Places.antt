-- What has been read at each place: every step keeps it, and where the text may end it is the grammar.
use Rattle.snap_select.proofs.Prelude.{◌≡◌, ◌≢◌, ℕ, true, inl, inr, List, [], ◌∷◌, ◌++◌, Option, Some, None, refl, sym, ap, ◌∙◌, subst, append_assoc, append-nil, eqb-true, ◌==◌, is_blank, AreBlanks, begins_name, dotted, bracketed, Spells, SpellsEach, MayFollowDot, Stands, SpellsPart, BeforeComma, EachBeforeComma, IsSpelled, Parts, Token, in_name, star, Move, on, ends, ended_before, nowhere, move, whole, Place, before_part, first_dot, ready, inside, behind_part, separate, follow, moved, step, with_last, ended, Segment, DeepWildcard, Wildcard, Key, Index, Range}
use Rattle.snap_select.proofs.Tokens.{TokenMeans, MoveMeans, token_on, all_more, pick}

-- earlier parts, and blanks
pub record Between (ps : Parts) (text : List ℕ) : Type 0 where
  pub front : List ℕ
  pub blanks : List ℕ
  pub is : text ≡ front ++ blanks
  pub commas : EachBeforeComma ps front
  pub blank : AreBlanks blanks

-- earlier parts, blanks, segments of this part, and then a piece; after a lone dot only a bracket goes on
pub record Opened (ps : Parts) (ss : List Segment) (piece text : List ℕ) : Type 0 where
  pub lead : List ℕ
  pub body : List ℕ
  pub is : text ≡ (lead ++ body) ++ piece
  pub between : Between ps lead
  pub stands : Stands ss body
  pub solid : body ≡ 46 ∷ [] → (r : List ℕ) × (piece ≡ 91 ∷ r)

-- earlier parts, blanks, and segments of this part, no lone dot among them
pub record Filled (ps : Parts) (ss : List Segment) (text : List ℕ) : Type 0 where
  pub lead : List ℕ
  pub body : List ℕ
  pub is : text ≡ lead ++ body
  pub between : Between ps lead
  pub stands : Stands ss body
  pub filled : body ≢ []
  pub solid : body ≢ 46 ∷ []

abbrev pub Means : Place → List ℕ → Type 0
Means (before_part ps) t = Between ps t
Means (first_dot ps) t = (front : List ℕ) × Between ps front × (t ≡ front ++ 46 ∷ [])
Means (ready ps ss) t = Filled ps ss t
Means (inside ps ss token) t = (piece : List ℕ) × Opened ps ss piece t × TokenMeans token piece
Means (behind_part ps) t = IsSpelled t ps

abbrev pub MaybeMeans : List ℕ → Option Place → Type 0
MaybeMeans t None = Unit {0}
MaybeMeans t (Some s) = Means s t

-- segments, and one more
each_more : (ss : List Segment) (body : List ℕ) (s : Segment) (piece : List ℕ) → SpellsEach ss body → Spells s piece → SpellsEach (ss ++ s ∷ []) (body ++ piece)
each_more [] body s piece h k = record { front = piece; back = []; is = ap (λ x. x ++ piece) h ∙ sym (append-nil piece); first = k; second = refl }
each_more (r ∷ ss) body s piece h k = record {
  front = h.front;
  back = h.back ++ piece;
  is = ap (λ x. x ++ piece) h.is ∙ append_assoc h.front h.back piece;
  first = h.first;
  second = each_more ss h.back s piece h.second k;
}

follows : (body piece : List ℕ) → MayFollowDot body → (body ≡ [] → (r : List ℕ) × (piece ≡ 91 ∷ r)) → MayFollowDot (body ++ piece)
follows [] piece h k = rw ((k refl).1) refl
follows (c ∷ cs) piece h k = h

stands_more : (ss : List Segment) (before : List ℕ) (s : Segment) (piece : List ℕ) → Stands ss before → Spells s piece
    → (before ≡ 46 ∷ [] → (r : List ℕ) × (piece ≡ 91 ∷ r)) → Stands (ss ++ s ∷ []) (before ++ piece)
stands_more ss before s piece h k q = record {
  body = h.body ++ piece;
  led = elim h.led [ inl e ↦ inl (ap (λ x. x ++ piece) e) | inr p ↦ inr (ap (λ x. x ++ piece) p.0, follows h.body piece p.1 (λ none. q (p.0 ∙ ap (λ x. 46 ∷ x) none))) ];
  each = each_more ss h.body s piece h.each k;
}

pub none_stand : Stands [] []
none_stand = record { body = []; led = inl refl; each = refl }

pub dot_stands : Stands [] (46 ∷ [])
dot_stands = record { body = []; led = inr (refl, tt); each = refl }

-- parts, and one more
commas_more : (ps : Parts) (front : List ℕ) (p : List Segment) (text : List ℕ) → EachBeforeComma ps front → BeforeComma p text → EachBeforeComma (ps ++ p ∷ []) (front ++ text)
commas_more [] front p text h k = record { front = text; back = []; is = ap (λ x. x ++ text) h ∙ sym (append-nil text); first = k; second = refl }
commas_more (q ∷ ps) front p text h k = record {
  front = h.front;
  back = h.back ++ text;
  is = ap (λ x. x ++ text) h.is ∙ append_assoc h.front h.back text;
  first = h.first;
  second = commas_more ps h.back p text h.second k;
}

-- a whole text, and a comma
comma_between : (ps : Parts) (t : List ℕ) → IsSpelled t ps → Between ps (t ++ 44 ∷ [])
comma_between ps t h =
    let s = h.spelled in
    let comma = commas_more h.earlier s.front h.last (s.back ++ 44 ∷ []) s.first (record { part = s.back; is = refl; spelled = s.second }) in
    record { front = s.front ++ (s.back ++ 44 ∷ []); blanks = []; is = ap (λ x. x ++ 44 ∷ []) s.is ∙ simp (append_assoc, append-nil); commas = rw (h.are) comma; blank = refl }

spelled_blank : (ps : Parts) (t : List ℕ) (c : ℕ) → IsSpelled t ps → is_blank c ≡ true → IsSpelled (t ++ c ∷ []) ps
spelled_blank ps t c h e =
    let s = h.spelled in
    let p = s.second in
    let part : SpellsPart h.last (s.back ++ c ∷ []) = record {
      before = p.before;
      inside = p.inside;
      after = p.after ++ c ∷ [];
      is = ap (λ x. x ++ c ∷ []) p.is ∙ append_assoc (p.before ++ p.inside) p.after (c ∷ []);
      blank_before = p.blank_before;
      blank_after = all_more is_blank p.after c p.blank_after e;
      stands = p.stands;
      filled = p.filled;
    } in
    let is = ap (λ x. x ++ c ∷ []) s.is ∙ append_assoc s.front s.back (c ∷ []) in
    record { earlier = h.earlier; last = h.last; are = h.are; spelled = record { front = s.front; back = s.back ++ c ∷ []; is = is; first = s.first; second = part } }

-- earlier parts, blanks and a body are whole
pub whole_part : (ps : Parts) (ss : List Segment) (lead body t : List ℕ) → t ≡ lead ++ body → Between ps lead → Stands ss body → body ≢ [] → IsSpelled t (ps ++ ss ∷ [])
whole_part ps ss lead body t is h stands filled = record {
  earlier = ps;
  last = ss;
  are = refl;
  spelled = record {
    front = h.front;
    back = h.blanks ++ body;
    is = is ∙ ap (λ x. x ++ body) h.is ∙ append_assoc h.front h.blanks body;
    first = h.commas;
    second = record { before = h.blanks; inside = body; after = []; is = sym (append-nil (h.blanks ++ body)); blank_before = h.blank; blank_after = refl; stands = stands; filled = filled };
  };
}

filled_whole : (ps : Parts) (ss : List Segment) (t : List ℕ) → Filled ps ss t → IsSpelled t (ps ++ ss ∷ [])
filled_whole ps ss t h = whole_part ps ss h.lead h.body t h.is h.between h.stands h.filled

-- after a part
separated : (ps : Parts) (t : List ℕ) (c : ℕ) → IsSpelled t ps → MaybeMeans (t ++ c ∷ []) (separate ps c)
separated ps t c h =
    let P = MaybeMeans (t ++ c ∷ []) in
    pick (is_blank c) _ _ P (λ e. spelled_blank ps t c h e) (λ f. pick (c == 44) _ _ P (λ e. rw (eqb-true c 44 e) (comma_between ps t h)) (λ g. tt))

-- after a segment
followed : (ps : Parts) (ss : List Segment) (t : List ℕ) (c : ℕ) → Filled ps ss t → MaybeMeans (t ++ c ∷ []) (follow ps ss c)
followed ps ss t c h =
    let P = MaybeMeans (t ++ c ∷ []) in
    let opens : Opened ps ss (c ∷ []) (t ++ c ∷ []) =
    record { lead = h.lead; body = h.body; is = ap (λ x. x ++ c ∷ []) h.is; between = h.between; stands = h.stands; solid = λ e. absurd (h.solid e) } in
    pick (c == 46) _ _ P (λ e. (c ∷ [], opens, ap (λ x. x ∷ []) (eqb-true c 46 e)))
    (λ f. pick (c == 91) _ _ P (λ e. (c ∷ [], opens, ([], ap (λ x. x ∷ []) (eqb-true c 91 e), refl))) (λ g. separated (ps ++ ss ∷ []) t c (filled_whole ps ss t h)))

-- segments are spelled by more than a dot
by_bracket : (text r : List ℕ) → text ≡ 91 ∷ r → (text ≢ []) × (text ≢ 46 ∷ [])
by_bracket text r is = (λ e. cc, λ e. cc)

by_dot : (text : List ℕ) (c : ℕ) (r : List ℕ) → text ≡ 46 ∷ c ∷ r → (text ≢ []) × (text ≢ 46 ∷ [])
by_dot text c r is = (λ e. cc, λ e. cc)

nonempty_spelled : (s : Segment) (text : List ℕ) → Spells s text → (text ≢ []) × (text ≢ 46 ∷ [])
nonempty_spelled (Key []) text (dotted is name) = absurd name
nonempty_spelled (Key (c ∷ cs)) text (dotted is name) = by_dot text c cs is
nonempty_spelled (Key key) text (bracketed k) = by_bracket text (k.before ++ k.inside ++ k.after ++ 93 ∷ []) k.is
nonempty_spelled (Index index) text k = by_bracket text (k.before ++ k.inside ++ k.after ++ 93 ∷ []) k.is
nonempty_spelled Wildcard text h = by_dot text 42 [] h
nonempty_spelled DeepWildcard text h = by_dot text 42 (42 ∷ []) h
nonempty_spelled (Range from to) text k = by_bracket text (k.before ++ k.inside ++ k.after ++ 93 ∷ []) k.is

-- a piece that is a whole segment
not_nothing : (body piece : List ℕ) → piece ≢ [] → body ++ piece ≢ []
not_nothing [] piece n = n
not_nothing (c ∷ cs) piece n = λ e. cc

not_dot : (body piece : List ℕ) → piece ≢ [] → piece ≢ 46 ∷ [] → body ++ piece ≢ 46 ∷ []
not_dot [] piece n m = m
not_dot (c ∷ []) [] n m = λ e. n refl
not_dot (c ∷ []) (p ∷ ps) n m = λ e. cc
not_dot (c ∷ d ∷ ds) piece n m = λ e. cc

whole_segment : (ps : Parts) (ss : List Segment) (s : Segment) (piece t : List ℕ) → Opened ps ss piece t → Spells s piece → Filled ps (ss ++ s ∷ []) t
whole_segment ps ss s piece t h k =
    let n = nonempty_spelled s piece k in
    record {
      lead = h.lead;
      body = h.body ++ piece;
      is = h.is ∙ append_assoc h.lead h.body piece;
      between = h.between;
      stands = stands_more ss h.body s piece h.stands k h.solid;
      filled = not_nothing h.body piece n.0;
      solid = not_dot h.body piece n.0 n.1;
    }

-- the piece, and one character more
piece_more : (ps : Parts) (ss : List Segment) (piece t : List ℕ) (c : ℕ) → Opened ps ss piece t → Opened ps ss (piece ++ c ∷ []) (t ++ c ∷ [])
piece_more ps ss piece t c h = record {
  lead = h.lead;
  body = h.body;
  is = ap (λ x. x ++ c ∷ []) h.is ∙ append_assoc (h.lead ++ h.body) piece (c ∷ []);
  between = h.between;
  stands = h.stands;
  solid = λ e. let k = h.solid e in (k.0 ++ c ∷ [], ap (λ x. x ++ c ∷ []) k.1);
}

moved_on : (ps : Parts) (ss : List Segment) (piece t : List ℕ) (c : ℕ) (m : Move) → Opened ps ss piece t → MoveMeans piece (piece ++ c ∷ []) m → MaybeMeans (t ++ c ∷ []) (moved ps ss c m)
moved_on ps ss piece t c (on token) h k = (piece ++ c ∷ [], piece_more ps ss piece t c h, k)
moved_on ps ss piece t c (ends s) h k = whole_segment ps ss s (piece ++ c ∷ []) (t ++ c ∷ []) (piece_more ps ss piece t c h) k
moved_on ps ss piece t c (ended_before s) h k = followed ps (ss ++ s ∷ []) t c (whole_segment ps ss s piece t h k)
moved_on ps ss piece t c nowhere h k = tt

-- where a part begins
begun : (ps : Parts) (t piece : List ℕ) → Between ps t → Opened ps [] piece (t ++ piece)
begun ps t piece h = record { lead = t; body = []; is = ap (λ x. x ++ piece) (sym (append-nil t)); between = h; stands = none_stand; solid = λ e. cc }

begun_dot : (ps : Parts) (t r : List ℕ) → Between ps t → Opened ps [] (91 ∷ r) ((t ++ 46 ∷ []) ++ 91 ∷ r)
begun_dot ps t r h = record { lead = t; body = 46 ∷ []; is = refl; between = h; stands = dot_stands; solid = λ e. (r, refl) }

between_blank : (ps : Parts) (t : List ℕ) (c : ℕ) → Between ps t → is_blank c ≡ true → Between ps (t ++ c ∷ [])
between_blank ps t c h e = record {
  front = h.front;
  blanks = h.blanks ++ c ∷ [];
  is = ap (λ x. x ++ c ∷ []) h.is ∙ append_assoc h.front h.blanks (c ∷ []);
  commas = h.commas;
  blank = all_more is_blank h.blanks c h.blank e;
}

lone_dot : (ps : Parts) (front t : List ℕ) → Between ps front → t ≡ front ++ 46 ∷ [] → IsSpelled t (ps ++ [] ∷ [])
lone_dot ps front t h is = whole_part ps [] front (46 ∷ []) t is h dot_stands (λ e. cc)

first_dot_on : (ps : Parts) (front t : List ℕ) (c : ℕ) → Between ps front → t ≡ front ++ 46 ∷ [] → MaybeMeans (t ++ c ∷ []) (step (first_dot ps) c)
first_dot_on ps front t c h is =
    let P = MaybeMeans (t ++ c ∷ []) in
    let opened : Opened ps [] (46 ∷ c ∷ []) (t ++ c ∷ []) =
    subst (Opened ps [] (46 ∷ c ∷ [])) (sym (ap (λ x. x ++ c ∷ []) is ∙ append_assoc front (46 ∷ []) (c ∷ []))) (begun ps front (46 ∷ c ∷ []) h) in
    pick (begins_name c) _ _ P (λ e. (46 ∷ c ∷ [], opened, (refl, (e, refl))))
    (λ f. pick (c == 42) _ _ P (λ e. (46 ∷ c ∷ [], opened, ap (λ x. 46 ∷ x ∷ []) (eqb-true c 42 e)))
    (λ f. pick (c == 91) _ _ P (λ e. (91 ∷ [], rw (eqb-true c 91 e, is) (begun_dot ps front [] h), ([], refl, refl))) (λ g. separated (ps ++ [] ∷ []) t c (lone_dot ps front t h is))))

-- one character more
pub step_on : (s : Place) (t : List ℕ) (c : ℕ) → Means s t → MaybeMeans (t ++ c ∷ []) (step s c)
step_on (before_part ps) t c h =
    let P = MaybeMeans (t ++ c ∷ []) in
    pick (is_blank c) _ _ P (λ e. between_blank ps t c h e)
    (λ f. pick (c == 46) _ _ P (λ e. (t, h, ap (λ x. t ++ x ∷ []) (eqb-true c 46 e)))
    (λ f. pick (c == 91) _ _ P (λ e. (c ∷ [], begun ps t (c ∷ []) h, ([], ap (λ x. x ∷ []) (eqb-true c 91 e), refl))) (λ g. tt)))
step_on (first_dot ps) t c h = first_dot_on ps h.0 t c h.1 h.2
step_on (ready ps ss) t c h = followed ps ss t c h
step_on (inside ps ss token) t c h = moved_on ps ss h.0 t c (move token c) h.1 (token_on token h.0 c h.2)
step_on (behind_part ps) t c h = separated ps t c h

pub kept : (s : Place) (t : List ℕ) (c : ℕ) (z : Place) → Means s t → step s c ≡ Some z → Means z (t ++ c ∷ [])
kept s t c z h e = subst (MaybeMeans (t ++ c ∷ [])) e (step_on s t c h)

-- where the text may end
abbrev pub MaybeSpelled : List ℕ → Option Parts → Type 0
MaybeSpelled t None = Unit {0}
MaybeSpelled t (Some parts) = IsSpelled t parts

abbrev MaybeSegment : List ℕ → Option Segment → Type 0
MaybeSegment t None = Unit {0}
MaybeSegment t (Some s) = Spells s t

token_end : (token : Token) (t : List ℕ) → TokenMeans token t → MaybeSegment t (whole token)
token_end (in_name name) t h = dotted h.0 h.1
token_end star t h = h
token_end _ t h = tt

last_end : (ps : Parts) (ss : List Segment) (piece t : List ℕ) (o : Option Segment) → Opened ps ss piece t → MaybeSegment piece o → MaybeSpelled t (with_last ps ss o)
last_end ps ss piece t None h k = tt
last_end ps ss piece t (Some s) h k = filled_whole ps (ss ++ s ∷ []) t (whole_segment ps ss s piece t h k)

place_end : (s : Place) (t : List ℕ) → Means s t → MaybeSpelled t (ended s)
place_end (before_part ps) t h = tt
place_end (first_dot ps) t h = lone_dot ps h.0 t h.1 h.2
place_end (ready ps ss) t h = filled_whole ps ss t h
place_end (inside ps ss token) t h = last_end ps ss h.0 t (whole token) h.1 (token_end token h.0 h.2)
place_end (behind_part ps) t h = h

pub end_kept : (s : Place) (t : List ℕ) (parts : Parts) → Means s t → ended s ≡ Some parts → IsSpelled t parts
end_kept s t parts h e = subst (MaybeSpelled t) e (place_end s t h)
