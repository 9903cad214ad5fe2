-- Where a scanner comes to after the last piece of a line.
use Rattle.snap_parse_laws.proofs.Prelude.{◌≡◌, ℕ, ◌+◌, ◌≤◌, List, [], ◌++◌, Bool, true, false, refl, ◌∙◌, arith, Some, None, Option, map, length, slice_index, if◌then◌else◌, Mark, Place, mark_of, Token, TokenType, fresh, is_overdue, any_overdue, State, kept, SimpleKey, plain, innermost, no_gap, blanks, here, Settles, Steps, type_of, arrived, settled, closing}
use Rattle.snap_scan.specs.Keys.{is_required}
use Rattle.snap_parse_laws.specs.Layouts as w
use Rattle.snap_parse_laws.specs.LayoutTexts as laid
use Rattle.snap_parse_laws.specs.LayoutRules as rule
use Rattle.snap_parse_laws.proofs.Ends.{key_of, in-time}
use Rattle.snap_parse_laws.proofs.Forms.{Follows, at_column, at_end}
use Rattle.snap_parse_laws.proofs.Gaps.{or_false, standing, Stops, Tail, fillers-tail, line-tail, half-tail, half_column, Behind, behind-gap, behind-skips, behind_break, break-first}
use Rattle.snap_parse_laws.proofs.Skips.{stops_at}
use Rattle.snap_parse_laws.proofs.Words.{EndsWord}

-- s stands, once settled, at the end of the text, with these tokens held and these columns open, and no key is missing
pub record AtEnd (s : State) (h : List Token) (os : List ℕ) : Type 0 where
  pub allowed : Bool
  pub key : Option SimpleKey
  pub adjacent : ℕ
  pub index : ℕ
  pub line : ℕ
  pub column : ℕ
  pub started : s.started ≡ true
  pub ended : s.ended ≡ false
  pub timely : any_overdue (mark_of (arrived s).place) (arrived s).keys ≡ false
  pub stands : settled s ≡ standing allowed key adjacent (here [] index line column) h os
  pub free : is_required key ≡ false

-- s stands at cs, which begins at this column of a line, or at the end
abbrev pub Arrives : Option ℕ → State → List Token → List ℕ → List ℕ → ℕ → ℕ → Type 0
Arrives (Some n) s h os cs index line = Settles true s (here cs index line n) h os
Arrives None s h os cs index line = AtEnd s h os

pub record Arrived (c : Option ℕ) (s : State) (h : List Token) (os cs : List ℕ) : Type 0 where
  pub index : ℕ
  pub line : ℕ
  pub arrives : Arrives c s h os cs index line

-- s goes on to cs, or to the end, and gives these tokens where the blocks right of c are closed
pub record Goes (s : State) (before toks : List TokenType) (c : Option ℕ) (os cs : List ℕ) : Type 0 where
  pub to : State
  pub steps : Steps s to
  pub index : ℕ
  pub line : ℕ
  pub held : List Token
  pub columns : List ℕ
  pub arrives : Arrives c to held columns cs index line
  pub kept : kept c columns ≡ kept c os
  pub given : map type_of held ++ closing c columns ≡ before ++ toks ++ closing c os

-- what follows the end of the text stands in no column
abbrev pub Ends : rule.Position → Option ℕ → Type 0
Ends rule.inside c = Unit {0}
Ends rule.ending None = Unit {0}
Ends rule.ending (Some n) = ⊥

pub of-settled : (s : State) (i l j : ℕ) (h : List Token) (os : List ℕ) → Settles true s (here [] i l j) h os → AtEnd s h os
of-settled s i l j h os is = record {
  allowed = true;
  key = None;
  adjacent = is.adjacent;
  index = i;
  line = l;
  column = j;
  started = is.started;
  ended = is.ended;
  timely = is.timely;
  stands = is.calm;
  free = refl;
}

if-free : (b : Bool) (key : SimpleKey) → key.required ≡ false → is_required (if b then None else Some key) ≡ false
if-free true key h = refl
if-free false key h = h

still-free : (b : Bool) (p : Place) (h : List Token) (m : Mark) → is_required (fresh m (key_of b p h)) ≡ false
still-free true p h m = if-free _ (record { place = length h; required = false; mark = mark_of p }) refl
still-free false p h m = refl

-- right after the last piece of the text
open-end : (c b : Bool) (p : Place) (before : List Token) (a i l j : ℕ) (h : List Token) (os : List ℕ) → AtEnd (standing c (key_of b p before) a (here [] i l j) h os) h os
open-end c b p before a i l j h os =
    let m : Mark = mark_of (here [] i l j) in
    record {
      allowed = c;
      key = fresh m (key_of b p before);
      adjacent = a;
      index = i;
      line = l;
      column = j;
      started = refl;
      ended = refl;
      timely = or_false (is_overdue m (key_of b p before)) (in-time b p before m);
      stands = refl;
      free = still-free b p before m;
    }

behind-line : (g : w.Gap) (c : Option ℕ) (m : ℕ) (cs : List ℕ) → Follows c m cs → rule.is_gap g ≡ true → stops_at (slice_index cs 0) ≡ false
    → (os : List ℕ) → EndsWord os m cs → Tail os (laid.fillers_onto g.fillers (blanks m ++ cs)) cs m
behind-line g c m cs follows is stop os end = fillers-tail g.fillers os (blanks m ++ cs) cs m is (line-tail os cs m stop end)

-- after a token that ends at this place
pub rest-arrives : (r : w.Rest) (e : rule.Position) → rule.IsRest e r → (c : Option ℕ) (m : ℕ) (cs : List ℕ) → Follows c m cs → Ends e c → stops_at (slice_index cs 0) ≡ false
    → (os : List ℕ) → EndsWord os m cs → (b : Bool) (p : Place) (before : List Token) (a i j : ℕ) (h : List Token)
    → Arrived c (standing false (key_of b p before) a (here (laid.rest_onto r (blanks m ++ cs)) i p.line j) h os) h os cs
rest-arrives (w.next g) e is _ _ _ (at_column m cs) fits stop os end b p before a i j h =
    let on = behind-gap g.end false b p before a os (laid.fillers_onto g.fillers (blanks m ++ cs)) cs m i p.line j h os (behind-line g (Some m) m cs (at_column m cs) is stop os end) refl in
    record { index = on.index; line = on.line; arrives = on.settles }
rest-arrives (w.next g) e is _ _ _ at_end fits stop os end b p before a i j h =
    let on = behind-gap g.end false b p before a os (laid.fillers_onto g.fillers []) [] 0 i p.line j h os (behind-line g None 0 [] at_end is stop os end) refl in
    record { index = on.index; line = on.line; arrives = of-settled _ on.index on.line 0 h os on.settles }
rest-arrives w.unended rule.ending is _ _ _ (at_column m cs) fits stop os end b p before a i j h = absurd fits
rest-arrives w.unended rule.inside is _ _ _ (at_column m cs) fits stop os end b p before a i j h = absurd (cc)
rest-arrives w.unended e is _ _ _ at_end fits stop os end b p before a i j h =
    record { index = i; line = p.line; arrives = open-end false b p before a i p.line j h os }
rest-arrives (w.half g f) rule.ending is _ _ _ (at_column m cs) fits stop os end b p before a i j h = absurd fits
rest-arrives (w.half g f) rule.inside is _ _ _ (at_column m cs) fits stop os end b p before a i j h = absurd (let e : rule.inside ≡ rule.ending = is.0 in cc)
rest-arrives (w.half g f) e is _ _ _ at_end fits stop os end b p before a i j h =
    let tail = fillers-tail g.fillers os (laid.filler_onto f []) [] (half_column f) is.1 (half-tail f os is.2) in
    let on = behind-gap g.end false b p before a os (laid.fillers_onto g.fillers (laid.filler_onto f [])) [] (half_column f) i p.line j h os tail refl in
    record { index = on.index; line = on.line; arrives = of-settled _ on.index on.line (half_column f) h os on.settles }

-- a plain scalar ends before what stands after it
pub record RestRead (r : w.Rest) (c : Option ℕ) (m : ℕ) (cs : List ℕ) (os text : List ℕ) (i l j : ℕ) : Type 0 where
  pub broken : Bool
  pub place : Place
  pub reads : plain (innermost os) false no_gap text (laid.rest_onto r (blanks m ++ cs)) (here (laid.rest_onto r (blanks m ++ cs)) i l j)
      ≡ Some (record { text = text; is_broken = broken; place = place })
  pub arrived : (b : Bool) (p : Place) (before : List Token) (a : ℕ) (h : List Token) → p.line ≡ l → Arrived c (standing broken (key_of b p before) a place h os) h os cs

behind-stop : (os x cs : List ℕ) (m : ℕ) (t text : List ℕ) (i l : ℕ) (on : Stops os x cs m t text i (l + 1)) (b : Bool) (p : Place) (before : List Token) (a : ℕ) (h : List Token) → p.line ≡ l
    → Behind (standing true (key_of b p before) a on.place h os) cs m (l + 1) h os
behind-stop os x cs m t text i l on b p before a h same =
    let line : p.line + 1 ≤ l + 1 = grind (arith, same) in
    behind-skips true b p before a on.place on.place (l + 1) cs m h os on.skips line refl

pub rest-read : (r : w.Rest) (e : rule.Position) → rule.IsRest e r → (c : Option ℕ) (m : ℕ) (cs : List ℕ) → Follows c m cs → Ends e c → stops_at (slice_index cs 0) ≡ false
    → (os : List ℕ) → EndsWord os m cs → (text : List ℕ) (i l j : ℕ) → RestRead r c m cs os text i l j
rest-read (w.next g) e is _ _ _ (at_column m cs) fits stop os end text i l j =
    let x : List ℕ = laid.fillers_onto g.fillers (blanks m ++ cs) in
    let on = (behind-line g (Some m) m cs (at_column m cs) is stop os end).stops [] text (behind_break g.end i) (l + 1) in
    record {
      broken = true;
      place = on.place;
      reads = break-first g.end os x text i l j ∙ on.reads;
      arrived = λ b p before a h same.
          let there = behind-stop os x cs m [] text (behind_break g.end i) l on b p before a h same in
          record { index = there.index; line = there.line; arrives = there.settles };
    }
rest-read (w.next g) e is _ _ _ at_end fits stop os end text i l j =
    let x : List ℕ = laid.fillers_onto g.fillers [] in
    let on = (behind-line g None 0 [] at_end is stop os end).stops [] text (behind_break g.end i) (l + 1) in
    record {
      broken = true;
      place = on.place;
      reads = break-first g.end os x text i l j ∙ on.reads;
      arrived = λ b p before a h same.
          let there = behind-stop os x [] 0 [] text (behind_break g.end i) l on b p before a h same in
          record { index = there.index; line = there.line; arrives = of-settled _ there.index there.line 0 h os there.settles };
    }
rest-read w.unended rule.ending is _ _ _ (at_column m cs) fits stop os end text i l j = absurd fits
rest-read w.unended rule.inside is _ _ _ (at_column m cs) fits stop os end text i l j = absurd (cc)
rest-read w.unended e is _ _ _ at_end fits stop os end text i l j =
    record {
      broken = false;
      place = here [] i l j;
      reads = refl;
      arrived = λ b p before a h same. record { index = i; line = l; arrives = open-end false b p before a i l j h os };
    }
rest-read (w.half g f) rule.ending is _ _ _ (at_column m cs) fits stop os end text i l j = absurd fits
rest-read (w.half g f) rule.inside is _ _ _ (at_column m cs) fits stop os end text i l j = absurd (let e : rule.inside ≡ rule.ending = is.0 in cc)
rest-read (w.half g f) e is _ _ _ at_end fits stop os end text i l j =
    let x : List ℕ = laid.fillers_onto g.fillers (laid.filler_onto f []) in
    let tail = fillers-tail g.fillers os (laid.filler_onto f []) [] (half_column f) is.1 (half-tail f os is.2) in
    let on = tail.stops [] text (behind_break g.end i) (l + 1) in
    record {
      broken = true;
      place = on.place;
      reads = break-first g.end os x text i l j ∙ on.reads;
      arrived = λ b p before a h same.
          let there = behind-stop os x [] (half_column f) [] text (behind_break g.end i) l on b p before a h same in
          record { index = there.index; line = there.line; arrives = of-settled _ there.index there.line (half_column f) h os there.settles };
    }
