-- Skipping a line's end and lines that say nothing, between tokens and after a plain scalar.
use Rattle.snap_parse_laws.proofs.Prelude.{◌≡◌, ℕ, zero, suc, ◌+◌, ◌≤◌, List, [], ◌∷◌, ◌++◌, Bool, true, false, refl, ◌∙◌, arith, add-zero, zero-add, inl, inr, Some, None, Option, nat_lt, length, nat_tests, ◌||◌, ◌==◌, slice_index, list_all, is_break, is_blank, is_document_indicator, Place, mark_of, Token, fresh, is_overdue, State, to_next, SimpleKey, plain, is_outside, ends_plain, innermost, Broken, Gap, no_gap, blanks, here, calm, Settles, or_parts, and_parts, not_true}
use Rattle.snap_scan.specs.State.{past_comment}
use Rattle.snap_parse_laws.specs.Layouts as w
use Rattle.snap_parse_laws.specs.LayoutTexts as laid
use Rattle.snap_parse_laws.specs.LayoutRules as rule
use Rattle.snap_parse_laws.proofs.Ends.{key_of, in-time}
use Rattle.snap_parse_laws.proofs.Skips.{stops_at, to_next-stops, settles-by}
use Rattle.snap_parse_laws.proofs.Words.{EndsWord, word_end, last-true}

-- a state in blocks, with the key that may be possible
abbrev pub standing : Bool → Option SimpleKey → ℕ → Place → List Token → List ℕ → State
standing b key a p h os = record {
  place = p;
  held = h;
  started = true;
  ended = false;
  allowed = b;
  adjacent = a;
  keys = record { key = key; outer = [] };
  columns = os;
}

-- what lies between the place p on line l and cs at column m is skipped
pub record Skips (p : Place) (l : ℕ) (cs : List ℕ) (m : ℕ) : Type 0 where
  pub index : ℕ
  pub line : ℕ
  pub later : l ≤ line
  pub is : (key : Option SimpleKey) (a : ℕ) (h : List Token) (os : List ℕ) → to_next p.left (standing true key a p h os) ≡ standing true key a (here cs index line m) h os

abbrev pub folded_gap : List ℕ → Gap
folded_gap t = record { fold = Broken; text = t }

-- a plain scalar ends in x, which begins a line, and what is left after it is skipped
pub record Stops (columns x : List ℕ) (cs : List ℕ) (m : ℕ) (t text : List ℕ) (i l : ℕ) : Type 0 where
  pub place : Place
  pub reads : plain (innermost columns) false (folded_gap t) text x (here x i l 0) ≡ Some (word_end text place)
  pub skips : Skips place l cs m

-- x begins a line, and says nothing up to cs at column m
pub record Tail (columns x : List ℕ) (cs : List ℕ) (m : ℕ) : Type 0 where
  pub skips : (i l : ℕ) → Skips (here x i l 0) l cs m
  pub stops : (t text : List ℕ) (i l : ℕ) → Stops columns x cs m t text i l

to_next-blanks : (n : ℕ) (cs : List ℕ) (b : Bool) (key : Option SimpleKey) (a i l j : ℕ) (h : List Token) (os : List ℕ)
    → to_next (blanks n ++ cs) (standing b key a (here (blanks n ++ cs) i l j) h os) ≡ to_next cs (standing b key a (here cs (i + n) l (j + n)) h os)
to_next-blanks zero cs b key a i l j h os = rw (add-zero i, add-zero j) refl
to_next-blanks (suc n) cs b key a i l j h os =
    let e : i + 1 + n ≡ i + suc n = omega arith in
    let f : j + 1 + n ≡ j + suc n = omega arith in
    rw (← e, ← f) (to_next-blanks n cs b key a (i + 1) l (j + 1) h os)

plain-blanks : (n : ℕ) (columns cs t : List ℕ) (i l j : ℕ) (text : List ℕ)
    → plain (innermost columns) false (folded_gap t) text (blanks n ++ cs) (here (blanks n ++ cs) i l j)
    ≡ plain (innermost columns) false (folded_gap t) text cs (here cs (i + n) l (j + n))
plain-blanks zero columns cs t i l j text = rw (add-zero i, add-zero j) refl
plain-blanks (suc n) columns cs t i l j text =
    let e : i + 1 + n ≡ i + suc n = omega arith in
    let f : j + 1 + n ≡ j + suc n = omega arith in
    rw (← e, ← f) (plain-blanks n columns cs t (i + 1) l (j + 1) text)

ends-at : (columns cs t : List ℕ) (i l n : ℕ) → stops_at (slice_index cs 0) ≡ false → EndsWord columns n cs → (text : List ℕ)
    → plain (innermost columns) false (folded_gap t) text cs (here cs i l n) ≡ Some (word_end text (here cs i l n))
ends-at columns [] t i l n stop end text = refl
ends-at columns (c ∷ cs) t i l n stop (inl none) text = absurd (cc)
ends-at columns (c ∷ cs) t i l n stop (inr outside) text =
    let first = or_parts (is_blank c || is_break c) (c == 35) stop in
    let two = or_parts (is_blank c) (is_break c) first.0 in
    let p : Place = here (c ∷ cs) i l n in
    let ended : ends_plain (innermost columns) false (folded_gap t) p ≡ true =
    last-true _ _ (last-true (is_document_indicator p) (is_outside (innermost columns) n) outside) in
    rw (two.0, two.1, ended) refl

-- a comment is passed

pub record IsInComment (c : ℕ) : Type 0 where
  pub line_end : is_break c ≡ false
  pub feed : (c == 10) ≡ false
  pub nul : (c == 0) ≡ false

in_comment : (c : ℕ) → rule.is_in_comment c ≡ true → IsInComment c
in_comment c h =
    let two = or_parts (is_break c) (c == 0) (not_true _ h) in
    record { line_end = two.0; feed = (or_parts (c == 10) (c == 13) two.0).0; nul = two.1 }

comment-passed : (cs rest : List ℕ) → list_all rule.is_in_comment cs ≡ true → (b : Bool) (key : Option SimpleKey) (a i l j : ℕ) (h : List Token) (os : List ℕ)
    → past_comment (cs ++ rest) (standing b key a (here (cs ++ rest) i l j) h os) ≡ past_comment rest (standing b key a (here rest (i + length cs) l (j + length cs)) h os)
comment-passed [] rest is b key a i l j h os = rw (add-zero i, add-zero j) refl
comment-passed (c ∷ cs) rest is b key a i l j h os =
    let two = and_parts (rule.is_in_comment c) (list_all rule.is_in_comment cs) is in
    let inside = in_comment c two.0 in
    let e : i + 1 + length cs ≡ i + suc (length cs) = omega arith in
    let f : j + 1 + length cs ≡ j + suc (length cs) = omega arith in
    rw (inside.line_end, inside.nul, inside.feed, ← e, ← f) (comment-passed cs rest two.1 b key a (i + 1) l (j + 1) h os)

-- an index after a line's end
abbrev pub behind_break : w.Break → ℕ → ℕ
behind_break w.feed i = i + 1
behind_break w.return_feed i = i + 1 + 1

pub break-passed : (e : w.Break) (x : List ℕ) (b : Bool) (key : Option SimpleKey) (a i l j : ℕ) (h : List Token) (os : List ℕ)
    → to_next (laid.break_onto e x) (standing b key a (here (laid.break_onto e x) i l j) h os) ≡ to_next x (standing true key a (here x (behind_break e i) (l + 1) 0) h os)
break-passed w.feed x b key a i l j h os = refl
break-passed w.return_feed x b key a i l j h os = refl

comment-ended : (e : w.Break) (x : List ℕ) (b : Bool) (key : Option SimpleKey) (a i l j : ℕ) (h : List Token) (os : List ℕ)
    → past_comment (laid.break_onto e x) (standing b key a (here (laid.break_onto e x) i l j) h os) ≡ to_next x (standing true key a (here x (behind_break e i) (l + 1) 0) h os)
comment-ended w.feed x b key a i l j h os = refl
comment-ended w.return_feed x b key a i l j h os = refl

-- a plain scalar goes on after a line's end
break-folded : (e : w.Break) (columns x t text : List ℕ) (i l j : ℕ)
    → plain (innermost columns) false (folded_gap t) text (laid.break_onto e x) (here (laid.break_onto e x) i l j)
    ≡ plain (innermost columns) false (folded_gap (t ++ 10 ∷ [])) text x (here x (behind_break e i) (l + 1) 0)
break-folded w.feed columns x t text i l j = refl
break-folded w.return_feed columns x t text i l j = refl

pub break-first : (e : w.Break) (columns x text : List ℕ) (i l j : ℕ)
    → plain (innermost columns) false no_gap text (laid.break_onto e x) (here (laid.break_onto e x) i l j)
    ≡ plain (innermost columns) false (folded_gap []) text x (here x (behind_break e i) (l + 1) 0)
break-first w.feed columns x text i l j = refl
break-first w.return_feed columns x text i l j = refl

-- the place of the sign of a comment
abbrev at_sign : List ℕ → ℕ → ℕ → ℕ → Place
at_sign cs i l n = here (35 ∷ cs) (i + n) l (0 + n)

sign-stops : (n : ℕ) (columns cs t text : List ℕ) (i l : ℕ)
    → plain (innermost columns) false (folded_gap t) text (blanks n ++ (35 ∷ cs)) (here (blanks n ++ (35 ∷ cs)) i l 0) ≡ Some (word_end text (at_sign cs i l n))
sign-stops n columns cs t text i l = plain-blanks n columns (35 ∷ cs) t i l 0 text

onward : (p q : Place) (l k : ℕ) (cs : List ℕ) (m : ℕ) → l ≤ k
    → ((key : Option SimpleKey) (a : ℕ) (h : List Token) (os : List ℕ) → to_next p.left (standing true key a p h os) ≡ to_next q.left (standing true key a q h os))
    → Skips q k cs m → Skips p l cs m
onward p q l k cs m more same s =
    let later : k ≤ s.line = s.later in
    record { index = s.index; line = s.line; later = omega (arith, later, more); is = λ key a h os. same key a h os ∙ s.is key a h os }

-- from the sign of a comment to the next line
sign-skips : (text : List ℕ) (e : w.Break) (x cs : List ℕ) (m i l n : ℕ) → list_all rule.is_in_comment text ≡ true
    → Skips (here x (behind_break e (i + n + 1 + length text)) (l + 1) 0) (l + 1) cs m
    → Skips (at_sign (text ++ laid.break_onto e x) i l n) l cs m
sign-skips text e x cs m i l n is s =
    onward (at_sign (text ++ laid.break_onto e x) i l n) (here x (behind_break e (i + n + 1 + length text)) (l + 1) 0) l (l + 1) cs m (omega arith)
    (λ key a h os. comment-passed text (laid.break_onto e x) is true key a (i + n + 1) l (0 + n + 1) h os
    ∙ comment-ended e x true key a (i + n + 1 + length text) l (0 + n + 1 + length text) h os) s

-- a line that says nothing
filler-tail : (f : w.Filler) (e : w.Break) (columns x cs : List ℕ) (m : ℕ) → rule.is_filler f ≡ true → Tail columns x cs m → Tail columns (laid.filler_onto f (laid.break_onto e x)) cs m
filler-tail (w.blank n) e columns x cs m is tail = record {
  skips = λ i l.
      onward (here (blanks n ++ laid.break_onto e x) i l 0) (here x (behind_break e (i + n)) (l + 1) 0) l (l + 1) cs m (omega arith)
      (λ key a h os. to_next-blanks n (laid.break_onto e x) true key a i l 0 h os ∙ break-passed e x true key a (i + n) l (0 + n) h os) (tail.skips (behind_break e (i + n)) (l + 1));
  stops = λ t text i l.
      let on = tail.stops (t ++ 10 ∷ []) text (behind_break e (i + n)) (l + 1) in
      let later : l + 1 ≤ on.skips.line = on.skips.later in
      record {
        place = on.place;
        reads = plain-blanks n columns (laid.break_onto e x) t i l 0 text ∙ break-folded e columns x t text (i + n) l (0 + n) ∙ on.reads;
        skips = record { index = on.skips.index; line = on.skips.line; later = omega (arith, later); is = on.skips.is };
      };
}
filler-tail (w.comment n c) e columns x cs m is tail = record {
  skips = λ i l.
      onward (here (blanks n ++ (35 ∷ (c ++ laid.break_onto e x))) i l 0) (at_sign (c ++ laid.break_onto e x) i l n) l l cs m (omega arith)
      (λ key a h os. to_next-blanks n (35 ∷ (c ++ laid.break_onto e x)) true key a i l 0 h os)
      (sign-skips c e x cs m i l n is (tail.skips (behind_break e (i + n + 1 + length c)) (l + 1)));
  stops = λ t text i l. record {
    place = at_sign (c ++ laid.break_onto e x) i l n;
    reads = sign-stops n columns (c ++ laid.break_onto e x) t text i l;
    skips = sign-skips c e x cs m i l n is (tail.skips (behind_break e (i + n + 1 + length c)) (l + 1));
  };
}

pub fillers-tail : (fs : w.Fillers) (columns x cs : List ℕ) (m : ℕ) → rule.are_fillers fs ≡ true → Tail columns x cs m → Tail columns (laid.fillers_onto fs x) cs m
fillers-tail w.no_filler columns x cs m is tail = tail
fillers-tail (w.filler f e fs) columns x cs m is tail =
    let two = and_parts (rule.is_filler f) (rule.are_fillers fs) is in
    filler-tail f e columns (laid.fillers_onto fs x) cs m two.0 (fillers-tail fs columns x cs m two.1 tail)

-- the line of the next token
pub line-tail : (columns cs : List ℕ) (m : ℕ) → stops_at (slice_index cs 0) ≡ false → EndsWord columns m cs → Tail columns (blanks m ++ cs) cs m
line-tail columns cs m stop end =
    let there : (i l : ℕ) → Skips (here (blanks m ++ cs) i l 0) l cs m = λ i l. record {
      index = i + m;
      line = l;
      later = omega arith;
      is = λ key a h os.
          to_next-blanks m cs true key a i l 0 h os ∙ rw (zero-add m) (to_next-stops cs (standing true key a (here cs (i + m) l m) h os) stop);
    } in
    record {
      skips = there;
      stops = λ t text i l. record {
        place = here cs (i + m) l m;
        reads = plain-blanks m columns cs t i l 0 text ∙ rw (zero-add m) (ends-at columns cs t (i + m) l m stop end text);
        skips = record { index = i + m; line = l; later = omega arith; is = λ key a h os. to_next-stops cs (standing true key a (here cs (i + m) l m) h os) stop };
      };
    }

-- a last line without its end
abbrev pub half_column : w.Filler → ℕ
half_column (w.blank n) = n
half_column (w.comment n c) = n + 1 + length c

pub half-tail : (f : w.Filler) (columns : List ℕ) → rule.is_filler f ≡ true → Tail columns (laid.filler_onto f []) [] (half_column f)
half-tail (w.blank n) columns is = line-tail columns [] n refl (inl refl)
half-tail (w.comment n c) columns is =
    let there : (i l : ℕ) → Skips (at_sign (c ++ []) i l n) l [] (n + 1 + length c) = λ i l. record {
      index = i + n + 1 + length c;
      line = l;
      later = omega arith;
      is = λ key a h os.
          let e : 0 + n + 1 + length c ≡ n + 1 + length c = omega arith in
          comment-passed c [] is true key a (i + n + 1) l (0 + n + 1) h os ∙ rw e refl;
    } in
    record {
      skips = λ i l.
          onward (here (blanks n ++ (35 ∷ (c ++ []))) i l 0) (at_sign (c ++ []) i l n) l l [] (n + 1 + length c) (omega arith)
          (λ key a h os. to_next-blanks n (35 ∷ (c ++ [])) true key a i l 0 h os) (there i l);
      stops = λ t text i l. record { place = at_sign (c ++ []) i l n; reads = sign-stops n columns (c ++ []) t text i l; skips = there i l };
    }

pub or_false : (b : Bool) → b ≡ false → b || false ≡ false
or_false b h = rw h refl

-- a key that is given up on a later line
pub given-up : (b : Bool) (p : Place) (h : List Token) (i l j : ℕ) → nat_lt p.line l ≡ true → fresh (record { index = i; line = l; col = j }) (key_of b p h) ≡ None
given-up true p h i l j later = rw later refl
given-up false p h i l j later = refl

-- a token after a gap
pub record Behind (s : State) (cs : List ℕ) (m l : ℕ) (h : List Token) (os : List ℕ) : Type 0 where
  pub index : ℕ
  pub line : ℕ
  pub settles : Settles true s (here cs index line m) h os

-- from a place that is skipped up to a token on a later line
pub behind-skips : (c b : Bool) (p : Place) (before : List Token) (a : ℕ) (q r : Place) (l : ℕ) (cs : List ℕ) (m : ℕ) (h : List Token) (os : List ℕ) → Skips r l cs m → p.line + 1 ≤ l
    → to_next q.left (standing c (key_of b p before) a q h os) ≡ to_next r.left (standing true (key_of b p before) a r h os)
    → Behind (standing c (key_of b p before) a q h os) cs m l h os
behind-skips c b p before a q r l cs m h os s line same =
    let later : l ≤ s.line = s.later in
    let right : nat_lt p.line s.line ≡ true = grind (arith, nat_tests, later, line) in
    let key : Option SimpleKey = key_of b p before in
    let there : State = standing true key a (here cs s.index s.line m) h os in
    record {
      index = s.index;
      line = s.line;
      settles = settles-by true a (standing c key a q h os) there (here cs s.index s.line m) h os refl refl (same ∙ s.is key a h os)
          (or_false (is_overdue (mark_of there.place) key) (in-time b p before (mark_of there.place))) (rw (given-up b p before s.index s.line m right) refl);
    }

pub behind-gap : (e : w.Break) (c b : Bool) (p : Place) (before : List Token) (a : ℕ) (columns x cs : List ℕ) (m i l j : ℕ) (h : List Token) (os : List ℕ) → Tail columns x cs m → p.line ≡ l
    → Behind (standing c (key_of b p before) a (here (laid.break_onto e x) i l j) h os) cs m (l + 1) h os
behind-gap e c b p before a columns x cs m i l j h os tail same =
    let line : p.line + 1 ≤ l + 1 = grind (arith, same) in
    behind-skips c b p before a (here (laid.break_onto e x) i l j) (here x (behind_break e i) (l + 1) 0) (l + 1) cs m h os (tail.skips (behind_break e i) (l + 1)) line
    (break-passed e x c (key_of b p before) a i l j h os)

-- after a mark or a colon, and blanks
pub settles-blanks : (n : ℕ) (cs : List ℕ) (b : Bool) (a i l j : ℕ) (h : List Token) (os : List ℕ) → stops_at (slice_index cs 0) ≡ false
    → Settles b (calm b a (here (32 ∷ (blanks n ++ cs)) i l j) h os) (here cs (i + 1 + n) l (j + 1 + n)) h os
settles-blanks n cs b a i l j h os stop =
    let q : Place = here cs (i + 1 + n) l (j + 1 + n) in
    settles-by b a (calm b a (here (32 ∷ (blanks n ++ cs)) i l j) h os) (calm b a q h os) q h os refl refl
    (to_next-blanks n cs b None a (i + 1) l (j + 1) h os ∙ to_next-stops cs (calm b a q h os) stop) refl refl

-- a token after a gap, where no key is possible
pub settles-gap : (g : w.Gap) (c : Bool) (a m i l j : ℕ) (cs : List ℕ) (h : List Token) (os : List ℕ) → rule.is_gap g ≡ true → stops_at (slice_index cs 0) ≡ false
    → Behind (calm c a (here (laid.gap_onto g (blanks m ++ cs)) i l j) h os) cs m (l + 1) h os
settles-gap g c a m i l j cs h os is stop =
    let level : is_outside (innermost (m ∷ [])) m ≡ true = grind (arith, nat_tests) in
    let tail = fillers-tail g.fillers (m ∷ []) (blanks m ++ cs) cs m is (line-tail (m ∷ []) cs m stop (inr level)) in
    behind-gap g.end c false (here [] i l 0) [] a (m ∷ []) (laid.fillers_onto g.fillers (blanks m ++ cs)) cs m i l j h os tail refl
