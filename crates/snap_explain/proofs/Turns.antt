-- What was said of the lines so far, and of one more.
use Rattle.snap_explain.proofs.Prelude.{◌≡◌, ℕ, suc, ◌+◌, ◌≤◌, List, [], ◌∷◌, ◌++◌, Bool, true, false, ◌||◌, ◌==◌, Option, Some, Ok, Err, length, take, refl, sym, ap, ◌∙◌, arith, append_assoc, append-nil, length-append, subst, inl, inr, take_all, Lacks, lines, without_return, HoldsFront, IsAhead, TakesLine, IsLong, Result, LineEnd, Ended, Last, LineError, Fault, LineTooLong, InputTooLong, OutOfMemory, ReplacementView, AreShort, short_start, short_end, line_read, Took, SaysOf, Says, is_filled, Writes, LineEnds, IsSaid, SaidAll, SaidWithin, of_nothing, of_record, of_fault, at_start, at_line, run_at, run_of, SaidBefore, RunLeaves, SayError}
use Rattle.snap_explain.specs.declared.saying.SayError.TheVariants as say
use Rattle.snap_mask.proofs.LinesCut.{lines-behind, lines-more, lines-one}

-- nothing is said of an empty line
nothing_said : (rules : List ReplacementView) (number : ℕ) (said : List ℕ) → SaysOf rules number [] said → said ≡ []
nothing_said rules number said (of_nothing e is) = is
nothing_said rules number said (of_record r is) = is
nothing_said rules number said (of_fault filled what f is) = absurd (filled refl)

-- of one line more, and of a last one, which may be none
says_more : (rules : List ReplacementView) (ls : List (List ℕ)) (line out said : List ℕ) → Says rules ls out → SaysOf rules (suc (length ls)) line said
    → Says rules (ls ++ line ∷ []) (out ++ said)
says_more rules ls line out said h k = at_line rules (ls ++ line ∷ []) ls line (out ++ said) out said h k refl refl

says_last : (rules : List ReplacementView) (ls : List (List ℕ)) (line out said : List ℕ) → Says rules ls out → SaysOf rules (suc (length ls)) line said → Lacks 10 line
    → Says rules (ls ++ lines line) (out ++ said)
says_last rules ls [] out said h k lacks =
    let none : said ≡ [] = nothing_said rules (suc (length ls)) said k in
    let same : out ≡ out ++ said = sym (ap (λ s. out ++ s) none ∙ append-nil out) in
    subst (λ l. Says rules l (out ++ said)) (sym (append-nil ls)) (subst (λ o. Says rules ls o) same h)
says_last rules ls (c ∷ cs) out said h k lacks = subst (λ l. Says rules (ls ++ l) (out ++ said)) (sym (lines-one c cs lacks)) (says_more rules ls (c ∷ cs) out said h k)

numbered : (rules : List ReplacementView) (ls : List (List ℕ)) (number : ℕ) (line said : List ℕ) → number ≡ length ls → SaysOf rules (number + 1) line said
    → SaysOf rules (suc (length ls)) line said
numbered rules ls number line said is k = let next : number + 1 ≡ suc (length ls) = omega (arith, is) in subst (λ n. SaysOf rules n line said) next k

pub filled-append : (a b : List ℕ) → is_filled (a ++ b) ≡ is_filled a || is_filled b
filled-append [] b = refl
filled-append (c ∷ cs) b = refl

take_past : (xs ys : List ℕ) (n : ℕ) → take (length xs + n) (xs ++ ys) ≡ xs ++ take n ys
take_past [] ys n = let e : 0 + n ≡ n = omega arith in ap (λ k. take k ys) e
take_past (x ∷ xs) ys n = let e : suc (length xs) + n ≡ suc (length xs + n) = omega arith in ap (λ k. take k (x ∷ (xs ++ ys))) e ∙ ap (λ t. x ∷ t) (take_past xs ys n)

-- a whole text is a front of itself, and a front of a text may come after another text
pub all_held : (out w : List ℕ) (now : Option (List ℕ)) → now ≡ Some (w ++ out) → HoldsFront out w now
all_held out w now told = record { count = length out; within = omega arith; written = told ∙ ap (λ t. Some (w ++ t)) (sym (take_all (length out) out (omega arith))) }

pub held_after : (out said w : List ℕ) (now : Option (List ℕ)) → HoldsFront said (w ++ out) now → HoldsFront (out ++ said) w now
held_after out said w now h = record {
  count = length out + h.count;
  within = omega (arith, length-append out said, h.within);
  written = h.written ∙ ap Some (append_assoc w out (take h.count said)) ∙ ap (λ t. Some (w ++ t)) (sym (take_past out said h.count));
}

said_with : (rules : List ReplacementView) (ls more : List (List ℕ)) (w : List ℕ) (now now' : Option (List ℕ)) (found this : Bool) (s : IsSaid rules ls w now found) (said : List ℕ)
    → Says rules more (s.out ++ said) → now' ≡ Some ((w ++ s.out) ++ said) → this ≡ is_filled said → IsSaid rules more w now' (found || this)
said_with rules ls more w now now' found this s said says told is = record {
  out = s.out ++ said;
  says = says;
  told = told ∙ ap Some (append_assoc w s.out said);
  found_is = ap (λ b. b || this) s.found_is ∙ ap (λ b. is_filled s.out || b) is ∙ sym (filled-append s.out said);
}

-- whole lines at the front of the input were read, none of them too long, and what is said of them was written
pub record SoFar (rules : List ReplacementView) (input w held : List ℕ) (left now : Option (List ℕ)) (number : ℕ) (found : Bool) : Type 0 where
  pub past : List ℕ
  pub rest : List ℕ
  pub is : input ≡ past ++ rest
  pub short : AreShort past
  pub ahead : IsAhead held left rest
  pub number_is : number ≡ length (lines past)
  pub said : IsSaid rules (lines past) w now found

pub so_far_start : (rules : List ReplacementView) (input w held : List ℕ) (left now : Option (List ℕ)) → held ≡ [] → left ≡ Some input → now ≡ Some w
    → SoFar rules input w held left now 0 false
so_far_start rules input w held left now none told written = record {
  past = [];
  rest = input;
  is = refl;
  short = short_start [] refl;
  ahead = record { rest = input; told = told; is = ap (λ h. h ++ input) (sym none) };
  number_is = refl;
  said = record { out = []; says = at_start rules [] [] refl refl; told = written ∙ ap Some (sym (append-nil w)); found_is = refl };
}

-- what the writing of what is said of one line comes to, whatever was written before
abbrev pub LineOf : List ReplacementView → ℕ → List ℕ → Option (List ℕ) → Option (List ℕ) → Result Bool SayError → Type 0
LineOf rules number line now now' result = (v : List ℕ) → now ≡ Some v → LineEnds rules number line v now' result

pub line_of_read : (rules : List ReplacementView) (number : ℕ) (a b : List ℕ) (now now' : Option (List ℕ)) (result : Result Bool SayError) → a ≡ b
    → LineOf rules number a now now' result → LineOf rules number b now now' result
line_of_read rules number a b now now' result e h = λ v told. subst (λ x. LineEnds rules number x v now' result) e (h v told)

pub goes_on : (end : LineEnd) (rules : List ReplacementView) (input w held held' line : List ℕ) (left left' now now' : Option (List ℕ)) (number : ℕ) (found this : Bool)
    → end ≡ Ended → (s : SoFar rules input w held left now number found) → Took end line s.rest held' left' → LineOf rules (number + 1) (line_read end line) now now' (Ok this)
    → SoFar rules input w held' left' now' (number + 1) (found || this)
goes_on Last rules input w held held' line left left' now now' number found this e s l r = absurd (cc)
goes_on Ended rules input w held held' line left left' now now' number found this e s l r =
    let are : lines (s.past ++ line ++ 10 ∷ []) ≡ lines s.past ++ without_return line ∷ [] = lines-more s.past line s.short l.unbroken in
    let k = r (w ++ s.said.out) s.said.told in
    let says = says_more rules (lines s.past) (without_return line) s.said.out k.0 s.said.says (numbered rules (lines s.past) number (without_return line) k.0 s.number_is k.1) in
    let next = said_with rules (lines s.past) (lines s.past ++ without_return line ∷ []) w now now' found this s.said k.0 says k.2 k.3 in
    record {
      past = s.past ++ line ++ 10 ∷ [];
      rest = l.taken.later;
      is =
          s.is ∙ ap (λ x. s.past ++ x) l.taken.is ∙ sym (append_assoc s.past line (10 ∷ l.taken.later))
          ∙ sym (append_assoc (s.past ++ line) (10 ∷ []) l.taken.later);
      short = short_end (s.past ++ line ++ 10 ∷ []) s.past line s.short l.unbroken l.within refl;
      ahead = l.taken.ahead;
      number_is = omega (arith, s.number_is, ap length are, length-append (lines s.past) (without_return line ∷ []));
      said = rw are next;
    }

pub is_done : (end : LineEnd) (rules : List ReplacementView) (input w held held' line : List ℕ) (left left' now now' : Option (List ℕ)) (number : ℕ) (found this : Bool)
    → end ≡ Last → (s : SoFar rules input w held left now number found) → Took end line s.rest held' left' → LineOf rules (number + 1) (line_read end line) now now' (Ok this)
    → SaidAll rules input w now' (found || this)
is_done Ended rules input w held held' line left left' now now' number found this e s l r = absurd (cc)
is_done Last rules input w held held' line left left' now now' number found this e s l r =
    let whole : input ≡ s.past ++ line = s.is ∙ ap (λ x. s.past ++ x) l.taken.is in
    let are : lines input ≡ lines s.past ++ lines line = ap lines whole ∙ lines-behind s.past line s.short in
    let k = r (w ++ s.said.out) s.said.told in
    let says = says_last rules (lines s.past) line s.said.out k.0 s.said.says (numbered rules (lines s.past) number line k.0 s.number_is k.1) l.unbroken in
    let next = said_with rules (lines s.past) (lines s.past ++ lines line) w now now' found this s.said k.0 says k.2 k.3 in
    record { past = s.past; last = line; is = whole; short = s.short; unbroken = l.unbroken; last_short = l.within; said = rw are next }

stops_before : (rules : List ReplacementView) (input w held : List ℕ) (left now now' : Option (List ℕ)) (number : ℕ) (found : Bool) → SoFar rules input w held left now number found
    → ((v : List ℕ) → now ≡ Some v → now' ≡ Some v) → SaidWithin rules input w now'
stops_before rules input w held left now now' number found s r = record {
  past = s.past;
  rest = s.rest;
  out = s.said.out;
  is = s.is;
  whole = inl s.short;
  says = s.said.says;
  part = all_held s.said.out w now' (r (w ++ s.said.out) s.said.told);
}

stops_in_line : (end : LineEnd) (rules : List ReplacementView) (input w held held' line : List ℕ) (left left' now now' : Option (List ℕ)) (number : ℕ) (found : Bool)
    → (s : SoFar rules input w held left now number found) → Took end line s.rest held' left' → LineOf rules (number + 1) (line_read end line) now now' (Err say.WriteFault)
    → SaidWithin rules input w now'
stops_in_line Ended rules input w held held' line left left' now now' number found s l r =
    let are : lines (s.past ++ line ++ 10 ∷ []) ≡ lines s.past ++ without_return line ∷ [] = lines-more s.past line s.short l.unbroken in
    let k = r (w ++ s.said.out) s.said.told in
    record {
      past = s.past ++ line ++ 10 ∷ [];
      rest = l.taken.later;
      out = s.said.out ++ k.0;
      is =
          s.is ∙ ap (λ x. s.past ++ x) l.taken.is ∙ sym (append_assoc s.past line (10 ∷ l.taken.later))
          ∙ sym (append_assoc (s.past ++ line) (10 ∷ []) l.taken.later);
      whole = inl (short_end (s.past ++ line ++ 10 ∷ []) s.past line s.short l.unbroken l.within refl);
      says = rw are (says_more rules (lines s.past) (without_return line) s.said.out k.0 s.said.says (numbered rules (lines s.past) number (without_return line) k.0 s.number_is k.1));
      part = held_after s.said.out k.0 w now' k.2;
    }
stops_in_line Last rules input w held held' line left left' now now' number found s l r =
    let whole : input ≡ s.past ++ line = s.is ∙ ap (λ x. s.past ++ x) l.taken.is in
    let k = r (w ++ s.said.out) s.said.told in
    record {
      past = s.past ++ line;
      rest = [];
      out = s.said.out ++ k.0;
      is = whole ∙ sym (append-nil (s.past ++ line));
      whole = inr refl;
      says = rw (lines-behind s.past line s.short)
          (says_last rules (lines s.past) line s.said.out k.0 s.said.says (numbered rules (lines s.past) number line k.0 s.number_is k.1) l.unbroken);
      part = held_after s.said.out k.0 w now' k.2;
    }

-- how the lines end, by why there is no line, and by why something was not said
pub leaves_error : (error : LineError) (rules : List ReplacementView) (input w held : List ℕ) (left now : Option (List ℕ)) (number : ℕ) (found : Bool)
    → (s : SoFar rules input w held left now number found) → (error ≡ LineTooLong → IsLong s.rest) → RunLeaves rules (run_at error (number + 1)) input w now
leaves_error Fault rules input w held left now number found s l = stops_before rules input w held left now now number found s (λ v e. e)
leaves_error LineTooLong rules input w held left now number found s l =
    let long = l refl in
    record {
      past = s.past;
      out = s.said.out;
      long = record { front = long.front; rest = long.rest; short = s.short; is = s.is ∙ ap (λ x. s.past ++ x) long.is; unbroken = long.unbroken; long = long.long };
      number_is = omega (arith, s.number_is);
      says = s.said.says;
      told = s.said.told;
    }
leaves_error InputTooLong rules input w held left now number found s l = stops_before rules input w held left now now number found s (λ v e. e)
leaves_error OutOfMemory rules input w held left now number found s l = stops_before rules input w held left now now number found s (λ v e. e)

pub leaves_stop : (error : SayError) (end : LineEnd) (rules : List ReplacementView) (input w held held' line : List ℕ) (left left' now now' : Option (List ℕ)) (number : ℕ) (found : Bool)
    → (s : SoFar rules input w held left now number found) → Took end line s.rest held' left' → LineOf rules (number + 1) (line_read end line) now now' (Err error)
    → RunLeaves rules (run_of error) input w now'
leaves_stop say.WriteFault end rules input w held held' line left left' now now' number found s l r =
    stops_in_line end rules input w held held' line left left' now now' number found s l r
leaves_stop say.OutOfMemory end rules input w held held' line left left' now now' number found s l r = stops_before rules input w held left now now' number found s r

-- what is said of a line that isn't empty
pub filled_line : (line : List ℕ) (empty : Bool) → empty ≡ (length line == 0) → empty ≡ false → line ≡ [] → ⊥
filled_line line empty is other e = let clash : true ≡ false = sym (ap (λ l. length l == 0) e) ∙ sym is ∙ other in cc

pub said_error : (rules : List ReplacementView) (number : ℕ) (line text w : List ℕ) (now : Option (List ℕ)) (error : SayError) → SaysOf rules number line text
    → Writes {T = Unit {0}} text w now (Err error) → LineEnds rules number line w now (Err error)
said_error rules number line text w now say.WriteFault says h = (text, says, h)
said_error rules number line text w now say.OutOfMemory says h = h
