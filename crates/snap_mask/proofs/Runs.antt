-- The records written so far, and how a run ends.
use Rattle.snap_mask.proofs.Prelude.{◌≡◌, ℕ, suc, ◌+◌, ◌<◌, ◌≤◌, List, [], ◌∷◌, ◌++◌, Bool, true, false, Option, Some, Result, Ok, Err, length, take, refl, sym, ap, ◌∙◌, arith, append_assoc, append-nil, length-append, inl, inr, subst, encode_utf8_all, Lacks, lines, without_return, line_limit, input_limit, IsAhead, Spends, SpendsOf, TakesLine, IsLong, BudgetEnd, LineEnd, Ended, Last, LineError, Fault, LineTooLong, InputTooLong, OutOfMemory, ReplacementView, Masks, AreShort, at_start, at_end, IsWritten, IsBegun, IsDone, StopsWithin, StopsAt, IsTooLong, Leaves, Gave, LengthIs, LengthCause, RecordEnds, RefusesRecord, IsRefused, line_read, status_of, refusal_of}
use Rattle.snap_str.proofs.LineTexts.{lines-line}
use Rattle.snap_mask.specs.declared.record.RecordError.{RecordError}
use Rattle.snap_mask.specs.declared.record.RecordError.TheVariants as error
use Rattle.snap_mask.specs.declared.writing.RecordStop.{RecordStop}
use Rattle.snap_mask.specs.declared.writing.RecordStop.TheVariants as stop
use Rattle.snap_mask.specs.declared.status.MaskStatus.TheVariants as status
use Rattle.snap_mask.proofs.LinesCut.{lines-behind, lines-more, lines-one, shorter_line}

masks-append : (rules : List ReplacementView) (a b : List (List ℕ)) (x y : List ℕ) → Masks rules a x → Masks rules b y → Masks rules (a ++ b) (x ++ y)
masks-append rules [] b x y h k = rw h k
masks-append rules ([] ∷ ls) b x y h k = masks-append rules ls b x y h k
masks-append rules ((c ∷ cs) ∷ ls) b x y (given, later, g, is, m) k =
    (given, later ++ y, g, ap (λ t. t ++ y) is ∙ append_assoc (encode_utf8_all (given ++ 10 ∷ [])) later y, masks-append rules ls b later y m k)

take_all : (xs : List ℕ) → take (length xs) xs ≡ xs
take_all [] = refl
take_all (x ∷ xs) = ap (λ t. x ∷ t) (take_all xs)

take_past : (xs ys : List ℕ) (n : ℕ) → take (length xs + n) (xs ++ ys) ≡ xs ++ take n ys
take_past [] ys n = let e : 0 + n ≡ n = omega arith in ap (λ k. take k ys) e
take_past (x ∷ xs) ys n = let e : suc (length xs) + n ≡ suc (length xs + n) = omega arith in ap (λ k. take k (x ∷ (xs ++ ys))) e ∙ ap (λ t. x ∷ t) (take_past xs ys n)

begun_whole : (rules : List ReplacementView) (ls : List (List ℕ)) (w : List ℕ) (now : Option (List ℕ)) → IsWritten rules ls w now → IsBegun rules ls w now
begun_whole rules ls w now h = record {
  out = h.out;
  masks = h.masks;
  part = record { count = length h.out; within = omega arith; written = h.told ∙ ap (λ t. Some (w ++ t)) (sym (take_all h.out)) };
}

written_then : (rules : List ReplacementView) (a b : List (List ℕ)) (w : List ℕ) (now now' : Option (List ℕ)) → (h : IsWritten rules a w now)
    → IsWritten rules b (w ++ h.out) now' → IsWritten rules (a ++ b) w now'
written_then rules a b w now now' h k = record {
  out = h.out ++ k.out;
  masks = masks-append rules a b h.out k.out h.masks k.masks;
  told = k.told ∙ ap Some (append_assoc w h.out k.out);
}

begun_then : (rules : List ReplacementView) (a b : List (List ℕ)) (w : List ℕ) (now now' : Option (List ℕ)) → (h : IsWritten rules a w now)
    → IsBegun rules b (w ++ h.out) now' → IsBegun rules (a ++ b) w now'
begun_then rules a b w now now' h k = record {
  out = h.out ++ k.out;
  masks = masks-append rules a b h.out k.out h.masks k.masks;
  part = record {
    count = length h.out + k.part.count;
    within = omega (arith, length-append h.out k.out, k.part.within);
    written = k.part.written ∙ ap Some (append_assoc w h.out (take k.part.count k.out)) ∙ ap (λ t. Some (w ++ t)) (sym (take_past h.out k.out k.part.count));
  };
}

-- whole lines at the front of the input were read, none of them too long, and their records written
pub record SoFar (rules : List ReplacementView) (input w held : List ℕ) (left now : Option (List ℕ)) (number : ℕ) : Type 0 where
  pub past : List ℕ
  pub rest : List ℕ
  pub is : input ≡ past ++ rest
  pub short : AreShort past
  pub ahead : IsAhead held left rest
  pub number_is : number ≡ length (lines past)
  pub written : IsWritten rules (lines past) w now

pub so_far_start : (rules : List ReplacementView) (input w held : List ℕ) (left now : Option (List ℕ)) → held ≡ [] → left ≡ Some input → now ≡ Some w
    → SoFar rules input w held left now 0
so_far_start rules input w held left now none told written = record {
  past = [];
  rest = input;
  is = refl;
  short = at_start [] refl;
  ahead = record { rest = input; told = told; is = ap (λ h. h ++ input) (sym none) };
  number_is = refl;
  written = record { out = []; masks = refl; told = written ∙ ap Some (sym (append-nil w)) };
}

-- what the writing of one record comes to, whatever was written before
abbrev pub RecordOf : {T : Type 0} → List ReplacementView → List ℕ → Option (List ℕ) → Option (List ℕ) → Result T RecordStop → Type 0
RecordOf rules line now now' result = (v : List ℕ) → now ≡ Some v → RecordEnds rules line v now' result

-- a line was taken off what is to come, and it is whole and no longer than a line may be
pub record Took (end : LineEnd) (line rest held : List ℕ) (left : Option (List ℕ)) : Type 0 where
  pub taken : TakesLine end line rest held left
  pub unbroken : Lacks 10 line
  pub within : length line ≤ line_limit

one_line : (rules : List ReplacementView) (line out : List ℕ) → Lacks 10 line → Masks rules (line ∷ []) out → Masks rules (lines line) out
one_line rules [] out lacks m = m
one_line rules (c ∷ cs) out lacks m = rw (lines-one c cs lacks) m

pub goes_on : {T : Type 0} (done : T) (end : LineEnd) (rules : List ReplacementView) (input w held held' line : List ℕ) (left left' now now' : Option (List ℕ)) (number : ℕ)
    → end ≡ Ended → (s : SoFar rules input w held left now number) → Took end line s.rest held' left' → RecordOf rules (line_read end line) now now' (Ok done)
    → SoFar rules input w held' left' now' (number + 1)
goes_on done Last rules input w held held' line left left' now now' number e s l r = absurd (cc)
goes_on done Ended rules input w held held' line left left' now now' number e s l r =
    let are : lines (s.past ++ line ++ 10 ∷ []) ≡ lines s.past ++ without_return line ∷ [] = lines-more s.past line s.short l.unbroken in
    let next = written_then rules (lines s.past) (without_return line ∷ []) w now now' s.written (r (w ++ s.written.out) s.written.told) in
    record {
      past = s.past ++ line ++ 10 ∷ [];
      rest = l.taken.later;
      is =
          s.is ∙ ap (λ x. s.past ++ x) l.taken.is ∙ sym (append_assoc s.past line (10 ∷ l.taken.later))
          ∙ sym (append_assoc (s.past ++ line) (10 ∷ []) l.taken.later);
      short = at_end (s.past ++ line ++ 10 ∷ []) s.past line s.short l.unbroken l.within refl;
      ahead = l.taken.ahead;
      number_is = omega (arith, s.number_is, ap length are, length-append (lines s.past) (without_return line ∷ []));
      written = rw are next;
    }

pub is_done : {T : Type 0} (done : T) (end : LineEnd) (rules : List ReplacementView) (input w held held' line : List ℕ) (left left' now now' : Option (List ℕ)) (number : ℕ)
    → end ≡ Last → (s : SoFar rules input w held left now number) → Took end line s.rest held' left' → RecordOf rules (line_read end line) now now' (Ok done)
    → IsDone rules input w now'
is_done done Ended rules input w held held' line left left' now now' number e s l r = absurd (cc)
is_done done Last rules input w held held' line left left' now now' number e s l r =
    let whole : input ≡ s.past ++ line = s.is ∙ ap (λ x. s.past ++ x) l.taken.is in
    let are : lines input ≡ lines s.past ++ lines line = ap lines whole ∙ lines-behind s.past line s.short in
    let k = r (w ++ s.written.out) s.written.told in
    let one : IsWritten rules (lines line) (w ++ s.written.out) now' = record { out = k.out; masks = one_line rules line k.out l.unbroken k.masks; told = k.told } in
    record {
      past = s.past;
      last = line;
      is = whole;
      short = s.short;
      unbroken = l.unbroken;
      last_short = l.within;
      written = rw are (written_then rules (lines s.past) (lines line) w now now' s.written one);
    }

stays : (rules : List ReplacementView) (input w held : List ℕ) (left now now' : Option (List ℕ)) (number : ℕ) → (s : SoFar rules input w held left now number)
    → ((v : List ℕ) → now ≡ Some v → now' ≡ Some v) → IsWritten rules (lines s.past) w now'
stays rules input w held left now now' number s r = record { out = s.written.out; masks = s.written.masks; told = r (w ++ s.written.out) s.written.told }

stops_before : (rules : List ReplacementView) (input w held : List ℕ) (left now now' : Option (List ℕ)) (number : ℕ) → SoFar rules input w held left now number
    → ((v : List ℕ) → now ≡ Some v → now' ≡ Some v) → StopsWithin rules input w now'
stops_before rules input w held left now now' number s r = record {
  past = s.past;
  rest = s.rest;
  is = s.is;
  whole = inl s.short;
  begun = begun_whole rules (lines s.past) w now' (stays rules input w held left now now' number s r);
}

-- the line that was taken last, with what may come after it
later_lines : (end : LineEnd) (past rest line held' : List ℕ) (left' : Option (List ℕ)) → AreShort past → Took end line rest held' left' → (line_read end line ≡ [] → ⊥)
    → (later : List (List ℕ)) × (lines (past ++ rest) ≡ lines past ++ line_read end line ∷ later)
later_lines Ended past rest line held' left' short l filled =
    (lines l.taken.later, lines-behind past rest short ∙ ap (λ x. lines past ++ x) (ap lines l.taken.is ∙ lines-line line l.taken.later l.unbroken))
later_lines Last past rest [] held' left' short l filled = absurd (filled refl)
later_lines Last past rest (c ∷ cs) held' left' short l filled =
    ([], lines-behind past rest short ∙ ap (λ x. lines past ++ x) (ap lines l.taken.is ∙ lines-one c cs l.unbroken))

short_read : (end : LineEnd) (line : List ℕ) → length line ≤ line_limit → length (line_read end line) ≤ line_limit
short_read Ended line within = shorter_line line line_limit within
short_read Last line within = within

stops_at : (end : LineEnd) (why : RecordError) (rules : List ReplacementView) (input w held held' line : List ℕ) (left left' now now' : Option (List ℕ)) (number : ℕ)
    → (s : SoFar rules input w held left now number) → Took end line s.rest held' left' → IsRefused rules why (line_read end line)
    → ((v : List ℕ) → now ≡ Some v → now' ≡ Some v) → StopsAt rules why (number + 1) input w now'
stops_at end why rules input w held held' line left left' now now' number s l refused r =
    let p = later_lines end s.past s.rest line held' left' s.short l refused.filled in
    record {
      past = s.past;
      line = line_read end line;
      later = p.0;
      short = s.short;
      are = ap lines s.is ∙ p.1;
      number_is = omega (arith, s.number_is);
      filled = refused.filled;
      line_short = short_read end line l.within;
      refused = refused.refused;
      written = stays rules input w held left now now' number s r;
    }

stops_in_record : (end : LineEnd) (rules : List ReplacementView) (input w held held' line : List ℕ) (left left' now now' : Option (List ℕ)) (number : ℕ)
    → (s : SoFar rules input w held left now number) → Took end line s.rest held' left'
    → ((v : List ℕ) → now ≡ Some v → IsBegun rules (line_read end line ∷ []) v now') → StopsWithin rules input w now'
stops_in_record Ended rules input w held held' line left left' now now' number s l r =
    let are : lines (s.past ++ line ++ 10 ∷ []) ≡ lines s.past ++ without_return line ∷ [] = lines-more s.past line s.short l.unbroken in
    record {
      past = s.past ++ line ++ 10 ∷ [];
      rest = l.taken.later;
      is =
          s.is ∙ ap (λ x. s.past ++ x) l.taken.is ∙ sym (append_assoc s.past line (10 ∷ l.taken.later))
          ∙ sym (append_assoc (s.past ++ line) (10 ∷ []) l.taken.later);
      whole = inl (at_end (s.past ++ line ++ 10 ∷ []) s.past line s.short l.unbroken l.within refl);
      begun = rw are (begun_then rules (lines s.past) (without_return line ∷ []) w now now' s.written (r (w ++ s.written.out) s.written.told));
    }
stops_in_record Last rules input w held held' line left left' now now' number s l r =
    let whole : input ≡ s.past ++ line = s.is ∙ ap (λ x. s.past ++ x) l.taken.is in
    let k = r (w ++ s.written.out) s.written.told in
    let one : IsBegun rules (lines line) (w ++ s.written.out) now' = record { out = k.out; masks = one_line rules line k.out l.unbroken k.masks; part = k.part } in
    record {
      past = s.past ++ line;
      rest = [];
      is = whole ∙ sym (append-nil (s.past ++ line));
      whole = inr refl;
      begun = rw (lines-behind s.past line s.short) (begun_then rules (lines s.past) (lines line) w now now' s.written one);
    }

too_long : (rules : List ReplacementView) (input w held : List ℕ) (left now : Option (List ℕ)) (number : ℕ) → (s : SoFar rules input w held left now number)
    → IsLong s.rest → IsTooLong rules (number + 1) input w now
too_long rules input w held left now number s l = record {
  past = s.past;
  front = l.front;
  rest = l.rest;
  short = s.short;
  is = s.is ∙ ap (λ x. s.past ++ x) l.is;
  unbroken = l.unbroken;
  long = l.long;
  number_is = omega (arith, s.number_is);
  written = s.written;
}

-- how a run ends, by why there is no line, and by why there is no record
pub leaves_error : (error : LineError) (rules : List ReplacementView) (input w held : List ℕ) (left now : Option (List ℕ)) (number : ℕ)
    → (s : SoFar rules input w held left now number) → (error ≡ LineTooLong → IsLong s.rest) → Leaves rules (status_of error (number + 1)) input w now
leaves_error Fault rules input w held left now number s l = stops_before rules input w held left now now number s (λ v e. e)
leaves_error LineTooLong rules input w held left now number s l = too_long rules input w held left now number s (l refl)
leaves_error InputTooLong rules input w held left now number s l = stops_before rules input w held left now now number s (λ v e. e)
leaves_error OutOfMemory rules input w held left now number s l = stops_before rules input w held left now now number s (λ v e. e)

pub leaves_stop : (T : Type 0) (end : LineEnd) (why : RecordStop) (rules : List ReplacementView) (input w held held' line : List ℕ) (left left' now now' : Option (List ℕ)) (number : ℕ)
    → (s : SoFar rules input w held left now number) → Took end line s.rest held' left' → RefusesRecord rules why (line_read end line)
    → RecordOf {T = T} rules (line_read end line) now now' (Err why) → Leaves rules (refusal_of why (number + 1)) input w now'
leaves_stop T end stop.BadLine rules input w held held' line left left' now now' number s l refused r =
    stops_at end error.BadLine rules input w held held' line left left' now now' number s l refused r
leaves_stop T end stop.FloatLine rules input w held held' line left left' now now' number s l refused r =
    stops_at end error.FloatLine rules input w held held' line left left' now now' number s l refused r
leaves_stop T end stop.JsonKey rules input w held held' line left left' now now' number s l refused r =
    stops_at end error.JsonKey rules input w held held' line left left' now now' number s l refused r
leaves_stop T end stop.WriteFault rules input w held held' line left left' now now' number s l refused r =
    stops_in_record end rules input w held held' line left left' now now' number s l r
leaves_stop T end stop.OutOfMemory rules input w held held' line left left' now now' number s l refused r =
    stops_before rules input w held left now now' number s r

-- no line and no record has to do with the words
pub not_words_error : (error : LineError) (number : ℕ) → status_of error number ≡ status.BadWords → ⊥
not_words_error Fault number e = cc
not_words_error LineTooLong number e = cc
not_words_error InputTooLong number e = cc
not_words_error OutOfMemory number e = cc

pub not_words_stop : (why : RecordStop) (number : ℕ) → refusal_of why number ≡ status.BadWords → ⊥
not_words_stop stop.BadLine number e = cc
not_words_stop stop.FloatLine number e = cc
not_words_stop stop.JsonKey number e = cc
not_words_stop stop.WriteFault number e = cc
not_words_stop stop.OutOfMemory number e = cc

-- before anything was read
pub stops_at_start : (rules : List ReplacementView) (input w : List ℕ) (now : Option (List ℕ)) → now ≡ Some w → StopsWithin rules input w now
stops_at_start rules input w now told = record {
  past = [];
  rest = input;
  is = refl;
  whole = inl (at_start [] refl);
  begun = record { out = []; masks = refl; part = record { count = 0; within = omega arith; written = told ∙ ap Some (sym (append-nil w)) } };
}

-- how much was read
gave : (b : ℕ) (input : List ℕ) (left' : Option (List ℕ)) → Spends (input_limit + 1) b input left' → (test : Bool) → (((n : ℕ) → n + b ≡ input_limit + 1 → LengthIs test n))
    → (count : ℕ) × Gave count input left' × LengthIs test count
gave b input left' s test is = (length s.front, record { front = s.front; given = s.given; size = refl }, is (length s.front) s.size)

some_left : (b n : ℕ) → 0 < b → n + b ≡ input_limit + 1 → n ≤ input_limit
some_left b n some e = omega (arith, e, some)

none_left : (b n : ℕ) → b ≡ 0 → n + b ≡ input_limit + 1 → n ≡ input_limit + 1
none_left b n none e = omega (arith, e, none)

pub length_done : (b : ℕ) (left left' : Option (List ℕ)) → 0 < b → SpendsOf (input_limit + 1) b left left' → (test : Bool) → test ≡ false
    → (input : List ℕ) → left ≡ Some input → (count : ℕ) × Gave count input left' × LengthIs test count
length_done b left left' some s false e input told = gave b input left' (s input told) false (λ n. some_left b n some)
length_done b left left' some s true e input told = absurd (cc)

pub length_error : (T : Type 0) (error : LineError) (number b : ℕ) (left left' : Option (List ℕ)) → BudgetEnd {T = T} (Err error) b → SpendsOf (input_limit + 1) b left left'
    → LengthCause (status_of error number) left left'
length_error T Fault number b left left' h s = length_done b left left' h s false refl
length_error T LineTooLong number b left left' h s = length_done b left left' h s false refl
length_error T InputTooLong number b left left' h s = λ input told. gave b input left' (s input told) true (λ n. none_left b n h)
length_error T OutOfMemory number b left left' h s = length_done b left left' h s false refl

pub length_stop : (why : RecordStop) (number b : ℕ) (left left' : Option (List ℕ)) → 0 < b → SpendsOf (input_limit + 1) b left left' → LengthCause (refusal_of why number) left left'
length_stop stop.BadLine number b left left' h s = length_done b left left' h s false refl
length_stop stop.FloatLine number b left left' h s = length_done b left left' h s false refl
length_stop stop.JsonKey number b left left' h s = length_done b left left' h s false refl
length_stop stop.WriteFault number b left left' h s = length_done b left left' h s false refl
length_stop stop.OutOfMemory number b left left' h s = length_done b left left' h s false refl

-- at the last line nothing is left
pub all_read : (end : LineEnd) (line all held' : List ℕ) (left' : Option (List ℕ)) → end ≡ Last → TakesLine end line all held' left' → left' ≡ Some []
all_read Ended line all held' left' e l = absurd (cc)
all_read Last line all held' left' e l = l.ahead.told ∙ ap Some (by held' l.ahead.rest (sym l.ahead.is))
  where
    by : (xs ys : List ℕ) → xs ++ ys ≡ [] → ys ≡ []
    by [] ys e = e
    by (x ∷ xs) ys e = absurd (cc)

pub still_ahead : (end : LineEnd) (line all held' : List ℕ) (left' : Option (List ℕ)) → end ≡ Ended → TakesLine end line all held' left' → (rest : List ℕ) × IsAhead held' left' rest
still_ahead Ended line all held' left' e l = (l.later, l.ahead)
still_ahead Last line all held' left' e l = absurd (cc)

pub record_of_read : {T : Type 0} (rules : List ReplacementView) (a b : List ℕ) (now now' : Option (List ℕ)) (result : Result T RecordStop) → a ≡ b
    → RecordOf rules a now now' result → RecordOf rules b now now' result
record_of_read rules a b now now' result e h = λ v told. subst (λ x. RecordEnds rules x v now' result) e (h v told)
