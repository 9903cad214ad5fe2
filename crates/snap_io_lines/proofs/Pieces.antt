-- What is held, what a source has left, and what a line takes of both.
use Rattle.std.specs.Prelude.{Err, IsErrOf}
use Rattle.snap_io_lines.proofs.Prelude.{◌≡◌, ◌==◌, or_right, ℕ, ◌+◌, List, [], ◌∷◌, ◌++◌, Bool, true, false, Option, Some, length, take, refl, sym, ap, ◌∙◌, arith, append_assoc, append-nil, length-append, or_from, or_left, Lacks, GivesFront, TakesPiece, IsAhead, SpendsOf, IsEndedLine, IsLastLine, IsLong, HandsPiece, HandsAll, HandsOut, StopsLine, StopsPiece, LineError, Fault, LineTooLong, InputTooLong, OutOfMemory}

pub lacks-append : (xs ys : List ℕ) → Lacks 10 xs → Lacks 10 ys → Lacks 10 (xs ++ ys)
lacks-append [] ys h k = k
lacks-append (x ∷ xs) ys h k = or_from (x == 10) _ (or_left (x == 10) _ h) (lacks-append xs ys (or_right (x == 10) _ h) k)

-- spent
pub spends_none : (budget : ℕ) (left left' : Option (List ℕ)) → left' ≡ left → SpendsOf budget budget left left'
spends_none budget left left' same = λ xs e. record { front = []; given = record { rest = xs; told = same ∙ e; whole = refl }; size = omega arith }

pub spends_some : (budget budget' count : ℕ) (front : List ℕ) (left left' : Option (List ℕ)) → count + budget' ≡ budget → length front ≡ count
    → ((xs : List ℕ) → left ≡ Some xs → GivesFront xs front left') → SpendsOf budget budget' left left'
spends_some budget budget' count front left left' sum size given = λ xs e. record { front = front; given = given xs e; size = ap (λ n. n + budget') size ∙ sum }

pub spends_then : (a b c : ℕ) (left left' left'' : Option (List ℕ)) → SpendsOf a b left left' → SpendsOf b c left' left'' → SpendsOf a c left left''
spends_then a b c left left' left'' s t = λ xs e.
    let before = s xs e in
    let after = t before.given.rest before.given.told in
    record {
      front = before.front ++ after.front;
      given = record {
        rest = after.given.rest;
        told = after.given.told;
        whole = before.given.whole ∙ ap (λ x. before.front ++ x) after.given.whole ∙ sym (append_assoc before.front after.front after.given.rest);
      };
      size = omega (arith, length-append before.front after.front, before.size, after.size);
    }

-- read
pub taken_piece : (count : ℕ) (buffer piece bytes next : List ℕ) (left left' : Option (List ℕ)) → length piece ≡ count → piece ≡ take count buffer → next ≡ bytes ++ piece
    → ((xs : List ℕ) → left ≡ Some xs → GivesFront xs (take count buffer) left') → TakesPiece count bytes next left left'
taken_piece count buffer piece bytes next left left' size is added given = record { piece = piece; size = size; added = added; given = λ xs e. rw is (given xs e) }

pub ahead_filled : (count : ℕ) (start bytes : List ℕ) (left left' : Option (List ℕ)) → start ≡ [] → TakesPiece count start bytes left left' → (all : List ℕ) → IsAhead [] left all → IsAhead bytes left' all
ahead_filled count start bytes left left' none t all a =
    let g = t.given a.rest a.told in
    record { rest = g.rest; told = g.told; is = a.is ∙ g.whole ∙ ap (λ x. x ++ g.rest) (sym (t.added ∙ ap (λ x. x ++ t.piece) none)) }

pub ahead_done : (count : ℕ) (start bytes : List ℕ) (left left' : Option (List ℕ)) → start ≡ [] → TakesPiece count start bytes left left' → count ≡ 0
    → ((xs : List ℕ) → left ≡ Some xs → xs ≡ []) → (all : List ℕ) → IsAhead [] left all → (all ≡ []) × IsAhead bytes left' []
ahead_done count start bytes left left' none t zero_count ended all a =
    let nothing : all ≡ [] = a.is ∙ ended a.rest a.told in
    let after = ahead_filled count start bytes left left' none t all a in
    (nothing, rw nothing at after)

-- handed out
pub stops_line : (error : LineError) (line piece rest held : List ℕ) → StopsPiece error (length line + length piece) → held ≡ piece ++ rest → Lacks 10 piece → StopsLine error line held
stops_line Fault line piece rest held s is lacks = s
stops_line LineTooLong line piece rest held s is lacks = λ before. record {
  front = line ++ piece;
  rest = rest;
  is = ap (λ x. line ++ x) is ∙ sym (append_assoc line piece rest);
  unbroken = lacks-append line piece before lacks;
  long = omega (arith, s, length-append line piece);
}
stops_line InputTooLong line piece rest held s is lacks = s
stops_line OutOfMemory line piece rest held s is lacks = tt

-- the line so far is a front of what was to come
pub record IsGathered (held0 : List ℕ) (left0 : Option (List ℕ)) (line held : List ℕ) (left : Option (List ℕ)) : Type 0 where
  pub each : (all : List ℕ) → IsAhead held0 left0 all → (later : List ℕ) × (all ≡ line ++ later) × IsAhead held left later

pub gathered_start : (held : List ℕ) (left : Option (List ℕ)) (line : List ℕ) → line ≡ [] → IsGathered held left line held left
gathered_start held left line none = record { each = λ all a. (all, ap (λ x. x ++ all) (sym none), a) }

-- held bytes that hold no line's end were handed out, and others were read
pub gathered_more : (held0 : List ℕ) (left0 : Option (List ℕ)) (line line' held held' held'' : List ℕ) (left left' : Option (List ℕ)) → IsGathered held0 left0 line held left
    → HandsAll line line' held held' → ((all : List ℕ) → IsAhead [] left all → IsAhead held'' left' all) → IsGathered held0 left0 line' held'' left'
gathered_more held0 left0 line line' held held' held'' left left' g h fill = record {
  each = λ all a.
      let p = g.each all a in
      let rest = p.2.rest in
      let next : IsAhead held'' left' rest = fill rest (record { rest = rest; told = p.2.told; is = refl }) in
      (rest, p.1 ∙ ap (λ x. line ++ x) p.2.is ∙ sym (append_assoc line held rest) ∙ ap (λ x. x ++ rest) (sym h.added), next);
}

pub gathered_ended : (held0 : List ℕ) (left0 : Option (List ℕ)) (line line' held held' : List ℕ) (left : Option (List ℕ)) → IsGathered held0 left0 line held left
    → HandsPiece line line' held held' → (all : List ℕ) → IsAhead held0 left0 all → IsEndedLine line' all held' left
gathered_ended held0 left0 line line' held held' left g h all a =
    let p = g.each all a in
    let rest = p.2.rest in
    record {
      later = held' ++ rest;
      is =
          p.1 ∙ ap (λ x. line ++ x) (p.2.is ∙ ap (λ x. x ++ rest) h.is ∙ append_assoc h.piece (10 ∷ held') rest)
          ∙ sym (append_assoc line h.piece (10 ∷ (held' ++ rest))) ∙ ap (λ x. x ++ 10 ∷ (held' ++ rest)) (sym h.added);
      ahead = record { rest = rest; told = p.2.told; is = refl };
    }

pub gathered_last : (held0 : List ℕ) (left0 : Option (List ℕ)) (line line' held held' held'' : List ℕ) (left left' : Option (List ℕ)) → IsGathered held0 left0 line held left
    → HandsAll line line' held held' → ((all : List ℕ) → IsAhead [] left all → (all ≡ []) × IsAhead held'' left' []) → (all : List ℕ) → IsAhead held0 left0 all → IsLastLine line' all held'' left'
gathered_last held0 left0 line line' held held' held'' left left' g h fill all a =
    let p = g.each all a in
    let rest = p.2.rest in
    let done = fill rest (record { rest = rest; told = p.2.told; is = refl }) in
    record {
      is = p.1 ∙ ap (λ x. line ++ x) (p.2.is ∙ ap (λ x. held ++ x) done.0 ∙ append-nil held) ∙ sym h.added;
      ahead = done.1;
    }

pub gathered_long : (held0 : List ℕ) (left0 : Option (List ℕ)) (line held : List ℕ) (left : Option (List ℕ)) → IsGathered held0 left0 line held left → IsLong (line ++ held)
    → (all : List ℕ) → IsAhead held0 left0 all → IsLong all
gathered_long held0 left0 line held left g l all a =
    let p = g.each all a in
    let rest = p.2.rest in
    record {
      front = l.front;
      rest = l.rest ++ rest;
      is = p.1 ∙ ap (λ x. line ++ x) p.2.is ∙ sym (append_assoc line held rest) ∙ ap (λ x. x ++ rest) l.is ∙ append_assoc l.front l.rest rest;
      unbroken = l.unbroken;
      long = l.long;
    }

pub hands_piece : (b : Bool) (line line' held held' : List ℕ) → b ≡ true → HandsOut b line line' held held' → HandsPiece line line' held held'
hands_piece true line line' held held' e h = h
hands_piece false line line' held held' e h = absurd (cc)

pub hands_all : (b : Bool) (line line' held held' : List ℕ) → b ≡ false → HandsOut b line line' held held' → HandsAll line line' held held'
hands_all false line line' held held' e h = h
hands_all true line line' held held' e h = absurd (cc)

pub long_of : (error : LineError) (line held : List ℕ) → error ≡ LineTooLong → StopsLine error line held → Lacks 10 line → IsLong (line ++ held)
long_of LineTooLong line held e s lacks = s lacks
long_of Fault line held e s lacks = absurd s
long_of InputTooLong line held e s lacks = absurd s
long_of OutOfMemory line held e s lacks = absurd (cc)

pub still_unbroken : (line line' held held' : List ℕ) → Lacks 10 line → HandsAll line line' held held' → Lacks 10 line'
still_unbroken line line' held held' lacks h = rw h.added (lacks-append line held lacks h.unbroken)

pub one_error : {T E : Type 0} (d e : E) → IsErrOf {T = T} (Err d) e → d ≡ e
one_error d e is = cc

pub an_error : {T E : Type 0} (d e : E) → d ≡ e → IsErrOf {T = T} (Err d) e
an_error d e is = ap Err is
