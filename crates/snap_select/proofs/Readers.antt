-- What each reader reads, as outcomes.
use Rattle.snap_select.proofs.Prelude.{Result, Ok, Err, IfOk, IfErr, Bor, ◌≡◌, ℕ, suc, ℤ, ◌+◌, ◌^◌, ◌<◌, ◌≤◌, Bool, true, false, List, [], ◌∷◌, ◌++◌, length, Option, Some, None, refl, sym, ap, ◌∙◌, subst, append_assoc, append-nil, arith, length-append, MatchOption, is_some, eqb-true, ne_eqb, le-leb, lt-leb, ◌==◌, not, chars, IsNumeral, AllDigits, digits_value, is_xid_start, is_xid_continue, unicode_ident, is_deep, is_blank, AreBlanks, begins_name, signed, signed_value, FitsBound, Parts, past, front, is_decimal, Fails, IsNameThen, goes_on_dot, begins_segment, unsigned, IsNumber, number_value, IsNumberThen, Token, dot, in_name, star, bracket, number, colon, to_minus, to_number, closing, Place, before_part, first_dot, ready, inside, behind_part, step, flaw, since, is_far, is_over, Outcome, refuses, outcome, IsStop, GoesOn, StopsAt, Closes, ClosesNot, IsNumberBehind, once_deep, ReadsWildcard, ReadsDotted, ReadsPart, StopsPart, SelectFault, BadToken, TooLarge, Segment, Stop, Wildcard, Key, Index, Range, moved}
use Rattle.snap_content.specs.Front.{begins}
use Rattle.snap_select.proofs.Fitting.{Fitting, TokenFits, tokens_fit, far_less, near_over, fits_near}
use Rattle.snap_select.proofs.Outcomes.{Stuck}
use Rattle.snap_select.proofs.Oversize.{unfit_far, is_large, counted_since, spills, colon_flaw, gap_since}
use Rattle.snap_select.proofs.PieceFacts.{cut_at, past_fails, past_ends, front_passes, digit_no_minus, number_is}
use Rattle.snap_select.proofs.Tokens.{either}
use Rattle.snap_select.proofs.Walks.{Spot, behind_bracket, behind_colon, opening, counting, number_on, name_on, at_number, gap_behind, colon_move, digit_is, no_blank}
use Rattle.snap_content.proofs.Booleans.{and_nothing}

-- along a text, and where it stops
one_step : (s : Place) (c : ℕ) (cs : List ℕ) (z : Place) → step s c ≡ Some z → flaw s c ≡ None → outcome s (c ∷ cs) ≡ outcome z cs
one_step s c cs z e f = rw (f, e) refl

pub along : (s : Place) (a : List ℕ) (z : Place) (rest : List ℕ) → Fitting s a z → outcome s (a ++ rest) ≡ outcome z rest
along s [] z rest h = ap (λ x. outcome x rest) h
along s (c ∷ cs) z rest h = one_step s c (cs ++ rest) h.0 h.1 h.2 ∙ along h.0 cs z rest h.3

stuck_here : (s : Place) (text : List ℕ) → Stuck s text → outcome s text ≡ refuses BadToken (length text)
stuck_here s [] h = rw h refl
stuck_here s (c ∷ cs) h = rw (h.1, h.0) refl

flawed_here : (s : Place) (c : ℕ) (cs : List ℕ) (kind : SelectFault) → flaw s c ≡ Some kind → outcome s (c ∷ cs) ≡ refuses kind (since s + suc (length cs))
flawed_here s c cs kind h = rw h refl

-- blanks that change nothing
skip : (s : Place) → ((c : ℕ) → is_blank c ≡ true → step s c ≡ Some s) → ((c : ℕ) → is_blank c ≡ true → flaw s c ≡ None) → (text : List ℕ) → outcome s text ≡ outcome s (past is_blank text)
skip s e f [] = refl
skip s e f (c ∷ cs) = either (is_blank c) _ (λ h. rw h (one_step s c cs s (e c h) (f c h) ∙ skip s e f cs)) (λ h. rw h refl)

pub bracket_at : (text t : List ℕ) → t ≡ past is_blank text → (ps : Parts) (ss : List Segment) → outcome (inside ps ss bracket) text ≡ outcome (inside ps ss bracket) t
bracket_at text t e ps ss = skip (inside ps ss bracket) (λ c h. rw h refl) (λ c h. refl) text ∙ ap (outcome (inside ps ss bracket)) (sym e)

pub colon_at : (from : Option ℤ) (text t : List ℕ) → t ≡ past is_blank text → (ps : Parts) (ss : List Segment) → outcome (inside ps ss (colon from)) text ≡ outcome (inside ps ss (colon from)) t
colon_at from text t e ps ss = skip (inside ps ss (colon from)) (λ c h. rw h refl) (λ c h. refl) text ∙ ap (outcome (inside ps ss (colon from))) (sym e)

skip_closing : (ps : Parts) (ss : List Segment) (segment : Segment) (text : List ℕ) → outcome (inside ps ss (closing segment)) text ≡ outcome (inside ps ss (closing segment)) (past is_blank text)
skip_closing ps ss segment text = skip (inside ps ss (closing segment)) (λ c h. rw h refl) (λ c h. refl) text

pub start_at : (ps : Parts) (text more : List ℕ) → past is_blank text ≡ more → outcome (before_part ps) text ≡ outcome (before_part ps) more
start_at ps text more e = skip (before_part ps) (λ c h. rw h refl) (λ c h. refl) text ∙ ap (outcome (before_part ps)) e

pub behind_at : (ps : Parts) (text more : List ℕ) → past is_blank text ≡ more → outcome (behind_part ps) text ≡ outcome (behind_part ps) more
behind_at ps text more e = skip (behind_part ps) (λ c h. rw h refl) (λ c h. refl) text ∙ ap (outcome (behind_part ps)) e

-- a character that the text doesn't begin with
apart : (c d : ℕ) (cs : List ℕ) → ((more : List ℕ) → c ∷ cs ≡ d ∷ more → ⊥) → (c == d) ≡ false
apart c d cs h = ne_eqb c d (λ e. h cs (ap (λ x. x ∷ cs) e))

-- what closes a segment
pub closes_on : (ps : Parts) (ss : List Segment) (segment : Segment) (text rest : List ℕ) → Closes text rest → outcome (inside ps ss (closing segment)) text ≡ outcome (ready ps (ss ++ segment ∷ [])) rest
closes_on ps ss segment text rest h = skip_closing ps ss segment text ∙ ap (λ x. outcome (inside ps ss (closing segment)) x) h

unclosed : (ps : Parts) (ss : List Segment) (segment : Segment) (text : List ℕ) → Fails is_blank text → ((cs : List ℕ) → text ≡ 93 ∷ cs → ⊥) → outcome (inside ps ss (closing segment)) text ≡ refuses BadToken (length text)
unclosed ps ss segment text h k = grind arith

pub closes_not : (ps : Parts) (ss : List Segment) (segment : Segment) (text : List ℕ) → ((cs : List ℕ) → past is_blank text ≡ 93 ∷ cs → ⊥)
    → outcome (inside ps ss (closing segment)) text ≡ refuses BadToken (length (past is_blank text))
closes_not ps ss segment text h = skip_closing ps ss segment text ∙ unclosed ps ss segment (past is_blank text) (past_fails is_blank text) h

-- numbers, as long as they fit
to_number_fitting : (ps : Parts) (ss : List Segment) (from : Option ℤ) (negative : Bool) (digits cs : List ℕ) → AllDigits 10 cs → is_far (signed_value negative (digits ++ cs)) ≡ false
    → Fitting (inside ps ss (to_number from negative digits)) cs (inside ps ss (to_number from negative (digits ++ cs)))
to_number_fitting ps ss from negative digits [] h k = ap (λ x. inside ps ss (to_number from negative x)) (sym (append-nil digits))
to_number_fitting ps ss from negative digits (c ∷ cs) h k =
    let e = append_assoc digits (c ∷ []) cs in
    let near = inside ps ss (to_number from negative (digits ++ c ∷ [])) in
    let all = ap (λ x. is_far (signed_value negative x)) e ∙ k in
    let later = to_number_fitting ps ss from negative (digits ++ c ∷ []) cs h.1 all in
    (near, rw (digit_is c h.0) refl, rw (digit_is c h.0, far_less negative (digits ++ c ∷ []) cs all) refl, subst (λ x. Fitting near cs (inside ps ss (to_number from negative x))) e later)

number_fitting : (ps : Parts) (ss : List Segment) (k : Spot) (negative : Bool) (digits : List ℕ) → IsNumeral 10 digits → is_large k negative digits ≡ false
    → Fitting (inside ps ss (opening k)) (signed negative digits) (inside ps ss (counting k negative digits))
number_fitting ps ss behind_bracket negative digits h f = (tokens_fit ps ss bracket (signed negative digits) (number negative digits) (number_on behind_bracket negative digits h) f).0
number_fitting ps ss (behind_colon from) negative [] h f = absurd (omega (arith, h.0))
number_fitting ps ss (behind_colon from) true (d ∷ ds) h f =
    (inside ps ss (to_minus from), refl, refl, (inside ps ss (to_number from true (d ∷ [])), rw (digit_is d h.1.0) refl, refl, to_number_fitting ps ss from true (d ∷ []) ds h.1.1 f))
number_fitting ps ss (behind_colon from) false (d ∷ ds) h f =
    (inside ps ss (to_number from false (d ∷ [])), rw (no_blank d h.1.0, digit_no_minus d h.1.0, digit_is d h.1.0) refl, refl, to_number_fitting ps ss from false (d ∷ []) ds h.1.1 f)

-- numbers that don't fit
large_refused : (ps : Parts) (ss : List Segment) (k : Spot) (negative : Bool) (digits after : List ℕ) → IsNumeral 10 digits → is_large k negative digits ≡ true
    → outcome (inside ps ss (opening k)) (signed negative digits ++ after) ≡ refuses TooLarge (length (signed negative digits ++ after))
large_refused ps ss k negative digits after h f =
    let w = spills k negative digits h f in
    let near = inside ps ss (counting k negative w.near) in
    let cut : signed negative digits ++ after ≡ signed negative w.near ++ w.c ∷ (w.more ++ after) = ap (λ x. x ++ after) w.is ∙ append_assoc (signed negative w.near) (w.c ∷ w.more) after in
    subst (λ x. outcome (inside ps ss (opening k)) x ≡ refuses TooLarge (length x)) (sym cut)
    (along (inside ps ss (opening k)) (signed negative w.near) near (w.c ∷ (w.more ++ after)) (number_fitting ps ss k negative w.near w.numeral w.clear)
    ∙ flawed_here near w.c (w.more ++ after) TooLarge (w.flawed ps ss)
    ∙ ap (refuses TooLarge) (omega (arith, counted_since k negative w.near, length-append (signed negative w.near) (w.c ∷ (w.more ++ after)))))

-- blanks after a number
gap_fits : (ps : Parts) (ss : List Segment) (negative : Bool) (digits gap : List ℕ) → AreBlanks gap → is_over negative digits ≡ false → Fitting (inside ps ss (number negative digits)) gap (inside ps ss (at_number negative digits gap))
unfolding at_number
gap_fits ps ss negative digits gap b h = (tokens_fit ps ss (number negative digits) gap (at_number negative digits gap) (gap_behind negative digits gap b) (still_fits gap)).0
  where
    still_fits : (gap : List ℕ) → TokenFits ss (at_number negative digits gap)
    still_fits [] = h
    still_fits (c ∷ cs) = h

-- a number, by its minus and its digits
number_text : (text num after : List ℕ) → text ≡ num ++ after → text ≡ signed (begins 45 num) (unsigned num) ++ after
number_text text num after is = is ∙ ap (λ x. x ++ after) (number_is num)

minus_text : (text num after : List ℕ) → text ≡ num ++ after → begins 45 num ≡ true → text ≡ signed true (unsigned num) ++ after
minus_text text num after is b = rw b at (number_text text num after is)

-- what an opened number, and blanks after it, come to
behind_gap : (ps : Parts) (ss : List Segment) (negative : Bool) (digits text after rest : List ℕ) → text ≡ signed negative digits ++ after → IsNumeral 10 digits → rest ≡ past is_blank after → is_over negative digits ≡ false
    → outcome (inside ps ss bracket) text ≡ outcome (inside ps ss (at_number negative digits (front is_blank after))) rest
behind_gap ps ss negative digits text after rest is n e k =
    let gap = front is_blank after in
    let near = inside ps ss (number negative digits) in
    ap (outcome (inside ps ss bracket)) is ∙ along (inside ps ss bracket) (signed negative digits) near after (number_fitting ps ss behind_bracket negative digits n k)
    ∙ ap (outcome near) (cut_at is_blank after ∙ ap (λ x. gap ++ x) (sym e)) ∙ along near gap (inside ps ss (at_number negative digits gap)) rest (gap_fits ps ss negative digits gap (front_passes is_blank after) k)

large_text : (ps : Parts) (ss : List Segment) (k : Spot) (negative : Bool) (digits text after : List ℕ) → text ≡ signed negative digits ++ after → IsNumeral 10 digits → is_large k negative digits ≡ true
    → outcome (inside ps ss (opening k)) text ≡ refuses TooLarge (length text)
large_text ps ss k negative digits text after is n f = subst (λ x. outcome (inside ps ss (opening k)) x ≡ refuses TooLarge (length x)) (sym is) (large_refused ps ss k negative digits after n f)

-- a colon after a number
pub colon_far : (text num after later : List ℕ) → IsNumberThen text num after → past is_blank after ≡ 58 ∷ later → ¬ FitsBound (number_value num)
    → (ps : Parts) (ss : List Segment) → outcome (inside ps ss bracket) text ≡ refuses TooLarge (length text)
colon_far text num after later h e u ps ss =
    let negative = begins 45 num in
    let digits = unsigned num in
    let is = number_text text num after h.is in
    let gap = front is_blank after in
    let far = unfit_far (number_value num) u in
    either (is_over negative digits) (outcome (inside ps ss bracket) text ≡ refuses TooLarge (length text)) (large_text ps ss behind_bracket negative digits text after is h.numeral)
    (λ k. behind_gap ps ss negative digits text after (58 ∷ later) is h.numeral (sym e) k
    ∙ flawed_here (inside ps ss (at_number negative digits gap)) 58 later TooLarge (colon_flaw ps ss negative digits gap true far)
    ∙ ap (refuses TooLarge) (omega (arith, gap_since negative digits gap, ap length is, length-append (signed negative digits) after, ap length (cut_at is_blank after), length-append gap (past is_blank after), ap length e)))

pub colon_near : (text num after later : List ℕ) → IsNumberThen text num after → past is_blank after ≡ 58 ∷ later → FitsBound (number_value num)
    → (ps : Parts) (ss : List Segment) → outcome (inside ps ss bracket) text ≡ outcome (inside ps ss (colon (Some (number_value num)))) later
colon_near text num after later h e u ps ss =
    let negative = begins 45 num in
    let digits = unsigned num in
    let near = fits_near (number_value num) u in
    let gap = front is_blank after in
    behind_gap ps ss negative digits text after (58 ∷ later) (number_text text num after h.is) h.numeral (sym e) (near_over negative digits near)
    ∙ one_step (inside ps ss (at_number negative digits gap)) 58 later (inside ps ss (colon (Some (number_value num)))) (ap (moved ps ss 58) (colon_move negative digits gap)) (colon_flaw ps ss negative digits gap false near)

-- the second bound
pub to_closed : (from : Option ℤ) (text rest : List ℕ) → past is_blank text ≡ 93 ∷ rest → (ps : Parts) (ss : List Segment) → outcome (inside ps ss (colon from)) text ≡ outcome (ready ps (ss ++ Range from None ∷ [])) rest
to_closed from text rest h ps ss = colon_at from text (93 ∷ rest) (sym h) ps ss

pub to_far : (from : Option ℤ) (text num rest : List ℕ) → IsNumberThen text num rest → ¬ FitsBound (number_value num) → (ps : Parts) (ss : List Segment) → outcome (inside ps ss (colon from)) text ≡ refuses TooLarge (length text)
to_far from text num rest h u ps ss = large_text ps ss (behind_colon from) (begins 45 num) (unsigned num) text rest (number_text text num rest h.is) h.numeral (unfit_far (number_value num) u)

to_as_closing : (ps : Parts) (ss : List Segment) (from : Option ℤ) (negative : Bool) (digits rest : List ℕ) → Fails is_decimal rest
    → outcome (inside ps ss (to_number from negative digits)) rest ≡ outcome (inside ps ss (closing (Range from (Some (signed_value negative digits))))) rest
to_as_closing ps ss from negative digits rest h = grind arith

pub to_near : (from : Option ℤ) (text num rest : List ℕ) → IsNumberThen text num rest → FitsBound (number_value num)
    → (ps : Parts) (ss : List Segment) → outcome (inside ps ss (colon from)) text ≡ outcome (inside ps ss (closing (Range from (Some (number_value num))))) rest
to_near from text num rest h u ps ss =
    let negative = begins 45 num in
    let digits = unsigned num in
    ap (outcome (inside ps ss (colon from))) (number_text text num rest h.is)
    ∙ along (inside ps ss (colon from)) (signed negative digits) (inside ps ss (to_number from negative digits)) rest (number_fitting ps ss (behind_colon from) negative digits h.numeral (fits_near (number_value num) u))
    ∙ to_as_closing ps ss from negative digits rest h.ends

minus_stuck : (ps : Parts) (ss : List Segment) (digits gap rest : List ℕ) → Fails is_blank rest → Fails is_decimal (gap ++ rest) → ((cs : List ℕ) → rest ≡ 58 ∷ cs → ⊥) → Stuck (inside ps ss (at_number true digits gap)) rest
unfolding at_number
minus_stuck ps ss digits [] [] h f k = refl
minus_stuck ps ss digits (g ∷ gs) [] h f k = refl
minus_stuck ps ss digits [] (c ∷ cs) h f k = let a = apart c 58 cs k in let b = and_nothing (c == 93) in (rw (f, h, a, b) refl, rw (f, a) refl)
minus_stuck ps ss digits (g ∷ gs) (c ∷ cs) h f k = let a = apart c 58 cs k in let b = and_nothing (c == 93) in (rw (h, a, b) refl, rw a refl)

index_as_closing : (ps : Parts) (ss : List Segment) (digits gap rest : List ℕ) → Fails is_blank rest → Fails is_decimal (gap ++ rest) → ((cs : List ℕ) → rest ≡ 58 ∷ cs → ⊥)
    → outcome (inside ps ss (at_number false digits gap)) rest ≡ outcome (inside ps ss (closing (Index (digits_value 10 digits)))) rest
unfolding at_number
index_as_closing ps ss digits gap rest h f k = grind arith

gap_ends : (after rest : List ℕ) → rest ≡ past is_blank after → Fails is_decimal after → Fails is_decimal (front is_blank after ++ rest)
gap_ends after rest e h = subst (Fails is_decimal) (cut_at is_blank after ∙ ap (λ x. front is_blank after ++ x) (sym e)) h

pub minus_far : (text num rest : List ℕ) → IsNumberBehind text num rest → begins 45 num ≡ true → ¬ FitsBound (number_value num) → (ps : Parts) (ss : List Segment) → outcome (inside ps ss bracket) text ≡ refuses TooLarge (length text)
minus_far text num rest h b u ps ss =
    let far = unfit_far (number_value num) u in
    large_text ps ss behind_bracket true (unsigned num) text h.after (minus_text text num h.after h.is b) h.numeral (rw b at far)

pub minus_near : (text num rest : List ℕ) → IsNumberBehind text num rest → begins 45 num ≡ true → FitsBound (number_value num) → ((cs : List ℕ) → rest ≡ 58 ∷ cs → ⊥)
    → (ps : Parts) (ss : List Segment) → outcome (inside ps ss bracket) text ≡ refuses BadToken (length rest)
minus_near text num rest h b u k ps ss =
    let digits = unsigned num in
    let gap = front is_blank h.after in
    let near = fits_near (number_value num) u in
    behind_gap ps ss true digits text h.after rest (minus_text text num h.after h.is b) h.numeral h.left (rw b at near)
    ∙ stuck_here (inside ps ss (at_number true digits gap)) rest (minus_stuck ps ss digits gap rest (past_ends is_blank h.after rest h.left) (gap_ends h.after rest h.left h.ends) k)

pub plain_numeral : (num : List ℕ) → IsNumber num → begins 45 num ≡ false → IsNumeral 10 num
plain_numeral num h b = let same = rw b at (number_is num) in subst (IsNumeral 10) (sym same) h

pub index_large : (text num rest : List ℕ) → IsNumberBehind text num rest → IsNumeral 10 num → 2 ^ 64 ≤ digits_value 10 num → (ps : Parts) (ss : List Segment) → outcome (inside ps ss bracket) text ≡ refuses TooLarge (length text)
index_large text num rest h n large ps ss = large_text ps ss behind_bracket false num text h.after h.is n (le-leb (2 ^ 64) (digits_value 10 num) large)

pub index_goes : (text num rest : List ℕ) (index : ℕ) → IsNumberBehind text num rest → IsNumeral 10 num → index ≡ digits_value 10 num → index < 2 ^ 64 → ((cs : List ℕ) → rest ≡ 58 ∷ cs → ⊥)
    → (ps : Parts) (ss : List Segment) → outcome (inside ps ss bracket) text ≡ outcome (inside ps ss (closing (Index index))) rest
index_goes text num rest index h n v small k ps ss =
    behind_gap ps ss false num text h.after rest h.is n h.left (lt-leb (2 ^ 64) (digits_value 10 num) (subst (λ x. x < 2 ^ 64) v small))
    ∙ index_as_closing ps ss num (front is_blank h.after) rest (past_ends is_blank h.after rest h.left) (gap_ends h.after rest h.left h.ends) k
    ∙ ap (λ x. outcome (inside ps ss (closing (Index x))) rest) (sym v)

-- from one place to another
pub stop_along : (o p : Outcome) (s : Stop) → o ≡ p → IsStop p s → IsStop o s
stop_along o p s e h = subst (λ x. IsStop x s) (sym e) h

pub past_shorter : (p : ℕ → Bool) (text : List ℕ) → length (past p text) ≤ length text
past_shorter p text = omega (arith, ap length (cut_at p text), length-append (front p text) (past p text))

pub past_within : (p : ℕ → Bool) (text rest : List ℕ) → rest ≡ past p text → length rest ≤ length text
past_within p text rest e = omega (arith, past_shorter p text, ap length e)

-- what a reader gives: it goes on after the token, or stops there, and what is left is shorter
abbrev pub Read : Token → List ℕ → Result (Segment × Bor (List ℕ)) Stop → Type 0
Read token text r = IfOk r (λ p. GoesOn token text p.0 (chars p.1.now)) × IfErr r (λ s. StopsAt token text s) × IfOk r (λ p. length (chars p.1.now) < length text)

-- in front of what changes nothing
pub read_on : (token before : Token) (text t : List ℕ) (r : Result (Segment × Bor (List ℕ)) Stop) → ((ps : Parts) (ss : List Segment) → outcome (inside ps ss before) text ≡ outcome (inside ps ss token) t) → length t ≤ length text
    → Read token t r → Read before text r
read_on token before text t (Ok p) e n h = ((h.0.0, λ ps ss. e ps ss ∙ h.0.1 ps ss), tt, omega (arith, n, h.2))
read_on token before text t (Err s) e n h = (tt, λ ps ss. stop_along (outcome (inside ps ss before) text) (outcome (inside ps ss token) t) s (e ps ss) (h.1 ps ss), tt)

-- in front of what comes to a closing bracket
pub closing_read : (token : Token) (text : List ℕ) (same segment : Segment) (rest : List ℕ) (r : Result (Segment × Bor (List ℕ)) Stop) → same ≡ segment → is_deep segment ≡ false
    → ((ps : Parts) (ss : List Segment) → outcome (inside ps ss token) text ≡ outcome (inside ps ss (closing segment)) rest) → length rest ≤ length text
    → IfOk r (λ p. (p.0 ≡ same) × Closes rest (chars p.1.now)) → IfErr r (λ s. ClosesNot rest s) → Read token text r
closing_read token text same segment rest (Ok p) e d h n k m =
    let is = k.0 ∙ e in
    let goes : (ps : Parts) (ss : List Segment) → outcome (inside ps ss token) text ≡ outcome (ready ps (ss ++ p.0 ∷ [])) (chars p.1.now) =
    λ ps ss. h ps ss ∙ closes_on ps ss segment rest (chars p.1.now) k.1 ∙ ap (λ x. outcome (ready ps (ss ++ x ∷ [])) (chars p.1.now)) (sym is) in
    ((ap is_deep is ∙ d, goes), tt, omega (arith, n, past_shorter is_blank rest, ap length k.1))
closing_read token text same segment rest (Err s) e d h n k m =
    (tt, λ ps ss. stop_along (outcome (inside ps ss token) text) (refuses BadToken (length (past is_blank rest))) s (h ps ss ∙ closes_not ps ss segment rest m.1) m.0, tt)

-- names and wildcards
ready_ended : (ps : Parts) (ss : List Segment) (token : Token) (segment : Segment) (c : ℕ) (cs : List ℕ) → step (inside ps ss token) c ≡ step (ready ps (ss ++ segment ∷ [])) c → flaw (inside ps ss token) c ≡ None
    → outcome (inside ps ss token) (c ∷ cs) ≡ outcome (ready ps (ss ++ segment ∷ [])) (c ∷ cs)
ready_ended ps ss token segment c cs e f = rw (f, e) refl

name_ends : (ps : Parts) (ss : List Segment) (name rest : List ℕ) → Fails is_xid_continue rest → outcome (inside ps ss (in_name name)) rest ≡ outcome (ready ps (ss ++ Key name ∷ [])) rest
name_ends ps ss name rest h = grind arith

pub name_read : (text name key rest : List ℕ) → IsNameThen text name rest → key ≡ name → (ps : Parts) (ss : List Segment) → outcome (inside ps ss dot) text ≡ outcome (ready ps (ss ++ Key key ∷ [])) rest
name_read text name key rest h e ps ss =
    ap (λ x. outcome (inside ps ss dot) x) h.is ∙ along (inside ps ss dot) name (inside ps ss (in_name name)) rest (tokens_fit ps ss dot name (in_name name) (name_on name h.named) tt).0
    ∙ name_ends ps ss name rest h.ends ∙ ap (λ x. outcome (ready ps (ss ++ Key x ∷ [])) rest) (sym e)

pub one_star : (text : List ℕ) → ((cs : List ℕ) → text ≡ 42 ∷ cs → ⊥) → (ps : Parts) (ss : List Segment) → outcome (inside ps ss star) text ≡ outcome (ready ps (ss ++ Wildcard ∷ [])) text
one_star [] h ps ss = refl
one_star (c ∷ cs) h ps ss = let a = apart c 42 cs h in ready_ended ps ss star Wildcard c cs (rw a refl) (rw a refl)

star_dotted : (ps : Parts) (ss : List Segment) (rest : List ℕ) → outcome (inside ps ss dot) (42 ∷ rest) ≡ outcome (inside ps ss star) rest
unfolding unicode_ident is_xid_start
star_dotted ps ss rest = refl

pub wildcard_read : (text rest : List ℕ) (segment : Segment) (more : List ℕ) → text ≡ 42 ∷ rest → ReadsWildcard rest segment more → ReadsDotted text segment more
wildcard_read text rest segment more e h ps ss =
    ap (λ x. outcome (inside ps ss dot) x) e ∙ star_dotted ps ss rest ∙ h ps ss ∙ ap (λ x. once_deep ps ss segment x more) (omega (arith, ap length e))

-- what is left is no longer than the text
pub number_longer : (text num rest : List ℕ) → text ≡ num ++ rest → length rest ≤ length text
number_longer text num rest e = omega (arith, ap length e, length-append num rest)

pub behind_longer : (text num rest : List ℕ) → IsNumberBehind text num rest → length rest ≤ length text
behind_longer text num rest h = omega (arith, past_shorter is_blank h.after, ap length h.left, ap length h.is, length-append num h.after)

pub same_near : (n v : ℤ) → n ≡ v → FitsBound n → FitsBound v
same_near n v e h = subst FitsBound e h

-- where a part begins
star_here : (ps : Parts) (cs : List ℕ) → outcome (first_dot ps) (42 ∷ cs) ≡ outcome (inside ps [] dot) (42 ∷ cs)
unfolding unicode_ident is_xid_start
star_here ps cs = refl

bracket_here : (ps : Parts) (cs : List ℕ) → outcome (first_dot ps) (91 ∷ cs) ≡ outcome (ready ps []) (91 ∷ cs)
unfolding unicode_ident is_xid_start
bracket_here ps cs = refl

first_dotted : (ps : Parts) (text : List ℕ) → goes_on_dot text ≡ true → outcome (first_dot ps) text ≡ outcome (inside ps [] dot) text
first_dotted ps [] h = absurd (cc)
first_dotted ps (c ∷ cs) h = either (begins_name c) _ (λ e. rw e refl) (λ e. rw (eqb-true c 42 (rw e at h)) (star_here ps cs))

pub dotted_part : (ps : Parts) (text body : List ℕ) → text ≡ 46 ∷ body → goes_on_dot body ≡ true → outcome (before_part ps) text ≡ outcome (ready ps []) text
dotted_part ps text body e h = ap (λ x. outcome (before_part ps) x) e ∙ first_dotted ps body h ∙ ap (λ x. outcome (ready ps []) x) (sym e)

-- after a first dot that no name and no star follows
pub led_part : (ps : Parts) (text : List ℕ) → goes_on_dot text ≡ false → begins 91 text ≡ true → outcome (first_dot ps) text ≡ outcome (ready ps []) text
led_part ps [] h k = absurd (cc)
led_part ps (c ∷ cs) h k = rw (eqb-true c 91 k) (bracket_here ps cs)

-- a part that begins with a segment
pub unled_part : (ps : Parts) (text : List ℕ) → begins_segment text ≡ true → ((cs : List ℕ) → text ≡ 46 ∷ cs → goes_on_dot cs ≡ true) → outcome (before_part ps) text ≡ outcome (ready ps []) text
unled_part ps [] h k = absurd (cc)
unled_part ps (c ∷ cs) h k =
    either (c == 46) _ (λ e. let is = ap (λ x. x ∷ cs) (eqb-true c 46 e) in dotted_part ps (c ∷ cs) cs is (k cs is)) (λ e. rw (eqb-true c 91 (rw e at h)) refl)

-- after a part
no_comma_here : (ps : Parts) (t : List ℕ) → Fails is_blank t → ((cs : List ℕ) → t ≡ 44 ∷ cs → ⊥) → 0 < length t → outcome (behind_part ps) t ≡ refuses BadToken (length t)
no_comma_here ps t h k n = grind arith

pub no_comma : (ps : Parts) (text t : List ℕ) → t ≡ past is_blank text → ((cs : List ℕ) → t ≡ 44 ∷ cs → ⊥) → 0 < length t → outcome (behind_part ps) text ≡ refuses BadToken (length t)
no_comma ps text t e k n = behind_at ps text t (sym e) ∙ no_comma_here ps t (past_ends is_blank text t e) k n

-- from a test that nothing is left
pub none_left : {A : Type 0} (o : Option A) (cs : List ℕ) (Q : A → Type 0) (b : Bool) → MatchOption o (cs ≡ []) Q → is_some o ≡ not b → b ≡ true → cs ≡ []
none_left None cs Q b h e k = h
none_left (Some x) cs Q b h e k = cc

pub some_left : (o : Option (ℕ × Bor (List ℕ))) (cs : List ℕ) (b : Bool) → MatchOption o (cs ≡ []) (λ p. cs ≡ p.0 ∷ chars p.1.now) → is_some o ≡ not b → b ≡ false → 0 < length cs
some_left None cs b h e k = cc
some_left (Some p) cs b h e k = omega (arith, ap length h)

-- what is read of a part
abbrev pub PartRead : (Parts → Place) → List ℕ → Result (List Segment × Bor (List ℕ)) Stop → Type 0
PartRead place text r = IfOk r (λ p. ReadsPart place text p.0 (chars p.1.now)) × IfErr r (λ s. StopsPart place text s) × IfOk r (λ p. length (chars p.1.now) ≤ length text)

pub part_read : (place near : Parts → Place) (text t : List ℕ) (r : Result (List Segment × Bor (List ℕ)) Stop) → ((ps : Parts) → outcome (place ps) text ≡ outcome (near ps) t) → length t ≤ length text → PartRead near t r → PartRead place text r
part_read place near text t (Ok p) e n h = (λ ps. e ps ∙ h.0 ps, tt, omega (arith, n, h.2))
part_read place near text t (Err s) e n h = (tt, λ ps. stop_along (outcome (place ps) text) (outcome (near ps) t) s (e ps) (h.1 ps), tt)
