-- Lines, and the first literal behind an `@`.
use Rattle.snap_review.proofs.Prelude.{◌≡◌, ◌==◌, ◌⊎◌, ℕ, zero, suc, ◌+◌, ◌-◌, ◌<◌, ◌≤◌, List, [], ◌∷◌, ◌++◌, Bool, true, false, cond, Option, Some, None, refl, sym, ap, ◌∙◌, arith, append_assoc, inl, inr, or_left, or_right, eq-eqb, ne_eqb, nat_tests, literal_reads, IsBehind, BeginsWithNone, Lacks, IsCutAtFirst, past_line, past_lines, option_and_then, from_line, IsMarked, HasNoneMarked}

-- line ends
line_lacks : (text : List ℕ) → Lacks 10 text → past_line text ≡ None
line_lacks [] h = refl
line_lacks (c ∷ cs) h = ap (λ b. cond b (Some cs) (past_line cs)) (or_left (c == 10) _ h) ∙ line_lacks cs (or_right (c == 10) _ h)

line_cut : (before behind : List ℕ) → Lacks 10 before → past_line (before ++ 10 ∷ behind) ≡ Some behind
line_cut [] behind h = refl
line_cut (c ∷ cs) behind h = ap (λ b. cond b (Some (cs ++ 10 ∷ behind)) (past_line (cs ++ 10 ∷ behind))) (or_left (c == 10) _ h) ∙ line_cut cs behind (or_right (c == 10) _ h)

one_less : (n : ℕ) → suc n - 1 ≡ n
one_less n = omega arith

more_lines : (n : ℕ) (text : List ℕ) → 0 < n → past_lines n text ≡ option_and_then (past_lines (n - 1)) (past_line text)
more_lines zero text h = absurd (omega arith)
more_lines (suc n) text h = ap (λ k. option_and_then (past_lines k) (past_line text)) (sym (one_less n))

pub lines_cut : (n : ℕ) (text before behind : List ℕ) → 0 < n → IsCutAtFirst 10 text before behind → past_lines n text ≡ past_lines (n - 1) behind
lines_cut n text before behind h cut = more_lines n text h ∙ ap (option_and_then (past_lines (n - 1))) (ap past_line cut.is ∙ line_cut before behind cut.first)

pub lines_lack : (n : ℕ) (text : List ℕ) → 0 < n → Lacks 10 text → past_lines n text ≡ None
lines_lack n text h lacks = more_lines n text h ∙ ap (option_and_then (past_lines (n - 1))) (line_lacks text lacks)

then_more : (n m : ℕ) (rest : List ℕ) (o : Option (List ℕ)) → option_and_then (past_lines n) o ≡ Some rest → ((more : List ℕ) → past_lines n more ≡ Some rest → past_lines (n + m) more ≡ past_lines m rest)
    → option_and_then (past_lines (n + m)) o ≡ past_lines m rest
then_more n m rest None k each = absurd (cc)
then_more n m rest (Some more) k each = each more k

lines_then : (n m : ℕ) (text rest : List ℕ) → past_lines n text ≡ Some rest → past_lines (n + m) text ≡ past_lines m rest
lines_then zero m text rest h = let same : text ≡ rest = cc in let zero_add : 0 + m ≡ m = omega arith in ap (λ k. past_lines k text) zero_add ∙ ap (past_lines m) same
lines_then (suc n) m text rest h = let moved : suc n + m ≡ suc (n + m) = omega arith in ap (λ k. past_lines k text) moved ∙ then_more n m rest (past_line text) h (λ more k. lines_then n m more rest k)

not_zero : (line : ℕ) → 0 < line → (line == 0) ≡ false
not_zero line h = ne_eqb line 0 (λ e. absurd (omega (arith, e, h)))

at_line : (line : ℕ) (source : List ℕ) → 0 < line → from_line line source ≡ past_lines (line - 1) source
at_line line source h = ap (λ b. cond b None (past_lines (line - 1) source)) (not_zero line h)

no_line : (source rest : List ℕ) (at : ℕ) → from_line at source ≡ Some rest → 0 < at
no_line source rest at h = by (at == 0) refl
  where
    by : (b : Bool) → (at == 0) ≡ b → 0 < at
    by true e = absurd (let no : None ≡ Some rest = sym (ap (λ b. cond b None (past_lines (at - 1) source)) e) ∙ h in cc)
    by false e = grind (arith, nat_tests)

pub line_again : (at line : ℕ) (source ahead : List ℕ) → from_line at source ≡ Some ahead → at ≤ line → from_line line source ≡ past_lines (line - at) ahead
line_again at line source ahead h later =
    let some = no_line source ahead at h in
    let sum : line - 1 ≡ (at - 1) + (line - at) = omega arith in
    at_line line source (omega arith) ∙ ap (λ k. past_lines k source) sum ∙ lines_then (at - 1) (line - at) source ahead (sym (at_line at source some) ∙ h)

-- a rest of a text
pub record IsRest (text rest : List ℕ) : Type 0 where
  pub front : List ℕ
  pub is : text ≡ front ++ rest

pub rest_then : (a b c : List ℕ) → IsRest a b → IsRest b c → IsRest a c
rest_then a b c r s = record { front = r.front ++ s.front; is = r.is ∙ ap (λ x. r.front ++ x) s.is ∙ sym (append_assoc r.front s.front c) }

line_rest : (text rest : List ℕ) → past_line text ≡ Some rest → IsRest text rest
line_rest [] rest h = absurd (cc)
line_rest (c ∷ cs) rest h = by (c == 10) refl (line_rest cs rest)
  where
    by : (b : Bool) → (c == 10) ≡ b → (past_line cs ≡ Some rest → IsRest cs rest) → IsRest (c ∷ cs) rest
    by true e later = let same : Some cs ≡ Some rest = sym (ap (λ b. cond b (Some cs) (past_line cs)) e) ∙ h in record { front = c ∷ []; is = cc }
    by false e later = let more = later (sym (ap (λ b. cond b (Some cs) (past_line cs)) e) ∙ h) in record { front = c ∷ more.front; is = ap (λ x. c ∷ x) more.is }

lines_rest : (n : ℕ) (text rest : List ℕ) → past_lines n text ≡ Some rest → IsRest text rest
lines_rest zero text rest h = record { front = []; is = cc }
lines_rest (suc n) text rest h = by (past_line text) refl h (λ more k. lines_rest n more rest k)
  where
    by : (o : Option (List ℕ)) → past_line text ≡ o → option_and_then (past_lines n) o ≡ Some rest → ((more : List ℕ) → past_lines n more ≡ Some rest → IsRest more rest) → IsRest text rest
    by None e k later = absurd (cc)
    by (Some more) e k later = rest_then text more rest (line_rest text more e) (later more k)

pub from_rest : (line : ℕ) (text rest : List ℕ) → from_line line text ≡ Some rest → IsRest text rest
from_rest line text rest h = lines_rest (line - 1) text rest (sym (at_line line text (no_line text rest line h)) ∙ h)

-- the first literal behind an `@`
pub record IsSearched (text rest : List ℕ) : Type 0 where
  pub found : (here behind : List ℕ) → IsMarked rest here behind → IsMarked text here behind
  pub none : HasNoneMarked rest → HasNoneMarked text

pub searched_start : (text : List ℕ) → IsSearched text text
searched_start text = record { found = λ here behind h. h; none = λ h. h }

pub searched_then : (a b c : List ℕ) → IsSearched a b → IsSearched b c → IsSearched a c
searched_then a b c r s = record { found = λ here behind h. r.found here behind (s.found here behind h); none = λ h. r.none (s.none h) }

no_mark : (c : ℕ) (cs more : List ℕ) → Lacks 64 (c ∷ cs) → c ≡ 64 → BeginsWithNone literal_reads more
no_mark c cs more h e = absurd (let no : true ≡ false = sym (eq-eqb c 64 e) ∙ or_left (c == 64) _ h in cc)

past_unmarked : (before rest : List ℕ) → Lacks 64 before → IsSearched (before ++ rest) rest
past_unmarked [] rest h = searched_start rest
past_unmarked (c ∷ cs) rest h =
    let more = past_unmarked cs rest (or_right (c == 64) _ h) in
    record {
      found = λ here behind k. inr (no_mark c cs (cs ++ rest) h, more.found here behind k);
      none = λ k. (no_mark c cs (cs ++ rest) h, more.none k);
    }

pub searched_mark : (text rest before here : List ℕ) → IsSearched text rest → IsCutAtFirst 64 rest before here → BeginsWithNone literal_reads here → IsSearched text here
searched_mark text rest before here r cut none =
    let past = past_unmarked before (64 ∷ here) cut.first in
    let last : IsSearched (64 ∷ here) here = record { found = λ h b k. inr (λ e. none, k); none = λ k. (λ e. none, k) } in
    searched_then text rest here r (rw cut.is (searched_then (before ++ 64 ∷ here) (64 ∷ here) here past last))

pub marked_here : (text rest before here behind : List ℕ) → IsSearched text rest → IsCutAtFirst 64 rest before here → IsBehind literal_reads here behind → IsMarked text here behind
marked_here text rest before here behind r cut h =
    r.found here behind (rw cut.is ((past_unmarked before (64 ∷ here) cut.first).found here behind (inl (refl, refl, h))))

none_lacks : (text : List ℕ) → Lacks 64 text → HasNoneMarked text
none_lacks [] h = tt
none_lacks (c ∷ cs) h = (no_mark c cs cs h, none_lacks cs (or_right (c == 64) _ h))

pub none_marked : (text rest : List ℕ) → IsSearched text rest → Lacks 64 rest → HasNoneMarked text
none_marked text rest r h = r.none (none_lacks rest h)

pub marked_rest : (text here behind : List ℕ) → IsMarked text here behind → IsRest text here
marked_rest [] here behind h = absurd h
marked_rest (c ∷ cs) here behind (inl h) = record { front = c ∷ []; is = ap (λ x. c ∷ x) (sym h.1) }
marked_rest (c ∷ cs) here behind (inr h) = let more = marked_rest cs here behind h.1 in record { front = c ∷ more.front; is = ap (λ x. c ∷ x) more.is }

pub marked_literal : (text here behind : List ℕ) → IsMarked text here behind → IsBehind literal_reads here behind
marked_literal [] here behind h = absurd h
marked_literal (c ∷ cs) here behind (inl h) = rw h.1 h.2
marked_literal (c ∷ cs) here behind (inr h) = marked_literal cs here behind h.1

-- of two rests of one text the shorter is a rest of the longer
pub record OneOfTwo (x y : List ℕ) : Type 0 where
  pub either : IsRest x y ⊎ IsRest y x

pub two_rests : (a x b y : List ℕ) → a ++ x ≡ b ++ y → OneOfTwo x y
two_rests [] x b y e = record { either = inl (record { front = b; is = e }) }
two_rests (c ∷ a) x [] y e = record { either = inr (record { front = c ∷ a; is = sym e }) }
two_rests (c ∷ a) x (d ∷ b) y e = two_rests a x b y cc
