-- A text as its parts, and the last word of a part.
use Rattle.snap_explain_scalars.proofs.Prelude.{◌≡◌, ◌==◌, ◌<◌, ◌||◌, ℕ, List, [], ◌∷◌, ◌++◌, Bool, true, false, cond, refl, sym, ap, ◌∙◌, inl, inr, arith, length, length-append, append_assoc, nat_tests, list_any, is_cut, in_front, parts_in, ends_otherwise, after_last, IsLastPart, Lacks}

-- all these characters before the first of the parts
abbrev pub behind : List ℕ → List (List ℕ) → List (List ℕ)
behind [] parts = parts
behind (c ∷ cs) parts = in_front c (behind cs parts)

behind_one_more : (cs : List ℕ) (c : ℕ) (parts : List (List ℕ)) → behind (cs ++ c ∷ []) parts ≡ behind cs (in_front c parts)
behind_one_more [] c parts = refl
behind_one_more (d ∷ cs) c parts = ap (in_front d) (behind_one_more cs c parts)

behind_cut : (cs : List ℕ) (parts : List (List ℕ)) → behind cs ([] ∷ parts) ≡ cs ∷ parts
behind_cut [] parts = refl
behind_cut (c ∷ cs) parts = ap (in_front c) (behind_cut cs parts)

goes_on_in : (c : ℕ) (cs : List ℕ) → is_cut c cs ≡ false → parts_in (c ∷ cs) ≡ in_front c (parts_in cs)
goes_on_in c cs inside = ap (λ b. cond b ([] ∷ parts_in cs) (in_front c (parts_in cs))) inside

cut_at : (c : ℕ) (cs : List ℕ) → is_cut c cs ≡ true → parts_in (c ∷ cs) ≡ [] ∷ parts_in cs
cut_at c cs cuts = ap (λ b. cond b ([] ∷ parts_in cs) (in_front c (parts_in cs))) cuts

-- what was passed of a text has no cut
pub record IsPassed (text rest : List ℕ) : Type 0 where
  pub front : List ℕ
  pub is : text ≡ front ++ rest
  pub parts : parts_in text ≡ behind front (parts_in rest)

pub passed-none : (text : List ℕ) → IsPassed text text
passed-none text = record { front = []; is = refl; parts = refl }

pub passed-more : (text rest more : List ℕ) (c : ℕ) → IsPassed text rest → rest ≡ c ∷ more → is_cut c more ≡ false → IsPassed text more
passed-more text rest more c passed is goes_on = record {
  front = passed.front ++ c ∷ [];
  is = passed.is ∙ ap (λ r. passed.front ++ r) is ∙ sym (append_assoc passed.front (c ∷ []) more);
  parts =
      passed.parts ∙ ap (λ r. behind passed.front (parts_in r)) is ∙ ap (behind passed.front) (goes_on_in c more goes_on)
      ∙ sym (behind_one_more passed.front c (parts_in more));
}

-- the first part, where a cut follows what was passed
pub part-cut : (text rest more part : List ℕ) (c : ℕ) → (passed : IsPassed text rest) → rest ≡ c ∷ more → is_cut c more ≡ true → part ≡ passed.front → parts_in text ≡ part ∷ parts_in more
part-cut text rest more part c passed is cuts same =
    passed.parts ∙ ap (λ r. behind passed.front (parts_in r)) is ∙ ap (behind passed.front) (cut_at c more cuts)
    ∙ behind_cut passed.front (parts_in more) ∙ ap (λ p. p ∷ parts_in more) (sym same)

pub part-shorter : (text rest more : List ℕ) (c : ℕ) → IsPassed text rest → rest ≡ c ∷ more → length more < length text
part-shorter text rest more c passed is =
    omega (arith, length-append passed.front (c ∷ more), ap length (passed.is ∙ ap (λ r. passed.front ++ r) is))

nothing_behind : (front : List ℕ) → front ++ [] ≡ front
nothing_behind [] = refl
nothing_behind (x ∷ xs) = ap (λ r. x ∷ r) (nothing_behind xs)

-- the whole text is one part, where all was passed
pub part-whole : (text rest : List ℕ) → IsPassed text rest → rest ≡ [] → parts_in text ≡ text ∷ []
part-whole text rest passed none =
    let same : text ≡ passed.front = passed.is ∙ ap (λ r. passed.front ++ r) none ∙ nothing_behind passed.front in
    passed.parts ∙ ap (λ r. behind passed.front (parts_in r)) none ∙ behind_cut passed.front [] ∙ ap (λ t. t ∷ []) (sym same)

-- a part that is told is the first one, or it is among the others
pub told-cut : (text part more : List ℕ) (first : Bool) → parts_in text ≡ part ∷ parts_in more → first ≡ ends_otherwise part → list_any ends_otherwise (parts_in text) ≡ (first || list_any ends_otherwise (parts_in more))
told-cut text part more first cut same =
    ap (list_any ends_otherwise) cut ∙ ap (λ b. b || list_any ends_otherwise (parts_in more)) (sym same)

or_nothing : (b : Bool) → (b || false) ≡ b
or_nothing true = refl
or_nothing false = refl

pub told-whole : (text : List ℕ) → parts_in text ≡ text ∷ [] → list_any ends_otherwise (parts_in text) ≡ ends_otherwise text
told-whole text whole = ap (list_any ends_otherwise) whole ∙ or_nothing (ends_otherwise text)

same_number : (n : ℕ) → (n == n) ≡ true
same_number n = grind (arith, nat_tests)

-- what stands after the last such mark
module _ (mark : ℕ) where
  chosen : (has : Bool) (c : ℕ) (cs : List ℕ) → list_any (λ d. d == mark) (c ∷ cs) ≡ has → after_last mark (c ∷ cs) ≡ cond has (after_last mark cs) (c ∷ cs)
  chosen has c cs is = ap (λ b. cond b (after_last mark cs) (c ∷ cs)) is

  without_mark : (part : List ℕ) → Lacks mark part → after_last mark part ≡ part
  without_mark [] lacks = refl
  without_mark (c ∷ cs) lacks = chosen false c cs lacks

  or_true : (a : Bool) {b : Bool} → b ≡ true → (a || b) ≡ true
  or_true true is = refl
  or_true false is = is

  mark_itself : (part : List ℕ) → list_any (λ d. d == mark) (mark ∷ part) ≡ true
  mark_itself part = ap (λ b. b || list_any (λ d. d == mark) part) (same_number mark)

  has_mark : (before part : List ℕ) → list_any (λ d. d == mark) (before ++ mark ∷ part) ≡ true
  has_mark [] part = mark_itself part
  has_mark (c ∷ cs) part = or_true (c == mark) (has_mark cs part)

  behind_mark : (before part : List ℕ) → Lacks mark part → after_last mark (before ++ mark ∷ part) ≡ part
  behind_mark [] part lacks = chosen true mark part (mark_itself part) ∙ without_mark part lacks
  behind_mark (c ∷ cs) part lacks = chosen true c (cs ++ mark ∷ part) (has_mark (c ∷ cs) part) ∙ behind_mark cs part lacks

  pub last_part-is : (text part : List ℕ) → IsLastPart mark text part → part ≡ after_last mark text
  last_part-is text part (lacks, inl same) = sym (ap (after_last mark) same ∙ without_mark part lacks)
  last_part-is text part (lacks, inr (before, is)) = sym (ap (after_last mark) is ∙ behind_mark before part lacks)
