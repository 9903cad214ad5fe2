-- The header and the body, along the lines.
use Rattle.snap_front.proofs.Prelude.{◌≡◌, ℕ, Bool, true, false, cond, List, [], ◌∷◌, ◌++◌, Option, None, Some, option_map, refl, sym, ap, ◌∙◌, append_assoc, append-nil, concat, concat-append, ended_lines, onto, is_fence, Cut, with_line, at_fence, front_lines, texts_of, front_read}
use Rattle.std.specs.Prelude.{◌==◌}

onto_joined : (c : ℕ) (lines : List (List ℕ)) → concat (onto c lines) ≡ c ∷ concat lines
onto_joined c [] = refl
onto_joined c (line ∷ rest) = refl

-- the lines put together are the text
pub joined : (cs : List ℕ) → concat (ended_lines cs) ≡ cs
joined [] = refl
joined (c ∷ cs) = by (c == 10) (joined cs)
  where
    by : (b : Bool) → concat (ended_lines cs) ≡ cs → concat (cond b ((c ∷ []) ∷ ended_lines cs) (onto c (ended_lines cs))) ≡ c ∷ cs
    by true later = ap (λ x. c ∷ x) later
    by false later = onto_joined c (ended_lines cs) ∙ ap (λ x. c ∷ x) later

-- lines before those of a cut
abbrev pub with_lines : List (List ℕ) → Cut → Cut
with_lines lines cut = record { before = lines ++ cut.before; behind = cut.behind }

-- after a first line that is a fence, and lines that are none
pub record IsBehind (text rest : List ℕ) : Type 0 where
  pub done : List (List ℕ)
  pub is : text ≡ concat done ++ rest
  pub so_far : front_lines (ended_lines text) ≡ option_map (with_lines done) (at_fence (ended_lines rest))

first_cut : (line : List ℕ) (o : Option Cut) → option_map (with_line line) o ≡ option_map (with_lines (line ∷ [])) o
first_cut line None = refl
first_cut line (Some cut) = refl

rest_of_text : (text line rest : List ℕ) → ended_lines text ≡ line ∷ ended_lines rest → text ≡ line ++ rest
rest_of_text text line rest cut = sym (joined text) ∙ ap concat cut ∙ ap (λ x. line ++ x) (joined rest)

pub behind_first : (text first rest : List ℕ) → ended_lines text ≡ first ∷ ended_lines rest → is_fence first ≡ true → IsBehind text rest
behind_first text first rest cut fence = record {
  done = first ∷ [];
  is = rest_of_text text first rest cut ∙ ap (λ x. x ++ rest) (sym (append-nil first));
  so_far = ap front_lines cut ∙ ap (λ b. cond b (option_map (with_line first) (at_fence (ended_lines rest))) None) fence ∙ first_cut first (at_fence (ended_lines rest));
}

one_more : (done : List (List ℕ)) (line : List ℕ) (o : Option Cut)
    → option_map (with_lines done) (option_map (with_line line) o) ≡ option_map (with_lines (done ++ line ∷ [])) o
one_more done line None = refl
one_more done line (Some cut) =
    let make : List (List ℕ) → Option Cut = λ x. Some (record { before = x; behind = cut.behind }) in ap make (sym (append_assoc done (line ∷ []) cut.before))

pub behind_more : (text rest line more : List ℕ) → IsBehind text rest → ended_lines rest ≡ line ∷ ended_lines more → is_fence line ≡ false → IsBehind text more
behind_more text rest line more behind cut fence = record {
  done = behind.done ++ line ∷ [];
  is = behind.is ∙ ap (λ x. concat behind.done ++ x) (rest_of_text rest line more cut) ∙ sym (append_assoc (concat behind.done) line more)
      ∙ ap (λ x. x ++ more) (ap (λ x. concat behind.done ++ x) (sym (append-nil line)) ∙ sym (concat-append behind.done (line ∷ [])));
  so_far = behind.so_far ∙ ap (λ ls. option_map (with_lines behind.done) (at_fence ls)) cut
      ∙ ap (λ b. option_map (with_lines behind.done) (cond b (Some (record { before = []; behind = ended_lines more })) (option_map (with_line line) (at_fence (ended_lines more))))) fence
      ∙ one_more behind.done line (at_fence (ended_lines more));
}

pub at_second : (text rest line more header : List ℕ) → (behind : IsBehind text rest) → ended_lines rest ≡ line ∷ ended_lines more → is_fence line ≡ true → header ≡ concat behind.done → Some (header, more) ≡ front_read text
at_second text rest line more header behind cut fence same =
    sym (ap (option_map texts_of) (behind.so_far ∙ ap (λ ls. option_map (with_lines behind.done) (at_fence ls)) cut
    ∙ ap (λ b. option_map (with_lines behind.done) (cond b (Some (record { before = []; behind = ended_lines more })) (option_map (with_line line) (at_fence (ended_lines more))))) fence)
    ∙ ap (λ x. Some (concat x, concat (ended_lines more))) (append-nil behind.done) ∙ ap (λ x. Some (x, concat (ended_lines more))) (sym same) ∙ ap (λ x. Some (header, x)) (joined more))

pub no_second : (text rest : List ℕ) → IsBehind text rest → rest ≡ [] → None ≡ front_read text
no_second text rest behind none =
    sym (ap (option_map texts_of) (behind.so_far ∙ ap (λ cs. option_map (with_lines behind.done) (at_fence (ended_lines cs))) none))

pub no_first : (text first rest : List ℕ) → ended_lines text ≡ first ∷ ended_lines rest → is_fence first ≡ false → None ≡ front_read text
no_first text first rest cut fence = sym (ap (λ ls. option_map texts_of (front_lines ls)) cut ∙ ap (λ b. option_map texts_of (cond b (option_map (with_line first) (at_fence (ended_lines rest))) None)) fence)
