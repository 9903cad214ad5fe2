-- Reading a literal from its front.
use Rattle.snap_text_literals.proofs.Prelude.{◌≡◌, ◌==◌, ℕ, List, [], ◌∷◌, ◌++◌, Bool, true, false, cond, Some, None, length, refl, sym, ap, ◌∙◌, arith, append-nil, append_assoc, length-append, inl, inr, is_some, list_any, nat_tests, begins, or_left, or_right, some_same, unit_of, hashes, past_hashes, past_end, has_end, Inside, IsBody, IsQuoted, IsRaw, literal_reads, is_return, ends, goes_on, or_from, ne_eqb, eq-eqb}
use Rattle.snap_text_literals.proofs.Hashed.{none_if, past_hashes-is, past_hashes-all, past_hashes-longer, past_hashes-quote, count-one, differ}

-- what was made, and what is left, are the whole
pub record IsReading (Reads : List ℕ → List ℕ → Type 0) (source made rest : List ℕ) : Type 0 where
  pub forward : (t : List ℕ) → Reads rest t → Reads source (made ++ t)
  pub back : (t : List ℕ) → Reads source t → (u : List ℕ) × Reads rest u

pub reading_step : (Reads : List ℕ → List ℕ → Type 0) (source made rest next given more : List ℕ) → IsReading Reads source made rest → next ≡ made ++ given
    → ((t : List ℕ) → Reads more t → Reads rest (given ++ t)) → ((t : List ℕ) → Reads rest t → (u : List ℕ) × Reads more u) → IsReading Reads source next more
reading_step Reads source made rest next given more r is ahead behind = record {
  forward = λ t h. rw (is, append_assoc made given t) (r.forward (given ++ t) (ahead t h));
  back = λ t h. let p = r.back t h in behind p.0 p.1;
}

pub reading_end : (Reads : List ℕ → List ℕ → Type 0) (source made rest : List ℕ) → IsReading Reads source made rest → Reads rest [] → Reads source made
reading_end Reads source made rest r h = rw (append-nil made) at (r.forward [] h)

pub reading_none : (Reads : List ℕ → List ℕ → Type 0) (source made rest : List ℕ) → IsReading Reads source made rest → ((u : List ℕ) → Reads rest u → ⊥) → (t : List ℕ) → Reads source t → ⊥
reading_none Reads source made rest r never t h = let p = r.back t h in never p.0 p.1

-- units
unit-one : (source given rest other last : List ℕ) → unit_of source ≡ Some (given, rest) → unit_of source ≡ Some (other, last) → (given ≡ other) × (rest ≡ last)
unit-one source given rest other last h k =
    let same : (given, rest) ≡ (other, last) = some_same (given, rest) (other, last) (sym h ∙ k) in
    (ap (λ (p : List ℕ × List ℕ). p.0) same, ap (λ (p : List ℕ × List ℕ). p.1) same)

no_unit : (source given rest : List ℕ) → source ≡ 34 ∷ [] → unit_of source ≡ Some (given, rest) → ⊥
no_unit source given rest s u = let e : None ≡ Some (given, rest) = sym (ap unit_of s) ∙ u in cc

pub inside-one : {source text other : List ℕ} → Inside source text → Inside source other → text ≡ other
inside-one (ends s e) (ends s' e') = e ∙ sym e'
inside-one {source} (ends s e) (goes_on given rest more u m h) = absurd (no_unit source given rest s u)
inside-one {source} (goes_on given rest more u m h) (ends s e) = absurd (no_unit source given rest s u)
inside-one {source} (goes_on given rest more u m h) (goes_on other last after v n k) =
    let same = unit-one source given rest other last u v in
    m ∙ ap (λ g. g ++ more) same.0 ∙ ap (λ t. other ++ t) (inside-one h (rw same.1 k)) ∙ sym n

pub inside_ahead : (rest given more : List ℕ) → unit_of rest ≡ Some (given, more) → (t : List ℕ) → Inside more t → Inside rest (given ++ t)
inside_ahead rest given more u t h = goes_on given more t u refl h

pub inside_behind : (rest given more : List ℕ) → unit_of rest ≡ Some (given, more) → (t : List ℕ) → Inside rest t → (u : List ℕ) × Inside more u
inside_behind rest given more u t (ends s e) = absurd (no_unit rest given more s u)
inside_behind rest given more u t (goes_on other last after v n k) =
    let same = unit-one rest given more other last u v in
    (after, rw same.1 k)

pub inside_none : (rest : List ℕ) → unit_of rest ≡ None → (rest ≡ 34 ∷ [] → ⊥) → (t : List ℕ) → Inside rest t → ⊥
inside_none rest u never t (ends s e) = never s
inside_none rest u never t (goes_on other last after v n k) = let e : None ≡ Some (other, last) = sym u ∙ v in cc

-- bodies of raw literals
pub body_on : (n : ℕ) (rest : List ℕ) (c : ℕ) (more : List ℕ) → rest ≡ c ∷ more → (c ≡ 13 → ⊥) → past_end n rest ≡ None → (t : List ℕ) → IsBody n more t → IsBody n rest ((c ∷ []) ++ t)
body_on n rest c more is other no_end t h =
    let whole : rest ≡ c ∷ (t ++ 34 ∷ hashes n) = is ∙ ap (λ r. c ∷ r) h.is in
    let none = ap is_some (ap (past_end n) (sym whole) ∙ no_end) in
    let still = none_if (c == 34) (past_hashes n (t ++ 34 ∷ hashes n)) (past_hashes n t) none (past_hashes-longer n t (34 ∷ hashes n)) in record {
      is = whole;
      no_return = or_from (c == 13) (list_any is_return t) (ne_eqb c 13 other) h.no_return;
      no_end = or_from (is_some (past_end n (c ∷ t))) (has_end n t) still h.no_end;
    }

pub body_off : (n : ℕ) (rest : List ℕ) (c : ℕ) (more : List ℕ) → rest ≡ c ∷ more → past_end n rest ≡ None → (t : List ℕ) → IsBody n rest t → (u : List ℕ) × IsBody n more u
body_off n rest c more is no_end [] h =
    absurd (let e : None ≡ Some [] = sym no_end ∙ ap (past_end n) h.is ∙ past_hashes-all n in cc)
body_off n rest c more is no_end (d ∷ u) h = (
  u,
  record {
    is = let e : c ∷ more ≡ d ∷ (u ++ 34 ∷ hashes n) = sym is ∙ h.is in cc;
    no_return = or_right (d == 13) (list_any is_return u) h.no_return;
    no_end = or_right (is_some (past_end n (d ∷ u))) (has_end n u) h.no_end;
  },
)

pub body_done : (n : ℕ) (rest behind : List ℕ) → past_end n rest ≡ Some behind → behind ≡ [] → IsBody n rest []
body_done n [] behind h none = absurd (cc)
body_done n (c ∷ more) behind h none = by (c == 34) refl
  where
    by : (b : Bool) → (c == 34) ≡ b → IsBody n (c ∷ more) []
    by true e =
        let is : c ≡ 34 = grind (arith, nat_tests) in
        let k : past_hashes n more ≡ Some [] = sym (ap (λ t. cond t (past_hashes n more) None) e) ∙ h ∙ ap Some none in
        let same : more ≡ hashes n = past_hashes-is n more [] k ∙ append-nil (hashes n) in
        record { is = cc; no_return = refl; no_end = refl }
    by false e = absurd (let no : None ≡ Some behind = sym (ap (λ t. cond t (past_hashes n more) None) e) ∙ h in cc)

pub body_too_long : (n : ℕ) (rest behind : List ℕ) (d : ℕ) (ds : List ℕ) → past_end n rest ≡ Some behind → behind ≡ d ∷ ds → (t : List ℕ) → IsBody n rest t → ⊥
body_too_long n rest behind d ds e long [] h =
    let k : Some (d ∷ ds) ≡ Some [] = sym (e ∙ ap Some long) ∙ ap (past_end n) h.is ∙ past_hashes-all n in cc
body_too_long n rest behind d ds e long (f ∷ u) h =
    let some : is_some (past_end n (f ∷ (u ++ 34 ∷ hashes n))) ≡ true = ap is_some (ap (past_end n) (sym h.is) ∙ e) in
    let none : is_some (past_end n (f ∷ (u ++ 34 ∷ hashes n))) ≡ false =
    none_if (f == 34) (past_hashes n u) (past_hashes n (u ++ 34 ∷ hashes n)) (or_left (is_some (past_end n (f ∷ u))) (has_end n u) h.no_end) (past_hashes-quote n u (hashes n)) in
    let no : true ≡ false = sym some ∙ none in
    cc

pub body_nothing : (n : ℕ) (rest : List ℕ) → rest ≡ [] → (t : List ℕ) → IsBody n rest t → ⊥
body_nothing n rest is [] h = let e : [] ≡ 34 ∷ hashes n = sym is ∙ h.is in cc
body_nothing n rest is (d ∷ u) h = let e : [] ≡ d ∷ (u ++ 34 ∷ hashes n) = sym is ∙ h.is in cc

pub body_with_return : (n : ℕ) (rest : List ℕ) (c : ℕ) (more : List ℕ) → rest ≡ c ∷ more → c ≡ 13 → (t : List ℕ) → IsBody n rest t → ⊥
body_with_return n rest c more is return [] h =
    let e : c ∷ more ≡ 34 ∷ hashes n = sym is ∙ h.is in
    let quote : c ≡ 34 = cc in
    omega arith
body_with_return n rest c more is return (d ∷ u) h =
    let e : c ∷ more ≡ d ∷ (u ++ 34 ∷ hashes n) = sym is ∙ h.is in
    let same : d ≡ 13 = cc in
    let no : true ≡ false = sym (eq-eqb d 13 same) ∙ or_left (d == 13) (list_any is_return u) h.no_return in
    cc

pub body-one : (n : ℕ) (text other x : List ℕ) → text ++ 34 ∷ hashes n ≡ other ++ 34 ∷ hashes n → text ≡ other
body-one n [] [] x e = refl
body-one n [] (d ∷ u) x e = absurd (omega (arith, ap length e, length-append u (34 ∷ hashes n)))
body-one n (c ∷ t) [] x e = absurd (omega (arith, ap length e, length-append t (34 ∷ hashes n)))
body-one n (c ∷ t) (d ∷ u) x e =
    let is : c ≡ d = cc in
    let more : t ++ 34 ∷ hashes n ≡ u ++ 34 ∷ hashes n = cc in
    let same : t ≡ u = body-one n t u x more in
    cc

-- from the count and what follows the run, the raw literals
pub raw_body : (source rest : List ℕ) (count : ℕ) → source ≡ hashes count ++ rest → begins 35 rest ≡ false → (t : List ℕ) → IsRaw (114 ∷ source) t → (body : List ℕ) × (rest ≡ 34 ∷ body) × IsBody count body t
raw_body source rest count is whole t h =
    let more : source ≡ hashes h.count ++ 34 ∷ h.body = (let e = h.is in cc) in
    let same = count-one h.count count h.body rest (sym more ∙ is) whole in
    (h.body, sym same.1, rw same.0 at h.spelled)

raw-one : (source text other : List ℕ) → IsRaw source text → IsRaw source other → text ≡ other
raw-one source text other h k =
    let e : 114 ∷ (hashes h.count ++ 34 ∷ h.body) ≡ 114 ∷ (hashes k.count ++ 34 ∷ k.body) = sym h.is ∙ k.is in
    let inner : hashes h.count ++ 34 ∷ h.body ≡ hashes k.count ++ 34 ∷ k.body = cc in
    let same = count-one h.count k.count h.body (34 ∷ k.body) inner refl in
    let body : h.body ≡ k.body = (let f = same.1 in cc) in
    let frame : hashes k.count ≡ hashes h.count = ap hashes (sym same.0) in
    body-one h.count text other [] (sym h.spelled.is ∙ body ∙ k.spelled.is ∙ ap (λ x. other ++ 34 ∷ x) frame)

apart : (source text other : List ℕ) → IsQuoted source text → IsRaw source other → ⊥
apart source text other h k =
    let e : 34 ∷ h.behind ≡ 114 ∷ (hashes k.count ++ 34 ∷ k.body) = sym h.is ∙ k.is in
    differ 34 114 refl cc

pub reads-one : (source text other : List ℕ) → literal_reads source text → literal_reads source other → text ≡ other
reads-one source text other (inl h) (inl k) =
    let same : h.behind ≡ k.behind = (let e : 34 ∷ h.behind ≡ 34 ∷ k.behind = sym h.is ∙ k.is in cc) in
    inside-one h.inside (rw same k.inside)
reads-one source text other (inl h) (inr k) = absurd (apart source text other h k)
reads-one source text other (inr h) (inl k) = absurd (apart source other text k h)
reads-one source text other (inr h) (inr k) = raw-one source text other h k
