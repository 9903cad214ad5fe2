-- Literals at the front of a text.
use Rattle.snap_text_literals.proofs.Prelude.{◌≡◌, ◌==◌, ℕ, zero, suc, ◌+◌, List, [], ◌∷◌, ◌++◌, Bool, true, false, cond, Option, Some, None, length, refl, sym, ap, ◌∙◌, arith, append_assoc, length-append, inl, inr, is_some, list_any, or_left, or_right, or_from, ne_eqb, eq-eqb, some_same, nat_tests, begins, unit_of, hashes, past_hashes, past_end, has_end, is_return, encodes, encodes-chars, encodes-append, chars, IsUtf8, ◌⊎◌, Inside, ends, goes_on, IsBody, IsQuoted, IsRaw, literal_reads, IsBehind, BeginsWithNone}
use Rattle.snap_text_literals.proofs.Hashed.{past_hashes-is, past_hashes-onto, none_if, past_hashes-longer, past_hashes-quote, differ, count-one}
use Rattle.snap_text_literals.proofs.FrontUnits.{Takes, takes_unit}

-- what stands behind a literal in the rest stands behind one in the source, and the other way round
pub record IsReached (Reads : List ℕ → List ℕ → Type 0) (source rest : List ℕ) : Type 0 where
  pub forward : (b : List ℕ) → IsBehind Reads rest b → IsBehind Reads source b
  pub back : (b : List ℕ) → IsBehind Reads source b → IsBehind Reads rest b

pub reached_start : (Reads : List ℕ → List ℕ → Type 0) (source : List ℕ) → IsReached Reads source source
reached_start Reads source = record { forward = λ b h. h; back = λ b h. h }

pub reached_then : (Reads : List ℕ → List ℕ → Type 0) (source rest more : List ℕ) → IsReached Reads source rest → IsReached Reads rest more → IsReached Reads source more
reached_then Reads source rest more r s = record { forward = λ b h. r.forward b (s.forward b h); back = λ b h. s.back b (r.back b h) }

-- quoted ones
pub record Filled (text : List ℕ) : Type 0 where
  pub first : ℕ
  pub more : List ℕ
  pub is : text ≡ first ∷ more

some_unit : (source given rest : List ℕ) → unit_of source ≡ Some (given, rest) → Filled source
some_unit [] given rest u = absurd (cc)
some_unit (c ∷ cs) given rest u = record { first = c; more = cs; is = refl }

inside_filled : {source text : List ℕ} → Inside source text → Filled source
inside_filled (ends s e) = record { first = 34; more = []; is = s }
inside_filled {source} (goes_on given rest more u m h) = some_unit source given rest u

-- a unit of a literal is one of the whole text too
unit_longer : (source given rest text b : List ℕ) → unit_of source ≡ Some (given, rest) → Inside rest text → unit_of (source ++ b) ≡ Some (given, rest ++ b)
unit_longer source given rest text b u h =
    let t = takes_unit source given rest u in
    let f = inside_filled h in
    let whole : source ++ b ≡ t.used ++ f.first ∷ (f.more ++ b) = ap (λ x. x ++ b) t.is ∙ append_assoc t.used rest b ∙ ap (λ x. t.used ++ (x ++ b)) f.is in
    ap unit_of whole ∙ t.same f.first f.more (f.more ++ b) f.is ∙ ap (λ x. Some (given, x ++ b)) (sym f.is)

forward_unit : (rest given more : List ℕ) → unit_of rest ≡ Some (given, more) → (b : List ℕ) → IsBehind Inside more b → IsBehind Inside rest b
forward_unit rest given more u b h =
    let t = takes_unit rest given more u in
    let f = inside_filled h.reads in
    let ahead : more ≡ f.first ∷ (f.more ++ b) = h.is ∙ ap (λ x. x ++ b) f.is in
    record {
      front = t.used ++ h.front;
      text = given ++ h.text;
      is = t.is ∙ ap (λ x. t.used ++ x) h.is ∙ sym (append_assoc t.used h.front b);
      reads = goes_on given h.front h.text (ap (λ x. unit_of (t.used ++ x)) f.is ∙ t.same f.first (f.more ++ b) f.more ahead ∙ ap (λ x. Some (given, x)) (sym f.is)) refl h.reads;
    }

no_unit : (source b given rest : List ℕ) → source ≡ 34 ∷ b → unit_of source ≡ Some (given, rest) → ⊥
no_unit source b given rest s u = let e : None ≡ Some (given, rest) = sym (ap unit_of s) ∙ u in cc

back_unit : (rest given more : List ℕ) → unit_of rest ≡ Some (given, more) → (b front : List ℕ) {text : List ℕ} → rest ≡ front ++ b → Inside front text → IsBehind Inside more b
back_unit rest given more u b front is (ends s e) = absurd (no_unit rest b given more (is ∙ ap (λ x. x ++ b) s) u)
back_unit rest given more u b front is (goes_on other last after v n k) =
    let w : unit_of rest ≡ Some (other, last ++ b) = ap unit_of is ∙ unit_longer front other last after b v k in
    let pair : (given, more) ≡ (other, last ++ b) = some_same (given, more) (other, last ++ b) (sym u ∙ w) in
    record { front = last; text = after; is = ap (λ (p : List ℕ × List ℕ). p.1) pair; reads = k }

pub reached_unit : (rest given more : List ℕ) → unit_of rest ≡ Some (given, more) → IsReached Inside rest more
reached_unit rest given more u = record { forward = forward_unit rest given more u; back = λ b h. back_unit rest given more u b h.front h.is h.reads }

-- where no unit follows only the last quote does
last_is : (rest b front : List ℕ) {text : List ℕ} → unit_of rest ≡ None → rest ≡ front ++ b → Inside front text → rest ≡ 34 ∷ b
last_is rest b front u is (ends s e) = is ∙ ap (λ x. x ++ b) s
last_is rest b front u is (goes_on other last after v n k) = absurd (let e : None ≡ Some (other, last ++ b) = sym u ∙ ap unit_of is ∙ unit_longer front other last after b v k in cc)

pub quoted_ends : (source rest behind : List ℕ) → IsReached Inside source rest → rest ≡ 34 ∷ behind → IsBehind Inside source behind
quoted_ends source rest behind r is = r.forward behind (record { front = 34 ∷ []; text = []; is = is; reads = ends refl refl })

pub quoted_none : (source rest : List ℕ) → IsReached Inside source rest → unit_of rest ≡ None → ((cs : List ℕ) → rest ≡ 34 ∷ cs → ⊥) → BeginsWithNone Inside source
quoted_none source rest r u never b h = let k = r.back b h in never b (last_is rest b k.front u k.is k.reads)

inside-alone : (source more whole : List ℕ) {text other : List ℕ} → Inside source text → whole ≡ source ++ more → Inside whole other → more ≡ []
inside-alone source more whole (ends s e) is (ends s' e') =
    let both : 34 ∷ more ≡ 34 ∷ [] = sym (is ∙ ap (λ x. x ++ more) s) ∙ s' in cc
inside-alone source more whole (ends s e) is (goes_on given rest after u m h) = absurd (no_unit whole more given rest (is ∙ ap (λ x. x ++ more) s) u)
inside-alone source more whole (goes_on given rest after u m h) is (ends s e) =
    absurd (no_unit whole [] given (rest ++ more) s (ap unit_of is ∙ unit_longer source given rest after more u h))
inside-alone source more whole (goes_on given rest after u m h) is (goes_on other last later v n k) =
    let w : unit_of whole ≡ Some (given, rest ++ more) = ap unit_of is ∙ unit_longer source given rest after more u h in
    let pair : (other, last) ≡ (given, rest ++ more) = some_same (other, last) (given, rest ++ more) (sym v ∙ w) in
    inside-alone rest more last h (ap (λ (p : List ℕ × List ℕ). p.1) pair) k

-- raw ones
none_of : (o : Option (List ℕ)) → is_some o ≡ false → o ≡ None
none_of None h = refl
none_of (Some x) h = absurd (cc)

forward_body : (n : ℕ) (rest : List ℕ) (c : ℕ) (more : List ℕ) → rest ≡ c ∷ more → (c ≡ 13 → ⊥) → past_end n rest ≡ None → (b : List ℕ) → IsBehind (IsBody n) more b → IsBehind (IsBody n) rest b
forward_body n rest c more is other no_end b h =
    let t = h.text in
    let whole : rest ≡ c ∷ (h.front ++ b) = is ∙ ap (λ x. c ∷ x) h.is in
    let at : h.front ++ b ≡ t ++ (34 ∷ hashes n ++ b) = ap (λ x. x ++ b) h.reads.is ∙ append_assoc t (34 ∷ hashes n) b in
    let none : is_some (past_end n (c ∷ (t ++ (34 ∷ hashes n ++ b)))) ≡ false = ap (λ x. is_some (past_end n (c ∷ x))) (sym at) ∙ ap (λ x. is_some (past_end n x)) (sym whole) ∙ ap is_some no_end in
    record {
      front = c ∷ h.front;
      text = c ∷ t;
      is = whole;
      reads = record {
        is = ap (λ x. c ∷ x) h.reads.is;
        no_return = or_from (c == 13) (list_any is_return t) (ne_eqb c 13 other) h.reads.no_return;
        no_end = or_from (is_some (past_end n (c ∷ t))) (has_end n t)
            (none_if (c == 34) (past_hashes n (t ++ (34 ∷ hashes n ++ b))) (past_hashes n t) none (past_hashes-longer n t (34 ∷ hashes n ++ b))) h.reads.no_end;
      };
    }

end_here : (n : ℕ) (x : List ℕ) → past_end n (34 ∷ (hashes n ++ x)) ≡ Some x
end_here n x = past_hashes-onto n x

back_body : (n : ℕ) (rest : List ℕ) (c : ℕ) (more : List ℕ) → rest ≡ c ∷ more → past_end n rest ≡ None → (b front text : List ℕ) → rest ≡ front ++ b → IsBody n front text → IsBehind (IsBody n) more b
back_body n rest c more is no_end b front [] at h =
    absurd (let e : None ≡ Some b = sym no_end ∙ ap (past_end n) (at ∙ ap (λ x. x ++ b) h.is) ∙ end_here n b in cc)
back_body n rest c more is no_end b front (d ∷ u) at h =
    let same : c ∷ more ≡ d ∷ ((u ++ 34 ∷ hashes n) ++ b) = sym is ∙ at ∙ ap (λ x. x ++ b) h.is in
    record {
      front = u ++ 34 ∷ hashes n;
      text = u;
      is = cc;
      reads = record {
        is = refl;
        no_return = or_right (d == 13) (list_any is_return u) h.no_return;
        no_end = or_right (is_some (past_end n (d ∷ u))) (has_end n u) h.no_end;
      };
    }

pub reached_body : (n : ℕ) (rest : List ℕ) (c : ℕ) (more : List ℕ) → rest ≡ c ∷ more → (c ≡ 13 → ⊥) → past_end n rest ≡ None → IsReached (IsBody n) rest more
reached_body n rest c more is other no_end = record {
  forward = forward_body n rest c more is other no_end;
  back = λ b h. back_body n rest c more is no_end b h.front h.text h.is h.reads;
}

past_end-is : (n : ℕ) (rest behind : List ℕ) → past_end n rest ≡ Some behind → rest ≡ 34 ∷ (hashes n ++ behind)
past_end-is n [] behind h = absurd (cc)
past_end-is n (c ∷ cs) behind h = by (c == 34) refl
  where
    by : (b : Bool) → (c == 34) ≡ b → c ∷ cs ≡ 34 ∷ (hashes n ++ behind)
    by true e =
        let is : c ≡ 34 = grind (arith, nat_tests) in
        let more : cs ≡ hashes n ++ behind = past_hashes-is n cs behind (sym (ap (λ t. cond t (past_hashes n cs) None) e) ∙ h) in
        cc
    by false e = absurd (let no : None ≡ Some behind = sym (ap (λ t. cond t (past_hashes n cs) None) e) ∙ h in cc)

pub body_ends : (n : ℕ) (source rest behind : List ℕ) → IsReached (IsBody n) source rest → past_end n rest ≡ Some behind → IsBehind (IsBody n) source behind
body_ends n source rest behind r e = r.forward behind (record { front = 34 ∷ hashes n; text = []; is = past_end-is n rest behind e; reads = record { is = refl; no_return = refl; no_end = refl } })

return_first : (n : ℕ) (rest : List ℕ) (c : ℕ) (more b front text : List ℕ) → rest ≡ c ∷ more → c ≡ 13 → rest ≡ front ++ b → IsBody n front text → ⊥
return_first n rest c more b front [] is return at h =
    let e : c ∷ more ≡ 34 ∷ (hashes n ++ b) = sym is ∙ at ∙ ap (λ x. x ++ b) h.is in
    let quote : c ≡ 34 = cc in
    omega arith
return_first n rest c more b front (d ∷ u) is return at h =
    let e : c ∷ more ≡ d ∷ ((u ++ 34 ∷ hashes n) ++ b) = sym is ∙ at ∙ ap (λ x. x ++ b) h.is in
    let same : d ≡ 13 = cc in
    let no : true ≡ false = sym (eq-eqb d 13 same) ∙ or_left (d == 13) (list_any is_return u) h.no_return in
    cc

pub body_return : (n : ℕ) (source rest : List ℕ) (c : ℕ) (more : List ℕ) → IsReached (IsBody n) source rest → rest ≡ c ∷ more → c ≡ 13 → BeginsWithNone (IsBody n) source
body_return n source rest c more r is return b h = let k = r.back b h in return_first n rest c more b k.front k.text is return k.is k.reads

body_filled : (n : ℕ) (b front text : List ℕ) → [] ≡ front ++ b → IsBody n front text → ⊥
body_filled n b front [] at h = let e : [] ≡ 34 ∷ (hashes n ++ b) = at ∙ ap (λ x. x ++ b) h.is in cc
body_filled n b front (d ∷ u) at h = let e : [] ≡ d ∷ ((u ++ 34 ∷ hashes n) ++ b) = at ∙ ap (λ x. x ++ b) h.is in cc

pub body_none : (n : ℕ) (source rest : List ℕ) → IsReached (IsBody n) source rest → rest ≡ [] → BeginsWithNone (IsBody n) source
body_none n source rest r is b h = let k = r.back b h in body_filled n b k.front k.text (sym is ∙ k.is) k.reads

-- from the count and what follows the run
pub raw_forward : (source rest body : List ℕ) (count : ℕ) → source ≡ hashes count ++ rest → rest ≡ 34 ∷ body → (b : List ℕ) → IsBehind (IsBody count) body b → IsBehind IsRaw (114 ∷ source) b
raw_forward source rest body count is quote b h =
    let inner : source ≡ (hashes count ++ 34 ∷ h.front) ++ b = is ∙ ap (λ x. hashes count ++ x) (quote ∙ ap (λ x. 34 ∷ x) h.is) ∙ sym (append_assoc (hashes count) (34 ∷ h.front) b) in
    record {
      front = 114 ∷ (hashes count ++ 34 ∷ h.front);
      text = h.text;
      is = ap (λ x. 114 ∷ x) inner;
      reads = record { count = count; body = h.front; is = refl; spelled = h.reads };
    }

pub raw_back : (source rest : List ℕ) (count : ℕ) → source ≡ hashes count ++ rest → begins 35 rest ≡ false → (b : List ℕ) → IsBehind IsRaw (114 ∷ source) b
    → (body : List ℕ) × (rest ≡ 34 ∷ body) × IsBehind (IsBody count) body b
raw_back source rest count is whole b h =
    let k = h.reads in
    let at : 114 ∷ source ≡ 114 ∷ ((hashes k.count ++ 34 ∷ k.body) ++ b) = h.is ∙ ap (λ x. x ++ b) k.is in
    let inner : source ≡ (hashes k.count ++ 34 ∷ k.body) ++ b = cc in
    let run : hashes k.count ++ 34 ∷ (k.body ++ b) ≡ hashes count ++ rest = sym (inner ∙ append_assoc (hashes k.count) (34 ∷ k.body) b) ∙ is in
    let same = count-one k.count count (k.body ++ b) rest run whole in
    (k.body ++ b, sym same.1, record { front = k.body; text = h.text; is = refl; reads = rw same.0 at k.spelled })

pub raw_none : (source rest body : List ℕ) (count : ℕ) → source ≡ hashes count ++ rest → begins 35 rest ≡ false → rest ≡ 34 ∷ body → BeginsWithNone (IsBody count) body → BeginsWithNone IsRaw (114 ∷ source)
raw_none source rest body count is whole quote none b h =
    let p = raw_back source rest count is whole b h in
    let same : p.0 ≡ body = (let e : 34 ∷ p.0 ≡ 34 ∷ body = sym p.1 ∙ quote in cc) in
    none b (rw same at p.2)

body-alone : (n : ℕ) (source text more whole other : List ℕ) → IsBody n source text → whole ≡ source ++ more → IsBody n whole other → more ≡ []
body-alone n source [] more whole [] h is k =
    let e : 34 ∷ (hashes n ++ more) ≡ 34 ∷ hashes n = sym (is ∙ ap (λ x. x ++ more) h.is) ∙ k.is in
    by more (omega (arith, ap length e, length-append (hashes n) more))
  where
    by : (x : List ℕ) → length x ≡ 0 → x ≡ []
    by [] l = refl
    by (c ∷ cs) l = absurd (omega arith)
body-alone n source [] more whole (d ∷ u) h is k =
    let at : d ∷ (u ++ 34 ∷ hashes n) ≡ 34 ∷ (hashes n ++ more) = sym k.is ∙ is ∙ ap (λ x. x ++ more) h.is in
    let some : is_some (past_end n (d ∷ (u ++ 34 ∷ hashes n))) ≡ true = ap (λ x. is_some (past_end n x)) at ∙ ap is_some (end_here n more) in
    let none : is_some (past_end n (d ∷ (u ++ 34 ∷ hashes n))) ≡ false =
    none_if (d == 34) (past_hashes n u) (past_hashes n (u ++ 34 ∷ hashes n)) (or_left (is_some (past_end n (d ∷ u))) (has_end n u) k.no_end) (past_hashes-quote n u (hashes n)) in
    absurd (let no : true ≡ false = sym some ∙ none in cc)
body-alone n source (c ∷ t) more whole [] h is k =
    let e : 34 ∷ hashes n ≡ c ∷ ((t ++ 34 ∷ hashes n) ++ more) = sym k.is ∙ is ∙ ap (λ x. x ++ more) h.is in
    absurd (omega (arith, ap length e, length-append (t ++ 34 ∷ hashes n) more, length-append t (34 ∷ hashes n)))
body-alone n source (c ∷ t) more whole (d ∷ u) h is k =
    let e : d ∷ (u ++ 34 ∷ hashes n) ≡ c ∷ ((t ++ 34 ∷ hashes n) ++ more) = sym k.is ∙ is ∙ ap (λ x. x ++ more) h.is in
    let first : IsBody n (t ++ 34 ∷ hashes n) t = record { is = refl; no_return = or_right (c == 13) (list_any is_return t) h.no_return; no_end = or_right (is_some (past_end n (c ∷ t))) (has_end n t) h.no_end } in
    let second : IsBody n (u ++ 34 ∷ hashes n) u = record { is = refl; no_return = or_right (d == 13) (list_any is_return u) k.no_return; no_end = or_right (is_some (past_end n (d ∷ u))) (has_end n u) k.no_end } in
    let tails : u ++ 34 ∷ hashes n ≡ (t ++ 34 ∷ hashes n) ++ more = cc in
    body-alone n (t ++ 34 ∷ hashes n) t more (u ++ 34 ∷ hashes n) u first tails second

raw-alone : (source more text other : List ℕ) → IsRaw source text → IsRaw (source ++ more) other → more ≡ []
raw-alone source more text other h k =
    let at : 114 ∷ ((hashes h.count ++ 34 ∷ h.body) ++ more) ≡ 114 ∷ (hashes k.count ++ 34 ∷ k.body) = sym (ap (λ x. x ++ more) h.is) ∙ k.is in
    let inner : (hashes h.count ++ 34 ∷ h.body) ++ more ≡ hashes k.count ++ 34 ∷ k.body = cc in
    let run : hashes h.count ++ 34 ∷ (h.body ++ more) ≡ hashes k.count ++ 34 ∷ k.body = sym (append_assoc (hashes h.count) (34 ∷ h.body) more) ∙ inner in
    let same = count-one h.count k.count (h.body ++ more) (34 ∷ k.body) run refl in
    let body : k.body ≡ h.body ++ more = (let e = same.1 in cc) in
    body-alone k.count h.body text more k.body other (rw same.0 at h.spelled) body k.spelled

apart : (first : ℕ) (a b c d : List ℕ) → a ≡ 34 ∷ b → c ≡ 114 ∷ d → a ≡ c → ⊥
apart first a b c d h k e = let both : 34 ∷ b ≡ 114 ∷ d = sym h ∙ e ∙ k in differ 34 114 refl cc

pub literal-alone : (source more text other : List ℕ) → literal_reads source text → literal_reads (source ++ more) other → more ≡ []
literal-alone source more text other (inl h) (inl k) =
    let e : 34 ∷ (h.behind ++ more) ≡ 34 ∷ k.behind = sym (ap (λ x. x ++ more) h.is) ∙ k.is in
    inside-alone h.behind more k.behind h.inside (cc) k.inside
literal-alone source more text other (inl h) (inr k) = absurd (apart 0 _ (h.behind ++ more) _ _ (ap (λ x. x ++ more) h.is) k.is refl)
literal-alone source more text other (inr h) (inl k) = absurd (apart 0 _ k.behind _ _ k.is (ap (λ x. x ++ more) h.is) refl)
literal-alone source more text other (inr h) (inr k) = raw-alone source more text other h k

-- by the first character
pub quoted_literal : (source rest behind : List ℕ) (c : ℕ) → source ≡ c ∷ rest → c ≡ 34 → IsBehind Inside rest behind → IsBehind literal_reads source behind
quoted_literal source rest behind c is quote h = record {
  front = 34 ∷ h.front;
  text = h.text;
  is = is ∙ ap (λ x. x ∷ rest) quote ∙ ap (λ x. 34 ∷ x) h.is;
  reads = inl (record { behind = h.front; is = refl; inside = h.reads });
}

pub raw_literal : (source rest behind : List ℕ) (c : ℕ) → source ≡ c ∷ rest → c ≡ 114 → IsBehind IsRaw (114 ∷ rest) behind → IsBehind literal_reads source behind
raw_literal source rest behind c is letter h = record { front = h.front; text = h.text; is = is ∙ ap (λ x. x ∷ rest) letter ∙ h.is; reads = inr h.reads }

literal_first : (source b front text : List ℕ) → source ≡ front ++ b → literal_reads front text → ((rest : List ℕ) × (source ≡ 34 ∷ rest) × IsBehind Inside rest b) ⊎ ((rest : List ℕ) × (source ≡ 114 ∷ rest) × IsBehind IsRaw (114 ∷ rest) b)
literal_first source b front text at (inl h) =
    inl (h.behind ++ b, at ∙ ap (λ x. x ++ b) h.is, record { front = h.behind; text = text; is = refl; reads = h.inside })
literal_first source b front text at (inr h) =
    let rest = hashes h.count ++ 34 ∷ h.body in
    inr (rest ++ b, at ∙ ap (λ x. x ++ b) h.is, record { front = front; text = text; is = sym (ap (λ x. x ++ b) h.is); reads = h })

pub quoted_refused : (source rest : List ℕ) (c : ℕ) → source ≡ c ∷ rest → c ≡ 34 → BeginsWithNone Inside rest → BeginsWithNone literal_reads source
quoted_refused source rest c is quote none b h = elim (literal_first source b h.front h.text h.is h.reads) [
  | inl p ↦ let same : p.0 ≡ rest = (let e : 34 ∷ p.0 ≡ c ∷ rest = sym p.1 ∙ is in cc) in none b (rw same at p.2)
  | inr p ↦ differ 34 114 refl (let e : 114 ∷ p.0 ≡ c ∷ rest = sym p.1 ∙ is in cc)
]

pub raw_refused : (source rest : List ℕ) (c : ℕ) → source ≡ c ∷ rest → c ≡ 114 → BeginsWithNone IsRaw (114 ∷ rest) → BeginsWithNone literal_reads source
raw_refused source rest c is letter none b h = elim (literal_first source b h.front h.text h.is h.reads) [
  | inl p ↦ differ 114 34 refl (let e : 34 ∷ p.0 ≡ c ∷ rest = sym p.1 ∙ is in cc)
  | inr p ↦ let same : p.0 ≡ rest = (let e : 114 ∷ p.0 ≡ c ∷ rest = sym p.1 ∙ is in cc) in none b (rw same at p.2)
]

pub other_refused : (source rest : List ℕ) (c : ℕ) → source ≡ c ∷ rest → (c ≡ 34 → ⊥) → (c ≡ 114 → ⊥) → BeginsWithNone literal_reads source
other_refused source rest c is quote letter b h = elim (literal_first source b h.front h.text h.is h.reads) [
  | inl p ↦ quote (let e : 34 ∷ p.0 ≡ c ∷ rest = sym p.1 ∙ is in cc)
  | inr p ↦ letter (let e : 114 ∷ p.0 ≡ c ∷ rest = sym p.1 ∙ is in cc)
]

pub nothing_refused : (source : List ℕ) → source ≡ [] → BeginsWithNone literal_reads source
nothing_refused source is b h = elim (literal_first source b h.front h.text h.is h.reads) [
  | inl p ↦ (let e : [] ≡ 34 ∷ p.0 = sym is ∙ p.1 in cc)
  | inr p ↦ (let e : [] ≡ 114 ∷ p.0 = sym is ∙ p.1 in cc)
]

-- a literal's bytes are those of the source without the rest's
pub record FrontBytes (source rest front : List ℕ) : Type 0 where
  pub sum : length (encodes front) + length rest ≡ length source

pub front_bytes : (Reads : List ℕ → List ℕ → Type 0) (other source rest : List ℕ) → IsUtf8 source → IsUtf8 rest → (h : IsBehind Reads (chars source) (chars rest)) → FrontBytes source rest h.front
front_bytes Reads other source rest u v h =
    let bytes : source ≡ encodes h.front ++ rest = sym (encodes-chars source u) ∙ ap encodes h.is ∙ encodes-append h.front (chars rest) ∙ ap (λ x. encodes h.front ++ x) (encodes-chars rest v) in
    record { sum = sym (ap length bytes ∙ length-append (encodes h.front) rest) }
