-- The last part of a name: a text without `::` is its own, and in any other it stands after the last `::`.
use Rattle.snap_assert_place.proofs.Prelude.{◌≡◌, ◌||◌, ◌==◌, ℕ, Bool, true, false, cond, List, [], ◌∷◌, ◌++◌, Option, None, Some, refl, sym, ap, ◌∙◌, unwrap_or, is_some, or_left, or_right, past_mark, past_colons, holds_colons, last_name}

unfound : (found : Option (List ℕ)) (text : List ℕ) → is_some found ≡ false → unwrap_or found text ≡ text
unfound None text h = refl
unfound (Some rest) text h = absurd (cc)

pub whole : (t : List ℕ) → holds_colons t ≡ false → last_name t ≡ t
whole [] h = refl
whole (c ∷ cs) h =
    let later = or_right (is_some (past_colons (c ∷ cs))) (holds_colons cs) h in
    let here = or_left (is_some (past_colons (c ∷ cs))) (holds_colons cs) h in
    ap (λ b. cond b (last_name cs) (unwrap_or (past_colons (c ∷ cs)) (c ∷ cs))) later ∙ unfound (past_colons (c ∷ cs)) (c ∷ cs) here

either : (b : Bool) (t : List ℕ) → holds_colons t ≡ b → last_name t ≡ cond b (last_name t) t
either true t h = refl
either false t h = whole t h

-- the last part of a text is in the text where that holds `::`, and else it is the text
pub in_itself : (t : List ℕ) → last_name t ≡ cond (holds_colons t) (last_name t) t
in_itself t = either (holds_colons t) t refl

here_or_later : (found : Option (List ℕ)) (later : Bool) (text last within : List ℕ)
    → cond (is_some found || later) (cond later within (unwrap_or found text)) last ≡ cond later within (unwrap_or found last)
here_or_later found true text last within = by found
  where
    by : (found : Option (List ℕ)) → cond (is_some found || true) within last ≡ within
    by None = refl
    by (Some rest) = refl
here_or_later None false text last within = refl
here_or_later (Some rest) false text last within = refl

-- one character on: what follows `::` there is the last part, where no other `::` comes
pub one_on : (c : ℕ) (cs last : List ℕ)
    → cond (holds_colons (c ∷ cs)) (last_name (c ∷ cs)) last ≡ cond (holds_colons cs) (last_name cs) (unwrap_or (past_colons (c ∷ cs)) last)
one_on c cs last = here_or_later (past_colons (c ∷ cs)) (holds_colons cs) (c ∷ cs) last (last_name cs)

or_true : (a b : Bool) → b ≡ true → (a || b) ≡ true
or_true true b h = refl
or_true false b h = h

holds_front : (front part : List ℕ) → holds_colons (front ++ 58 ∷ 58 ∷ part) ≡ true
holds_front [] part = refl
holds_front (c ∷ front) part = or_true (is_some (past_colons (c ∷ (front ++ 58 ∷ 58 ∷ part)))) (holds_colons (front ++ 58 ∷ 58 ∷ part)) (holds_front front part)

pub behind : (front part : List ℕ) → holds_colons (58 ∷ part) ≡ false → last_name (front ++ 58 ∷ 58 ∷ part) ≡ part
behind [] part h = ap (λ b. cond b (last_name (58 ∷ part)) part) h
behind (c ∷ front) part h =
    let t = front ++ 58 ∷ 58 ∷ part in
    ap (λ b. cond b (last_name t) (unwrap_or (past_colons (c ∷ t)) (c ∷ t))) (holds_front front part) ∙ behind front part h
