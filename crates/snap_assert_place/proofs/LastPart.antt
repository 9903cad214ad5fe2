-- The last part of a path: a text without a slash is its own, and in any other it stands after the last slash.
use Rattle.snap_assert_place.proofs.Prelude.{◌≡◌, ◌==◌, ◌||◌, ℕ, Bool, true, false, cond, List, [], ◌∷◌, ◌++◌, refl, ap, ◌∙◌, holds_slash, last_part, or_left, or_right, sym, inl, inr, IsLastPart}

pub whole : (t : List ℕ) → holds_slash t ≡ false → last_part t ≡ t
whole [] h = refl
whole (c ∷ cs) h =
    ap (λ b. cond b (last_part cs) (cond (c == 47) cs (c ∷ cs))) (or_right (c == 47) (holds_slash cs) h)
    ∙ ap (λ b. cond b cs (c ∷ cs)) (or_left (c == 47) (holds_slash cs) h)

or_true : (a b : Bool) → b ≡ true → (a || b) ≡ true
or_true true b h = refl
or_true false b h = h

holds_front : (front part : List ℕ) → holds_slash (front ++ 47 ∷ part) ≡ true
holds_front [] part = refl
holds_front (c ∷ front) part = or_true (c == 47) (holds_slash (front ++ 47 ∷ part)) (holds_front front part)

pub alone : (part : List ℕ) → holds_slash part ≡ false → last_part part ≡ part
alone part h = whole part h

pub behind : (front part : List ℕ) → holds_slash part ≡ false → last_part (front ++ 47 ∷ part) ≡ part
behind [] part h = ap (λ b. cond b (last_part part) part) h
behind (c ∷ front) part h =
    ap (λ b. cond b (last_part (front ++ 47 ∷ part)) (cond (c == 47) (front ++ 47 ∷ part) (c ∷ front ++ 47 ∷ part))) (holds_front front part)
    ∙ behind front part h

-- what a cut at the last slash leaves is the last part
pub of_cut : (text part : List ℕ) → IsLastPart 47 text part → part ≡ last_part text
of_cut text part (lacks, inl is) = sym (ap last_part is ∙ alone part lacks)
of_cut text part (lacks, inr (before, is)) = sym (ap last_part is ∙ behind before part lacks)
