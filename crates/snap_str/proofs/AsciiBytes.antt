-- A test that only ASCII characters pass finds in the bytes of a text what it finds in its characters.
use Rattle.snap_str.proofs.Prelude.{◌≡◌, ℕ, ◌<◌, ◌≤◌, List, [], ◌∷◌, Bool, true, false, Option, None, Some, inl, length, refl, sym, ap, ◌∙◌, arith, or_from, encodes-chars, list_any, chars, IsUtf8, encode, encodes}
use Rattle.std.proofs.Common.{◌||◌, zero, suc, ◌⊎◌, inr, append-nil, get_or, is_some}
use Rattle.std.proofs.lemmas.Bool.{cases_lt, false_from_ne_true, or_left, or_right}
use Rattle.std.proofs.Math.Bool.{or-false}
use Rattle.std.proofs.lemmas.List.Folds.{list_any-append}
use Rattle.std.proofs.lemmas.Str.{encode_ascii, inside_one}
use Rattle.memchr.specs.Find.{IsFirstByte}

-- what no wide character passes
abbrev pub IsOfAscii : (ℕ → Bool) → Type 0
IsOfAscii p = (c : ℕ) → 128 ≤ c → p c ≡ false

not_small : (b : ℕ) → (b < 128 → ⊥) → 128 ≤ b
not_small b h = by (cases_lt b 128)
  where
    by : (b < 128) ⊎ (128 ≤ b) → 128 ≤ b
    by (inl small) = absurd (h small)
    by (inr wide) = wide

-- bytes none of which is ASCII
nowhere : (p : ℕ → Bool) → IsOfAscii p → (bs : List ℕ) → ((k : ℕ) → k < length bs → get_or bs k 0 < 128 → ⊥) → list_any p bs ≡ false
nowhere p ascii [] h = refl
nowhere p ascii (b ∷ bs) h =
    or_from (p b) (list_any p bs) (ascii b (not_small b (h 0 (omega arith)))) (nowhere p ascii bs (λ k less. h (suc k) (omega (arith, less))))

-- some byte of a character passes where the character does
one : (p : ℕ → Bool) → IsOfAscii p → (c : ℕ) → list_any p (encode c) ≡ p c
one p ascii c = by (cases_lt c 128)
  where
    wide-bytes : 128 ≤ c → list_any p (encode c) ≡ false
    wide-bytes wide = nowhere p ascii (encode c) (λ k less small. omega (arith, wide, small, inside_one c [] (encode c) k (sym (append-nil (encode c))) less small))

    by : (c < 128) ⊎ (128 ≤ c) → list_any p (encode c) ≡ p c
    by (inl small) = ap (list_any p) (encode_ascii c small) ∙ or-false (p c)
    by (inr wide) = wide-bytes wide ∙ sym (ascii c wide)

all : (p : ℕ → Bool) → IsOfAscii p → (cs : List ℕ) → list_any p (encodes cs) ≡ list_any p cs
all p ascii [] = refl
all p ascii (c ∷ cs) =
    list_any-append p (encode c) (encodes cs) ∙ ap (λ b. b || list_any p (encodes cs)) (one p ascii c) ∙ ap (λ b. p c || b) (all p ascii cs)

pub any_of_bytes : (p : ℕ → Bool) → IsOfAscii p → (bytes text : List ℕ) → IsUtf8 text → bytes ≡ text → list_any p bytes ≡ list_any p (chars text)
any_of_bytes p ascii bytes text utf8 same = ap (list_any p) (same ∙ sym (encodes-chars text utf8)) ∙ all p ascii (chars text)

-- what a search of the bytes finds

pub held_nowhere : (p : ℕ → Bool) (bs : List ℕ) → ((k : ℕ) → k < length bs → p (get_or bs k 0) ≡ true → ⊥) → list_any p bs ≡ false
held_nowhere p [] h = refl
held_nowhere p (b ∷ bs) h =
    or_from (p b) (list_any p bs) (false_from_ne_true (p b) (h 0 (omega arith))) (held_nowhere p bs (λ k less. h (suc k) (omega (arith, less))))

held_somewhere : (p : ℕ → Bool) (bs : List ℕ) (k : ℕ) → k < length bs → p (get_or bs k 0) ≡ true → list_any p bs ≡ true
held_somewhere p [] k less h = absurd (omega (arith, less))
held_somewhere p (b ∷ bs) zero less h = or_left (p b) (list_any p bs) h
held_somewhere p (b ∷ bs) (suc k) less h = or_right (p b) (list_any p bs) (held_somewhere p bs k (omega (arith, less)) h)

-- a search among the bytes finds one where one is there
pub found : (p : ℕ → Bool) (bs : List ℕ) (r : Option ℕ) → IsFirstByte p bs r → is_some r ≡ list_any p bs
found p bs None none = sym (held_nowhere p bs (λ k less. none k (omega arith) less))
found p bs (Some k) (within, passes) = sym (held_somewhere p bs k within.high passes)
