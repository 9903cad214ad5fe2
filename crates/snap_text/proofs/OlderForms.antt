-- The older form of printed texts is their normal form.
use Rattle.snap_text.proofs.Prelude.{◌≡◌, ◌==◌, ◌||◌, ◌&&◌, ℕ, List, [], ◌∷◌, ◌++◌, Bool, true, false, cond, refl, sym, ap, ◌∙◌, list_any, flat_map, subst, ended, Plain, IsWithin, Blocks, text_of, IsLine, AreRows, EndsWell, is_trimmed, begins_dashes, is_break, normal, or_left}
use Rattle.snap_content.specs.Front.{begins}
use Rattle.snap_print.proofs.Rows.{printed-first, printed-rows, printed-end}
use Rattle.snap_text.proofs.NormalForms.{normal-rows}
use Rattle.snap_text.specs.Legacy.{without_breaks, without_fence, legacy}

or_swap : (a b : Bool) → (a || b) ≡ false → (b || a) ≡ false
or_swap true b h = absurd (cc)
or_swap false true h = absurd (cc)
or_swap false false h = refl

-- no text that begins with these two is a fence
front_and : (p q r s : Bool) → (p && q) ≡ false → (p && q && r && s) ≡ false
front_and true true r s h = absurd (cc)
front_and true false r s h = refl
front_and false q r s h = refl

keeps_front : (x : ℕ) (m : List ℕ) → (x == 45 && begins 45 m) ≡ false → without_fence (x ∷ m) ≡ x ∷ m
keeps_front x [] h = refl
keeps_front x (b ∷ []) h = refl
keeps_front x (b ∷ c ∷ []) h = refl
keeps_front x (b ∷ c ∷ d ∷ rest) h = ap (λ t. cond t rest (x ∷ b ∷ c ∷ d ∷ rest)) (front_and (x == 45) (b == 45) (c == 45) (d == 10) h)

-- what stands in front of a line's end begins as the line does
begins_same : (m more rest : List ℕ) → m ++ 10 ∷ [] ≡ (more ++ 10 ∷ []) ++ rest → (k : Bool) → (k && begins 45 more) ≡ false → (k && begins 45 m) ≡ false
begins_same [] more rest e k h = off k
  where
    off : (k : Bool) → (k && false) ≡ false
    off true = refl
    off false = refl
begins_same (b ∷ m) [] rest e k h = let is : b ≡ 10 = cc in ap (λ c. k && c == 45) is ∙ off k
  where
    off : (k : Bool) → (k && false) ≡ false
    off true = refl
    off false = refl
begins_same (b ∷ m) (y ∷ ys) rest e k h = let is : b ≡ y = cc in ap (λ c. k && c == 45) is ∙ h

older_is : (n more rest : List ℕ) (f : ℕ) → (f == 10 || f == 13) ≡ false → (f == 45 && begins 45 more) ≡ false → n ++ 10 ∷ [] ≡ f ∷ ((more ++ 10 ∷ []) ++ rest) → without_fence (without_breaks n) ≡ n
older_is [] more rest f unbroken dashes e = absurd (let is : f ≡ 10 = cc in let b : (10 == 10 || 10 == 13) ≡ false = ap (λ c. c == 10 || c == 13) (sym is) ∙ unbroken in cc b)
older_is (x ∷ m) more rest f unbroken dashes e =
    let is : x ≡ f = cc in
    let behind : m ++ 10 ∷ [] ≡ (more ++ 10 ∷ []) ++ rest = cc in
    let no_break : (x == 13 || x == 10) ≡ false = ap (λ c. c == 13 || c == 10) is ∙ or_swap (f == 10) (f == 13) unbroken in
    ap (λ t. without_fence (cond t (without_breaks m) (x ∷ m))) no_break
    ∙ keeps_front x m (begins_same m more rest behind (x == 45) (ap (λ c. c == 45 && begins 45 more) is ∙ dashes))

-- a text of lines the first of which is one, which is its own normal form but for the end of its last line
pub legacy-lines : (line : List ℕ) (lines : List (List ℕ)) → IsLine line → normal (flat_map ended (line ∷ lines)) ++ 10 ∷ [] ≡ flat_map ended (line ∷ lines)
    → legacy (flat_map ended (line ∷ lines)) ≡ normal (flat_map ended (line ∷ lines))
legacy-lines line lines h e =
    older_is (normal (flat_map ended (line ∷ lines))) h.more (flat_map ended lines) h.first
    (or_left (is_break h.first) (list_any is_break h.more) (ap (list_any is_break) (sym h.is) ∙ h.unbroken))
    (ap begins_dashes (sym h.is) ∙ h.no_dashes)
    (e ∙ ap (λ l. ended l ++ flat_map ended lines) h.is)

-- a printed text, where the end is trimmed
pub legacy-printed : (w : Blocks) (p : Plain) → is_trimmed w ≡ true → IsWithin p → legacy (text_of w p) ≡ normal (text_of w p)
legacy-printed w p t h =
    let f = printed-first p w h in
    let P : List (List ℕ) → Type 0 = λ ls. legacy (flat_map ended ls) ≡ normal (flat_map ended ls) in
    subst P (sym f.is) (legacy-lines f.first f.others f.line (normal-rows f.first f.others (subst AreRows f.is (printed-rows w p h)) (subst EndsWell f.is (printed-end w p t h))))
