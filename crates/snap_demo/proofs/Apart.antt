-- The paths of a demonstration are apart: where one begins as the other, both are one.
use Rattle.snap_demo.proofs.Prelude.{◌≡◌, ℕ, ◌+◌, ◌/◌, ◌%◌, ◌<◌, ◌^◌, List, [], ◌∷◌, ◌++◌, Bool, true, false, ◌||◌, ◌==◌, refl, sym, ap, ◌∙◌, codes, arith, nat_tests, append_assoc, append-nil, decimal, list_any}
use Rattle.std.proofs.lemmas.Bool.{eq-eqb}
use Rattle.std.proofs.lemmas.Fmt.{decimal_by_steps_wide, decimal_injective}
use Rattle.snap_content.proofs.Booleans.{or_left, or_right}
use Rattle.snap_demo.specs.Paths.{demo_path}

-- a text that is cut at a mark that stands in neither front is cut in one way

same_head : (x y : ℕ) (xs ys : List ℕ) → x ∷ xs ≡ y ∷ ys → x ≡ y
same_head x y xs ys e = cc

same_tail : (x y : ℕ) (xs ys : List ℕ) → x ∷ xs ≡ y ∷ ys → xs ≡ ys
same_tail x y xs ys e = cc

not_there : (m y : ℕ) (b : Bool) → m ≡ y → ((y == m) || b) ≡ false → ⊥
not_there m y b e n = let t : (y == m) ≡ true = ap (λ z. z == m) (sym e) ∙ eq-eqb m m refl in let f = or_left (y == m) b n in cc (t, f)

abbrev pub lacks : ℕ → List ℕ → Type 0
lacks m text = list_any (λ c. c == m) text ≡ false

cut_at_mark : (m : ℕ) (a b s t : List ℕ) → lacks m a → lacks m b → a ++ m ∷ s ≡ b ++ m ∷ t → (a ≡ b) × (s ≡ t)
cut_at_mark m [] [] s t na nb e = (refl, same_tail m m s t e)
cut_at_mark m [] (y ∷ b) s t na nb e = absurd (not_there m y _ (same_head m y s (b ++ m ∷ t) e) nb)
cut_at_mark m (x ∷ a) [] s t na nb e = absurd (not_there m x _ (sym (same_head x m (a ++ m ∷ s) t e)) na)
cut_at_mark m (x ∷ a) (y ∷ b) s t na nb e =
    let r = cut_at_mark m a b s t (or_right (x == m) _ na) (or_right (y == m) _ nb) (same_tail x y _ _ e) in
    (ap (λ z. z ∷ a) (same_head x y _ _ e) ∙ ap (λ z. y ∷ z) r.0, r.1)

-- digits hold no other mark

lacks_push : (m : ℕ) (cs : List ℕ) (c : ℕ) → lacks m cs → (c == m) ≡ false → lacks m (cs ++ c ∷ [])
lacks_push m [] c h k = ap (λ b. b || false) k
lacks_push m (d ∷ ds) c h k = by (d == m) (list_any (λ x. x == m) ds) (list_any (λ x. x == m) (ds ++ c ∷ [])) h (λ t. lacks_push m ds c t k)
  where
    by : (a b e : Bool) → (a || b) ≡ false → (b ≡ false → e ≡ false) → (a || e) ≡ false
    by true b e h f = cc
    by false b e h f = f h

-- the mark is no digit
abbrev pub IsNoDigit : ℕ → Type 0
IsNoDigit m = (k : ℕ) → k < 10 → (48 + k == m) ≡ false

pub no_dot : IsNoDigit 46
no_dot k below = grind (arith, nat_tests)

pub no_slash : IsNoDigit 47
no_slash k below = grind (arith, nat_tests)

pub no_backslash : IsNoDigit 92
no_backslash k below = grind (arith, nat_tests)

pub decimal_lacks : (m n : ℕ) → IsNoDigit m → n < 10 ^ 64 → lacks m (decimal n)
decimal_lacks m n other small =
    decimal_by_steps_wide (λ _ ds. lacks m ds) (λ k below. ap (λ b. b || false) (other k below))
    (λ k ds _ before. lacks_push m ds (48 + k % 10) before (other (k % 10) (omega arith))) n small

cancel : (front a b : List ℕ) → front ++ a ≡ front ++ b → a ≡ b
cancel [] a b e = e
cancel (x ∷ front) a b e = let t : front ++ a ≡ front ++ b = cc in cancel front a b t

spread : (d n x : List ℕ) → (codes "demo/src/d" ++ (d ++ (codes "/snapshots/demo__r" ++ (n ++ codes ".snap")))) ++ x
    ≡ codes "demo/src/d" ++ (d ++ 47 ∷ (codes "snapshots/demo__r" ++ (n ++ 46 ∷ (codes "snap" ++ x))))
spread d n x =
    append_assoc (codes "demo/src/d") (d ++ 47 ∷ (codes "snapshots/demo__r" ++ (n ++ 46 ∷ codes "snap"))) x
    ∙ ap (λ t. codes "demo/src/d" ++ t) (append_assoc d (47 ∷ (codes "snapshots/demo__r" ++ (n ++ 46 ∷ codes "snap"))) x
    ∙ ap (λ t. d ++ 47 ∷ t) (append_assoc (codes "snapshots/demo__r") (n ++ 46 ∷ codes "snap") x
    ∙ ap (λ t. codes "snapshots/demo__r" ++ t) (append_assoc n (46 ∷ codes "snap") x)))

pub paths_meet : (i j : ℕ) (s t : List ℕ) → i < 2 ^ 64 → j < 2 ^ 64 → demo_path i ++ s ≡ demo_path j ++ t → (i ≡ j) × (s ≡ t)
paths_meet i j s t hi hj same =
    let wide_i : i < 10 ^ 64 = omega (arith, hi) in
    let wide_j : j < 10 ^ 64 = omega (arith, hj) in
    let one = sym (spread (decimal (i / 100)) (decimal i) s) ∙ same ∙ spread (decimal (j / 100)) (decimal j) t in
    let folder = cut_at_mark 47 (decimal (i / 100)) (decimal (j / 100)) _ _ (decimal_lacks 47 (i / 100) no_slash (omega (arith, wide_i))) (decimal_lacks 47 (j / 100) no_slash (omega (arith, wide_j))) (cancel (codes "demo/src/d") _ _ one) in
    let name = cut_at_mark 46 (decimal i) (decimal j) _ _ (decimal_lacks 46 i no_dot wide_i) (decimal_lacks 46 j no_dot wide_j) (cancel (codes "snapshots/demo__r") _ _ folder.1) in
    (decimal_injective i j hi hj name.0, cancel (codes "snap") s t name.1)
