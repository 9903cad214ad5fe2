-- Pieces of a list, before an end of it.
use Rattle.snap_scan_tokens.proofs.Prelude.{◌≡◌, ℕ, ◌-◌, List, [], ◌∷◌, ◌++◌, length, take, refl, sym, ap, ◌∙◌, subst, arith, Bool, true, false, length-append, append_assoc, take-append_seam, before, EndsIn, Place, passed, behind}

front-is : (xs ys : List ℕ) → before (xs ++ ys) ys ≡ xs
front-is xs ys =
    let n : length (xs ++ ys) - length ys ≡ length xs = omega (arith, length-append xs ys) in
    ap (λ k. take k (xs ++ ys)) n ∙ take-append_seam xs ys

-- what stands before the end of a list that is put together
pub before-is : (all xs ys : List ℕ) → all ≡ xs ++ ys → before all ys ≡ xs
before-is all xs ys is = let f : List ℕ → List ℕ = λ l. before l ys in ap f is ∙ front-is xs ys

pub before-same : (xs : List ℕ) → before xs xs ≡ []
before-same xs = before-is xs [] xs refl

pub ends-same : (xs : List ℕ) → EndsIn xs xs
ends-same xs = let f : List ℕ → List ℕ = λ l. l ++ xs in ap f (sym (before-same xs))

pub ends-of : (all xs ys : List ℕ) → all ≡ xs ++ ys → EndsIn all ys
ends-of all xs ys is = let f : List ℕ → List ℕ = λ l. l ++ ys in is ∙ ap f (sym (before-is all xs ys is))

one-more : (all : List ℕ) (c : ℕ) (cs : List ℕ) → EndsIn all (c ∷ cs) → all ≡ (before all (c ∷ cs) ++ c ∷ []) ++ cs
one-more all c cs ends = ends ∙ sym (append_assoc (before all (c ∷ cs)) (c ∷ []) cs)

-- a list that ends in another ends in its rest
pub ends-next : (all : List ℕ) (c : ℕ) (cs : List ℕ) → EndsIn all (c ∷ cs) → EndsIn all cs
ends-next all c cs ends = ends-of all (before all (c ∷ cs) ++ c ∷ []) cs (one-more all c cs ends)

-- one character further
pub before-next : (all : List ℕ) (c : ℕ) (cs : List ℕ) → EndsIn all (c ∷ cs) → before all cs ≡ before all (c ∷ cs) ++ c ∷ []
before-next all c cs ends = before-is all (before all (c ∷ cs) ++ c ∷ []) cs (one-more all c cs ends)

-- one character more at the front
pub before-cons : (c : ℕ) (cs ys : List ℕ) → EndsIn cs ys → before (c ∷ cs) ys ≡ c ∷ before cs ys
before-cons c cs ys ends = let f : List ℕ → List ℕ = λ l. c ∷ l in before-is (c ∷ cs) (c ∷ before cs ys) ys (ap f ends)

-- a list that ends in another, with one character more at the front
pub ends-cons : (c : ℕ) (cs ys : List ℕ) → EndsIn cs ys → EndsIn (c ∷ cs) ys
ends-cons c cs ys ends = let f : List ℕ → List ℕ = λ l. c ∷ l in ends-of (c ∷ cs) (c ∷ before cs ys) ys (ap f ends)

-- what stands after a run is an end of what was left before it
pub passed-ends : (f : ℕ → Bool) (cs : List ℕ) (p : Place) → p.left ≡ cs → EndsIn cs (passed f cs p).left
passed-ends f [] p is = let P : List ℕ → Type 0 = λ l. EndsIn [] l in subst P (sym is) (ends-same [])
passed-ends f (c ∷ cs) p is =
    let step : (b : Bool) → f c ≡ b → EndsIn (c ∷ cs) (passed f (c ∷ cs) p).left = λ b. elim b as (λ v. f c ≡ v → EndsIn (c ∷ cs) (passed f (c ∷ cs) p).left) [
      | true ↦ λ e. rw e (ends-cons c cs (passed f cs (behind c cs p)).left (passed-ends f cs (behind c cs p) refl))
      | false ↦ λ e. let P : List ℕ → Type 0 = λ l. EndsIn (c ∷ cs) l in rw e (subst P (sym is) (ends-same (c ∷ cs)))
    ] in
    step (f c) refl
