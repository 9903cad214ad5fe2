-- A run of characters, and what stands after it.
use Rattle.snap_scan_properties.proofs.Prelude.{◌≡◌, ℕ, List, [], ◌∷◌, ◌++◌, Bool, true, false, cond, refl, sym, ap, ◌∙◌, take_while, slice_index, Place, passed, behind, skipped, skip_from}
use Rattle.std.proofs.lemmas.List.Sums.{take_while-cons}

pub run-true : (f : ℕ → Bool) (c : ℕ) (cs : List ℕ) → f c ≡ true → take_while f (c ∷ cs) ≡ c ∷ take_while f cs
run-true f c cs is = let g : Bool → List ℕ = λ b. cond b (c ∷ take_while f cs) [] in take_while-cons f c cs ∙ ap g is

pub run-false : (f : ℕ → Bool) (c : ℕ) (cs : List ℕ) → f c ≡ false → take_while f (c ∷ cs) ≡ []
run-false f c cs is = let g : Bool → List ℕ = λ b. cond b (c ∷ take_while f cs) [] in take_while-cons f c cs ∙ ap g is

pub passed-true : (f : ℕ → Bool) (c : ℕ) (cs : List ℕ) (p : Place) → f c ≡ true → passed f (c ∷ cs) p ≡ passed f cs (behind c cs p)
passed-true f c cs p is = rw is refl

pub passed-false : (f : ℕ → Bool) (c : ℕ) (cs : List ℕ) (p : Place) → f c ≡ false → passed f (c ∷ cs) p ≡ p
passed-false f c cs p is = rw is refl

-- a run, and then what is left after it
pub run-split : (f : ℕ → Bool) (cs : List ℕ) (p : Place) → p.left ≡ cs → cs ≡ take_while f cs ++ (passed f cs p).left
run-split f [] p is = sym is
run-split f (c ∷ cs) p is =
    let step : (b : Bool) → f c ≡ b → c ∷ cs ≡ take_while f (c ∷ cs) ++ (passed f (c ∷ cs) p).left = λ b. elim b as (λ v. f c ≡ v → c ∷ cs ≡ take_while f (c ∷ cs) ++ (passed f (c ∷ cs) p).left) [
      | true ↦ λ e.
          let first : List ℕ → List ℕ = λ l. c ∷ l in
          let front : List ℕ → List ℕ = λ l. l ++ (passed f cs (behind c cs p)).left in
          let back : Place → List ℕ = λ q. take_while f (c ∷ cs) ++ q.left in
          ap first (run-split f cs (behind c cs p) refl) ∙ sym (ap front (run-true f c cs e)) ∙ sym (ap back (passed-true f c cs p e))
      | false ↦ λ e.
          let front : List ℕ → List ℕ = λ l. l ++ p.left in
          let back : Place → List ℕ = λ q. take_while f (c ∷ cs) ++ q.left in
          sym is ∙ sym (ap front (run-false f c cs e)) ∙ sym (ap back (passed-false f c cs p e))
    ] in
    step (f c) refl

second-of : (cs : List ℕ) (p : Place) → p.left ≡ cs → slice_index (skip_from cs p).left 0 ≡ slice_index cs 1
second-of [] p is = ap (λ l. slice_index l 0) is
second-of (c ∷ cs) p is = refl

-- the character after the first one
pub second-is : (p : Place) → slice_index (skipped p).left 0 ≡ slice_index p.left 1
second-is p = second-of p.left p refl

third-of : (cs : List ℕ) (p : Place) → p.left ≡ cs → slice_index (skip_from cs p).left 1 ≡ slice_index cs 2
third-of [] p is = ap (λ l. slice_index l 1) is
third-of (c ∷ cs) p is = refl

pub third-is : (p : Place) → slice_index (skipped (skipped p)).left 0 ≡ slice_index p.left 2
third-is p = second-is (skipped p) ∙ third-of p.left p refl
