-- Places that are reached by passing characters.
use Rattle.snap_scan_tokens.proofs.Prelude.{◌≡◌, ℕ, List, [], ◌∷◌, Bool, true, false, slice_index, refl, subst, sym, ap, Place, Later, next, skipped, skip_from, passed, behind, Travels, ◌∙◌, arith}

-- where the place after a character is known, it is the next place
pub later-next : (p q r : Place) → r ≡ skipped q → Later p q → Later p r
later-next p q r is h = let P : Place → Type 0 = λ x. Later p x in subst P (sym is) (next p q h)

-- characters of a kind: the first is passed, or none is
pub passed-first : (f : ℕ → Bool) (cs : List ℕ) (p : Place) → f 0 ≡ false → f (slice_index cs 0) ≡ true → cs ≡ p.left
    → passed f cs p ≡ passed f (skipped p).left (skipped p)
passed-first f [] p none is same = absurd (cc)
passed-first f (c ∷ cs) p none is same =
    let all : List ℕ → Place → Place = passed f in
    let then : skipped p ≡ behind c cs p = ap (λ l. skip_from l p) (sym same) in
    rw (is, then) refl

pub passed-none : (f : ℕ → Bool) (cs : List ℕ) (p : Place) → f (slice_index cs 0) ≡ false → passed f cs p ≡ p
passed-none f [] p is = refl
passed-none f (c ∷ cs) p is = rw is refl

-- forward and forward again
pub travels-on : {p q r : Place} → Travels p q → Travels q r → Travels p r
travels-on first second = record {
  onward = λ from h. second.onward from (first.onward from h);
  within = λ all h. second.within all (first.within all h);
  sum = second.sum ∙ first.sum;
  lighter = let near = first.lighter in let far = second.lighter in omega arith;
}
