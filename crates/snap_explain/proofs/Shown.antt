-- The blanks that a text begins with.
use Rattle.snap_explain.proofs.Prelude.{◌≡◌, ◌==◌, ℕ, List, [], ◌∷◌, ◌++◌, Bool, true, false, cond, refl, sym, ap, ◌∙◌}
use Rattle.snap_explain.specs.Starts.{blanks, after_blanks}

cut_blanks : (cs : List ℕ) → cs ≡ blanks cs ++ after_blanks cs
cut_blanks [] = refl
cut_blanks (c ∷ cs) = by (c == 32) (cut_blanks cs)
  where
    by : (b : Bool) → cs ≡ blanks cs ++ after_blanks cs → c ∷ cs ≡ cond b (c ∷ blanks cs) [] ++ cond b (after_blanks cs) (c ∷ cs)
    by true more = ap (λ ds. c ∷ ds) more
    by false more = refl

pub cut_at : (text rest : List ℕ) → rest ≡ after_blanks text → text ≡ blanks text ++ rest
cut_at text rest is = cut_blanks text ∙ ap (λ r. blanks text ++ r) (sym is)
