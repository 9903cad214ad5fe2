-- What stands before the first NUL of a text.
use Rattle.snap_scan_tokens.proofs.Prelude.{◌≡◌, ◌==◌, ℕ, List, [], ◌∷◌, ◌++◌, Bool, true, false, cond, refl, sym, ap, ◌∙◌}
use Rattle.std.proofs.lemmas.Bool.{or_parts}
use Rattle.std.specs.List.{list_any}
use Rattle.snap_scan_tokens.specs.Place.{before_nul}
use Rattle.snap_str.specs.Cut.{Lacks, IsCutAtFirst}

front : (cs more : List ℕ) → Lacks 0 cs → before_nul (cs ++ 0 ∷ more) ≡ cs
front [] more h = refl
front (c ∷ cs) more h =
    let here = or_parts (c == 0) (list_any (λ d. d == 0) cs) h in
    ap (λ b. cond b [] (c ∷ before_nul (cs ++ 0 ∷ more))) here.0 ∙ ap (λ t. c ∷ t) (front cs more here.1)

pub no_nul : (cs : List ℕ) → Lacks 0 cs → before_nul cs ≡ cs
no_nul [] h = refl
no_nul (c ∷ cs) h =
    let here = or_parts (c == 0) (list_any (λ d. d == 0) cs) h in
    ap (λ b. cond b [] (c ∷ before_nul cs)) here.0 ∙ ap (λ t. c ∷ t) (no_nul cs here.1)

pub cut_at_nul : (cs before more : List ℕ) → IsCutAtFirst 0 cs before more → before ≡ before_nul cs
cut_at_nul cs before more cut = sym (ap before_nul cut.is ∙ front before more cut.first)
