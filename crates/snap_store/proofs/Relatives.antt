-- Paths below others: what is left where all of the base is gone.
use Rattle.snap_store.proofs.Prelude.{◌≡◌, ℕ, List, [], ◌∷◌, Some, true, cond, refl, sym, ap, ◌∙◌, components, is_absolute, slashed, path_of_parts, relative_from, Apart, apart, from_apart, same_start, left_below}

whole_left : (path : List (List ℕ)) → apart path [] ≡ record { path = path; base = [] }
whole_left [] = refl
whole_left (part ∷ path) = refl

pub all_gone : (path base : List (List ℕ)) (whole : Apart) → base ≡ [] → apart path base ≡ whole → left_below whole ≡ Some (slashed path)
all_gone path base whole none is = sym (ap left_below is) ∙ ap (λ parts. left_below (apart path parts)) none ∙ ap left_below (whole_left path)

pub from_root : (path root : List ℕ) → is_absolute path ≡ true → root ≡ 47 ∷ [] → relative_from path root ≡ slashed (components path)
from_root path root absolute is =
    ap (relative_from path) is
    ∙ ap (λ b. cond (same_start b true) (from_apart (apart (components path) [])) (path_of_parts b (components path))) absolute
    ∙ ap from_apart (whole_left (components path))
