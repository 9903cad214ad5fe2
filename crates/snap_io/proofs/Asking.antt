-- A call more for what an open file gave, and for what an open folder told.
use Rattle.snap_io.proofs.Prelude.{◌≡◌, ℕ, List, [], ◌∷◌, ◌++◌, sym, subst, Told, names_in, Gave}
use Rattle.snap_io.specs.Calls.{History, gives, tells}

pub gave_none : (before : History) (bytes : List ℕ) → bytes ≡ [] → Gave before bytes before
gave_none before bytes none = subst (λ b. Gave before b before) (sym none) Gave.none_yet

pub gave_more : (before now now' : History) (bytes piece bytes' : List ℕ) → Gave before bytes now → now' ≡ gives piece ∷ now → bytes' ≡ bytes ++ piece → Gave before bytes' now'
gave_more before now now' bytes piece bytes' gave call all =
    subst (λ h. Gave before bytes' h) (sym call) (subst (λ b. Gave before b (gives piece ∷ now)) (sym all) (Gave.more bytes piece now gave))

pub told_none : (before : History) (names : List (List ℕ)) → names ≡ [] → Told before names before
told_none before names none = subst (λ n. Told before n before) (sym none) Told.none_yet

pub told_more : (before now now' : History) (names : List (List ℕ)) (piece : List ℕ) (names' : List (List ℕ)) → Told before names now → now' ≡ tells piece ∷ now → names' ≡ names ++ names_in piece → Told before names' now'
told_more before now now' names piece names' told call all =
    subst (λ h. Told before names' h) (sym call) (subst (λ n. Told before n (tells piece ∷ now)) (sym all) (Told.more names piece now told))
