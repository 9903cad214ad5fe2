-- Where a parser stands, and what holds there.
use Rattle.snap_parse_events.proofs.Prelude.{◌≡◌, List, ◌∷◌, subst, sym, ℕ, All, Tokens, State, Feeds, HasSigns, IsSoundIn}
use Rattle.std.proofs.lemmas.List.Elements.{All-head, All-tail, All-cons}

-- after what was open innermost
pub sound-popped : (source : List ℕ) (f : Tokens) (y : State) (ys zs : List State) → zs ≡ y ∷ ys → Feeds source f → All (HasSigns source) zs → IsSoundIn source f y ys
sound-popped source f y ys zs same feeds all =
    let P : List State → Type 0 = λ v. All (HasSigns source) v in
    let both = subst P same all in
    record { feeds = feeds; here = All-head (HasSigns source) y ys both; outer = All-tail (HasSigns source) y ys both }

-- inside of what begins
pub sound-pushed : (source : List ℕ) (f : Tokens) (x y : State) (ys zs : List State) → zs ≡ y ∷ ys → HasSigns source y → IsSoundIn source f x ys → IsSoundIn source f x zs
sound-pushed source f x y ys zs same here is =
    let P : List State → Type 0 = λ v. IsSoundIn source f x v in
    let new : IsSoundIn source f x (y ∷ ys) = record { feeds = is.feeds; here = is.here; outer = All-cons (HasSigns source) y ys here is.outer } in
    subst P (sym same) new
