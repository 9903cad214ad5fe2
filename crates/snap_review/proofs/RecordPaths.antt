-- The path of the records of a source below a workspace.
use Rattle.snap_review.proofs.Prelude.{◌≡◌, ℕ, Bool, true, false, List, [], ◌∷◌, ◌++◌, Option, None, Some, cond, refl, sym, ap, ◌∙◌, unwrap_or}
use Rattle.std.proofs.lemmas.List.Elements.{All-append}
use Rattle.snap_assert_place.specs.Place.{PlaceView}
use Rattle.snap_assert_place.specs.SnapshotPath as place
use Rattle.snap_path.proofs.Joining.{components-names, parts-components}
use Rattle.snap_path.specs.Paths.{IsName, components, is_absolute, path_of_parts, last_of, joined, parent_of, name_of}
use Rattle.snap_review.specs.Wanted.{records_path}

last_later : (part : List ℕ) (parts : List (List ℕ)) (last : List ℕ) → last_of parts ≡ Some last → last_of (part ∷ parts) ≡ Some last
last_later part [] last h = absurd (cc)
last_later part (next ∷ parts) last h = h

last_behind : (front parts : List (List ℕ)) (last : List ℕ) → last_of parts ≡ Some last → last_of (front ++ parts) ≡ Some last
last_behind [] parts last h = h
last_behind (part ∷ front) parts last h = last_later part (front ++ parts) last (last_behind front parts last h)

name-joined : (base tail last : List ℕ) → name_of tail ≡ Some last → name_of (joined base tail) ≡ Some last
name-joined base tail last h = by (is_absolute tail) refl
  where
    below : List ℕ
    below = path_of_parts (is_absolute base) (components base ++ components tail)

    by : (b : Bool) → is_absolute tail ≡ b → name_of (joined base tail) ≡ Some last
    by true e =
        ap (λ b. name_of (cond b (path_of_parts true (components tail)) below)) e
        ∙ ap last_of (parts-components true (components tail) (components-names tail)) ∙ h
    by false e =
        ap (λ b. name_of (cond b (path_of_parts true (components tail)) below)) e
        ∙ ap last_of (parts-components (is_absolute base) (components base ++ components tail) (All-append IsName (components base) (components tail) (components-names base) (components-names tail)))
        ∙ last_behind (components base) (components tail) last h

pub records_below : (p : PlaceView) (name : List ℕ) → name_of p.file ≡ Some name → records_path (joined p.workspace p.file) ≡ place.records_path p
records_below p name h =
    ap (λ n. joined (parent_of (joined p.workspace p.file)) (place.records_name (unwrap_or n []))) (name-joined p.workspace p.file name h)
    ∙ ap (λ n. joined (parent_of (joined p.workspace p.file)) (place.records_name (unwrap_or n []))) (sym h)
