-- Where the adding of lines stopped.
use Rattle.snap_pending.proofs.Prelude.{◌≡◌, ℕ, ◌+◌, ◌<◌, List, [], ◌∷◌, ◌++◌, length, take, get_or, map, Option, Some, Result, Ok, Err, refl, ap, sym, ◌∙◌, subst, append_assoc, take_more, map-append, OnErr, None, Bool, Error, FailedParsingYaml, UnexpectedDataType, MissingField, FileIo, FloatText, JsonKey, NotText, NoFile, OutOfMemory, Files, SameBut, MayBeGone, CallEnd, PrintRefused}
use Rattle.std.proofs.Common.{drop, IfErr}
use Rattle.std.proofs.lemmas.List.{take-append-drop}
use Rattle.snap_io.specs.Changes.{Change, removes, all_changed}
use Rattle.snap_io.specs.StandsAfter.{StandsAfter}
use Rattle.snap_io.proofs.Standing.{nothing_begun, in_work, stands_first, stands_later, both_done}
use Rattle.snap_store.specs.Causes.{named_by}
use Rattle.snap_store.proofs.Saved.{names_call}
use Rattle.snap_pending.specs.Saved.{adds, rewrites}

-- an addition that failed was in work
pub add_stopped : {T : Type 0} → (result : Result T Error) (path line : List ℕ) (f f' : Option Files) → CallEnd path result → OnErr result ((m : Files) → f ≡ Some m → SameBut path m f')
    → IfErr result (λ error. StandsAfter (adds path line ∷ []) (named_by error) f f')
add_stopped (Ok done) path line f f' end left = tt
add_stopped (Err error) path line f f' end left = in_work (adds path line) (named_by error) f f' (names_call path (adds path line) error refl end) left

-- and so was the removal
pub removal_stopped : (path : List ℕ) (lines : List (List ℕ)) (error : Error) (f f' : Option Files) → CallEnd {T = Unit {0}} path (Err error) → ((m : Files) → f ≡ Some m → MayBeGone path m f')
    → StandsAfter (rewrites path lines) (named_by error) f f'
removal_stopped path lines error f f' end left =
    stands_first (removes path ∷ []) (map (adds path) lines) (named_by error) f f' (in_work (removes path) (named_by error) f f' (names_call path (removes path) error refl end) left)

-- a list is what stands before a place of it, what stands there, and what stands behind
at_place : (ls : List (List ℕ)) (i : ℕ) (line : List ℕ) → i < length ls → line ≡ get_or ls i line → ls ≡ take i ls ++ line ∷ drop (i + 1) ls
at_place ls i line h is =
    sym (take-append-drop (i + 1) ls)
    ∙ ap (λ t. t ++ drop (i + 1) ls) (take_more ls i line h ∙ ap (λ y. take i ls ++ y ∷ []) (sym is))
    ∙ append_assoc (take i ls) (line ∷ []) (drop (i + 1) ls)

one_more : (path : List ℕ) (ls : List (List ℕ)) (i : ℕ) (line : List ℕ) → i < length ls → line ≡ get_or ls i line → rewrites path (take i ls) ++ adds path line ∷ [] ≡ rewrites path (take (i + 1) ls)
one_more path ls i line h is =
    sym (ap (rewrites path) (take_more ls i line h ∙ ap (λ y. take i ls ++ y ∷ []) (sym is)) ∙ ap (λ cs. removes path ∷ cs) (map-append (adds path) (take i ls) (line ∷ [])))

-- one line more was added
pub added_one : (path : List ℕ) (ls : List (List ℕ)) (i : ℕ) (line : List ℕ) (f f' f'' : Option Files) → i < length ls → line ≡ get_or ls i line
    → ((m : Files) → f ≡ Some m → f' ≡ Some (all_changed (rewrites path (take i ls)) m)) → ((m : Files) → f' ≡ Some m → f'' ≡ Some (all_changed (adds path line ∷ []) m))
    → (m : Files) → f ≡ Some m → f'' ≡ Some (all_changed (rewrites path (take (i + 1) ls)) m)
added_one path ls i line f f' f'' h is before added m told =
    both_done (rewrites path (take i ls)) (adds path line ∷ []) f f' f'' before added m told ∙ ap (λ cs. Some (all_changed cs m)) (one_more path ls i line h is)

-- the adding stopped at this line
pub stopped_at_line : (path : List ℕ) (ls : List (List ℕ)) (i : ℕ) (line : List ℕ) (named : Option (List ℕ)) (f f' f'' : Option Files) → i < length ls → line ≡ get_or ls i line
    → ((m : Files) → f ≡ Some m → f' ≡ Some (all_changed (rewrites path (take i ls)) m)) → StandsAfter (adds path line ∷ []) named f' f'' → StandsAfter (rewrites path ls) named f f''
stopped_at_line path ls i line named f f' f'' h is before s =
    let behind : List Change = map (adds path) (drop (i + 1) ls) in
    let cut : rewrites path ls ≡ rewrites path (take i ls) ++ adds path line ∷ behind =
    ap (rewrites path) (at_place ls i line h is) ∙ ap (λ cs. removes path ∷ cs) (map-append (adds path) (take i ls) (line ∷ drop (i + 1) ls)) in
    subst (λ cs. StandsAfter cs named f f'') (sym cut)
    (stands_later (rewrites path (take i ls)) (adds path line ∷ behind) named f f' f'' before (stands_first (adds path line ∷ []) behind named f' f'' s))

unnamed : (refused : Bool) (error : Error) → PrintRefused refused error → named_by error ≡ None
unnamed refused JsonKey h = refl
unnamed refused OutOfMemory h = refl
unnamed refused (FileIo named) h = absurd h
unnamed refused (FailedParsingYaml named) h = absurd h
unnamed refused UnexpectedDataType h = absurd h
unnamed refused MissingField h = absurd h
unnamed refused (FloatText named) h = absurd h
unnamed refused (NotText named) h = absurd h
unnamed refused (NoFile named) h = absurd h

-- what was not printed has begun nothing
pub unprinted : (cs : List Change) (refused : Bool) (error : Error) (f : Option Files) → PrintRefused refused error → StandsAfter cs (named_by error) f f
unprinted cs refused error f h = subst (λ named. StandsAfter cs named f f) (sym (unnamed refused error h)) (nothing_begun cs f f refl)
