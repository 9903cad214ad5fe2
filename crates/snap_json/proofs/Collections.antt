-- What is written of a list, element by element.
use Rattle.snap_json.proofs.Prelude.{◌≡◌, ℕ, suc, ◌+◌, ◌<◌, List, [], ◌∷◌, ◌++◌, length, take, drop, get_or, sym, ap, ◌∙◌, take-append-drop, drop-cons, Result, get_or_default, opening, closing, Written, whole, behind, IsAdded, IsStopped, Wrote, all_written, further, collection, Format, JsonError}
use Rattle.snap_json.proofs.Behind.{stopped_first, stopped_behind, stopped_as, added_behind, added_as, wrote_behind, wrote_as, behind-assoc, behind-none, behind-end}

all_written-append : {X : Type 0} (g : X → Written) (xs ys : List X) → all_written g (xs ++ ys) ≡ behind (all_written g xs) (all_written g ys)
all_written-append g [] ys = sym (behind-none (all_written g ys))
all_written-append g (x ∷ xs) ys = ap (behind (g x)) (all_written-append g xs ys) ∙ sym (behind-assoc (g x) (all_written g xs) (all_written g ys))

-- a list, about one of its elements
around : {X : Type 0} (g : X → Written) (xs : List X) (i : ℕ) (x : X) → i < length xs → x ≡ get_or xs i x
    → all_written g xs ≡ behind (all_written g (take i xs)) (behind (g x) (all_written g (drop (suc i) xs)))
around g xs i x below is =
    sym (ap (all_written g) (take-append-drop i xs))
    ∙ all_written-append g (take i xs) (drop i xs)
    ∙ ap (λ ys. behind (all_written g (take i xs)) (all_written g ys)) (drop-cons xs i x below ∙ ap (λ y. y ∷ drop (suc i) xs) (sym is))

-- one more element
pub added_more : {X : Type 0} {old mid new : List ℕ} (g : X → Written) (xs : List X) (i : ℕ) (x : X) → take (i + 1) xs ≡ take i xs ++ x ∷ []
    → IsAdded old mid (all_written g (take i xs)) → IsAdded mid new (g x) → IsAdded old new (all_written g (take (i + 1) xs))
added_more g xs i x more h k =
    added_as (behind (all_written g (take i xs)) (g x)) (all_written g (take (i + 1) xs))
    (sym (ap (all_written g) more ∙ all_written-append g (take i xs) (x ∷ []) ∙ ap (behind (all_written g (take i xs))) (behind-end (g x))))
    (added_behind h k)

-- a collection that failed at its bracket, within its first element, and within a further one
pub failed_opening : {X : Type 0} {e : JsonError} {old new : List ℕ} (layout : Format) (k inner o c : ℕ) (w : X → Written) (items xs : List X) (x : X)
    → items ≡ x ∷ xs → IsStopped e old new (whole (opening layout inner o)) → IsStopped e old new (collection layout k inner o c w items)
failed_opening layout k inner o c w items xs x is s =
    stopped_as (collection layout k inner o c w (x ∷ xs)) (collection layout k inner o c w items) (ap (collection layout k inner o c w) (sym is))
    (stopped_first (behind (w x) (behind (all_written (further layout inner w) xs) (whole (closing layout k c)))) s)

pub failed_first : {X : Type 0} {e : JsonError} {old opened new : List ℕ} (layout : Format) (k inner o c : ℕ) (w : X → Written) (items xs : List X) (x : X)
    → items ≡ x ∷ xs → IsAdded old opened (whole (opening layout inner o)) → IsStopped e opened new (w x)
    → IsStopped e old new (collection layout k inner o c w items)
failed_first layout k inner o c w items xs x is h s =
    stopped_as (collection layout k inner o c w (x ∷ xs)) (collection layout k inner o c w items) (ap (collection layout k inner o c w) (sym is))
    (stopped_behind h (stopped_first (behind (all_written (further layout inner w) xs) (whole (closing layout k c))) s))

pub failed_further : {X : Type 0} {e : JsonError} {old opened begun mid new : List ℕ} (layout : Format) (k inner o c : ℕ) (w : X → Written)
    (items xs : List X) (x y : X) (i : ℕ) → items ≡ x ∷ xs → IsAdded old opened (whole (opening layout inner o)) → IsAdded opened begun (w x)
    → IsAdded begun mid (all_written (further layout inner w) (take i xs)) → i < length xs → y ≡ get_or xs i y
    → IsStopped e mid new (further layout inner w y) → IsStopped e old new (collection layout k inner o c w items)
failed_further layout k inner o c w items xs x y i is h first done below at s =
    let g = further layout inner w in
    stopped_as (collection layout k inner o c w (x ∷ xs)) (collection layout k inner o c w items) (ap (collection layout k inner o c w) (sym is))
    (stopped_behind h (stopped_behind first (stopped_first (whole (closing layout k c))
    (stopped_as (behind (all_written g (take i xs)) (behind (g y) (all_written g (drop (suc i) xs)))) (all_written g xs) (sym (around g xs i y below at))
    (stopped_behind done (stopped_first (all_written g (drop (suc i) xs)) s))))))

-- a collection up to its end
pub wrote_collection : {X : Type 0} {old opened begun mid : List ℕ} (r : Result (Unit {0}) JsonError) (new : List ℕ) (layout : Format)
    (k inner o c : ℕ) (w : X → Written) (items xs : List X) (x : X) (i : ℕ) → items ≡ x ∷ xs → IsAdded old opened (whole (opening layout inner o))
    → IsAdded opened begun (w x) → IsAdded begun mid (all_written (further layout inner w) (take i xs)) → take i xs ≡ xs
    → Wrote r mid new (whole (closing layout k c)) → Wrote r old new (collection layout k inner o c w items)
wrote_collection {old = old} r new layout k inner o c w items xs x i is h first done all s =
    let g = further layout inner w in
    wrote_as r old new (collection layout k inner o c w (x ∷ xs)) (collection layout k inner o c w items) (ap (collection layout k inner o c w) (sym is))
    (wrote_behind r new (behind (w x) (behind (all_written g xs) (whole (closing layout k c)))) h
    (wrote_behind r new (behind (all_written g xs) (whole (closing layout k c))) first
    (wrote_behind r new (whole (closing layout k c)) (added_as (all_written g (take i xs)) (all_written g xs) (ap (all_written g) all) done) s)))

-- an element by itself, whatever stands for one that is not there
pub same_get : (xs : List ℕ) (i : ℕ) → i < length xs → get_or xs i 0 ≡ get_or xs i (get_or xs i 0)
same_get xs i below = get_or_default xs i 0 (get_or xs i 0) below
