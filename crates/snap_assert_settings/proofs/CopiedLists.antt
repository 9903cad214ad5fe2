-- Copies of redactions, one more and all of them.
use Rattle.snap_assert_settings.proofs.Prelude.{◌≡◌, ℕ, ◌+◌, ◌<◌, Bool, true, false, List, [], ◌∷◌, ◌++◌, length, map, take, get_or, refl, ap, sym, ◌||◌, ◌∙◌, Parts, parts_of, Redaction, Selector, RedactionView, redaction_of, Shown, ShownAt, shown_of, shown_at, shown_redactions, is_called, calls, take_more, list_any}
use Rattle.snap_assert_settings.proofs.RedactionLists.{map-push}
use Rattle.snap_store.proofs.Lists.{none_more, any_here}
use Rattle.snap_assert_settings.specs.Copies.{CloneRefused}
use Rattle.snap_assert_settings.specs.declared.copies.CloneError.{CloneError}
use Rattle.snap_assert_settings.specs.declared.copies.CloneError.TheVariants.{HasDynamic, OutOfMemory}

abbrev shown_pair : Parts → Shown → ShownAt
shown_pair parts shown = record { parts = parts; shown = shown }

same_shown : {X : Type 0} {P : X → Type 0} {Y : Type 0} {Q : Y → Type 0} {g : _} (a b : Selector × Redaction X Y P Q g)
    → parts_of a.0 ≡ parts_of b.0 → shown_of a.1 ≡ shown_of b.1 → shown_at (redaction_of a) ≡ shown_at (redaction_of b)
same_shown a b parts shown = ap (λ x. shown_pair x (shown_of a.1)) parts ∙ ap (shown_pair (parts_of b.0)) shown

pub one_copied : {X : Type 0} {P : X → Type 0} {Y : Type 0} {Q : Y → Type 0} {g : _} (ps : List (Selector × Redaction X Y P Q g)) (i : ℕ)
    (p copy : Selector × Redaction X Y P Q g) (made now : List (RedactionView (Redaction X Y P Q g))) → i < length ps → p ≡ get_or ps i p
    → shown_redactions made ≡ shown_redactions (map redaction_of (take i ps)) → parts_of copy.0 ≡ parts_of p.0 → shown_of copy.1 ≡ shown_of p.1
    → now ≡ made ++ redaction_of copy ∷ [] → shown_redactions now ≡ shown_redactions (map redaction_of (take (i + 1) ps))
one_copied ps i p copy made now small is so_far parts shown next =
    ap shown_redactions next ∙ map-push shown_at made (redaction_of copy)
    ∙ ap (λ xs. xs ++ shown_at (redaction_of copy) ∷ []) so_far
    ∙ ap (λ x. shown_redactions (map redaction_of (take i ps)) ++ x ∷ []) (same_shown copy p parts shown)
    ∙ sym (ap (λ qs. shown_redactions (map redaction_of qs)) (take_more ps i p small ∙ ap (λ x. take i ps ++ x ∷ []) (sym is))
    ∙ ap shown_redactions (map-push redaction_of (take i ps) p) ∙ map-push shown_at (map redaction_of (take i ps)) (redaction_of p))

-- whether a pair calls, and whether one of its redactions does
abbrev pair_calls : {X : Type 0} {P : X → Type 0} {Y : Type 0} {Q : Y → Type 0} {g : _} → Selector × Redaction X Y P Q g → Bool
pair_calls p = is_called p.1

pub as_pairs : {X : Type 0} {P : X → Type 0} {Y : Type 0} {Q : Y → Type 0} {g : _} (ps : List (Selector × Redaction X Y P Q g))
    → list_any calls (map redaction_of ps) ≡ list_any pair_calls ps
as_pairs [] = refl
as_pairs (p ∷ ps) = ap (λ b. is_called p.1 || b) (as_pairs ps)

pub none_calls : {X : Type 0} {P : X → Type 0} {Y : Type 0} {Q : Y → Type 0} {g : _} (ps : List (Selector × Redaction X Y P Q g)) (i : ℕ)
    (p : Selector × Redaction X Y P Q g) → i < length ps → p ≡ get_or ps i p → list_any calls (map redaction_of (take i ps)) ≡ false
    → is_called p.1 ≡ false → list_any calls (map redaction_of (take (i + 1) ps)) ≡ false
none_calls ps i p small is none fails =
    as_pairs (take (i + 1) ps) ∙ none_more pair_calls ps i p small is (sym (as_pairs (take i ps)) ∙ none) fails

pub one_calls : {X : Type 0} {P : X → Type 0} {Y : Type 0} {Q : Y → Type 0} {g : _} (ps : List (Selector × Redaction X Y P Q g)) (i : ℕ)
    (p : Selector × Redaction X Y P Q g) → i < length ps → p ≡ get_or ps i p → is_called p.1 ≡ true → list_any calls (map redaction_of ps) ≡ true
one_calls ps i p small is called = as_pairs ps ∙ any_here pair_calls ps i p small is called

-- what stops one copy stops all
pub stops_all : (one all : Bool) (error : CloneError) → (one ≡ true → all ≡ true) → CloneRefused one error → CloneRefused all error
stops_all one all HasDynamic f stops = f stops
stops_all one all OutOfMemory f stops = tt
