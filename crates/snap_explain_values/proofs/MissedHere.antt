-- The first redaction that hits nothing.
use Rattle.snap_explain_values.proofs.Prelude.{◌≡◌, ◌<◌, ◌≤◌, ℕ, Bool, true, false, not, List, [], None, Some, length, take, get_or, refl, sym, ◌∙◌, list_any, parts_of, hits, first_missed}
use Rattle.snap_explain_values.proofs.Positions.{position_here, position_nowhere}
use Rattle.snap_explain_values.proofs.Tests.{any_end}
use Rattle.snap_content.specs.Tree as t
use Rattle.snap_select.specs.declared.replacement.Replacement.{Replacement}
use Rattle.snap_select.specs.declared.selector.Selector.{Selector}
use Rattle.snap_assert_settings.specs.Replaced.{replacement_of, replacements_of}

-- the redaction hits nothing
abbrev pub misses : t.Tree → Selector × Replacement → Bool
misses c pair = not (hits (parts_of pair.0) [] c)

-- what is told of it
pub missed_told : (hit told : Bool) → told ≡ hit → told ≡ false → not hit ≡ true
missed_told true told e f = absurd (cc (sym e ∙ f))
missed_told false told e f = refl

pub hit_told : (hit told : Bool) → told ≡ hit → told ≡ true → not hit ≡ false
hit_told true told e f = refl
hit_told false told e f = absurd (cc (sym e ∙ f))

pub missed_here : (c : t.Tree) (ps : List (Selector × Replacement)) (i : ℕ) (p : Selector × Replacement) → i < length ps → p ≡ get_or ps i p → misses c p ≡ true
    → list_any (misses c) (take i ps) ≡ false → first_missed (replacements_of ps) c ≡ Some i
missed_here c ps i p h is e none = position_here replacement_of (λ r. not (hits r.parts [] c)) ps i p h is e none

pub none_missed : (c : t.Tree) (ps : List (Selector × Replacement)) (i : ℕ) → length ps ≤ i → list_any (misses c) (take i ps) ≡ false → first_missed (replacements_of ps) c ≡ None
none_missed c ps i h none = position_nowhere replacement_of (λ r. not (hits r.parts [] c)) ps (any_end (misses c) ps i h none)
