-- What the assertion of a document would answer.
use Rattle.snap_run.proofs.Prelude.{◌≡◌, ◌⊎◌, inl, inr, ℕ, Bool, List, Option, sym, subst, Result, Ok, Err, Files, SessionView, AssertionView, RunWords, place_by, settings_by, printed_by, assertion_by}
use Rattle.std.specs.Prelude.{IfOk}
use Rattle.std.specs.Result.{IfErr}
use Rattle.snap_content.specs.Tree.{Tree}
use Rattle.snap_print.specs.Blocks.{blocks_if}
use Rattle.snap_assert_settings.specs.Settings.{SettingsView}
use Rattle.snap_assert_place.specs.Place.{PlaceView}
use Rattle.snap_assert.specs.Assertions.{assertion_of}
use Rattle.snap_assert.specs.Outcomes.{IsUnprinted}
use Rattle.snap_assert.specs.Previews.{IsPreviewed, IsStoppedBefore}
use Rattle.snap_assert.specs.declared.error.AssertError.{AssertError}
use Rattle.snap_assert.specs.declared.preview.Preview.{Preview}
use Rattle.snap_run.proofs.DocumentEnds.{assertion_is}

-- what is printed is what the request prints
pub previewed_by : {P : Tree → Type 0} → (fully : Bool) (result : Result Preview AssertError) (words : RunWords) (a : AssertionView) (settings : SettingsView) (place : PlaceView) (given : Option (List ℕ)) (files : Option Files) (s t : SessionView)
    → settings ≡ settings_by a → place ≡ place_by words.workspace a → given ≡ a.name → ((out : Tree) → P out → out ≡ printed_by a)
    → IfOk result (λ preview. (printed : Tree) × P printed × IsPreviewed fully (assertion_of (blocks_if words.literal) settings place given printed) preview files s t)
    → IfOk result (λ preview. IsPreviewed fully (assertion_by words a) preview files s t)
previewed_by fully (Ok preview) words a settings place given files s t new is named prints x =
    subst (λ k. IsPreviewed fully k preview files s t) (assertion_is settings place given words a x.0 new is named (prints x.0 x.1)) x.2
previewed_by fully (Err e) words a settings place given files s t new is named prints x = tt

-- without a printed tree nothing is remembered
unprinted : (words : RunWords) (a : AssertionView) (e : AssertError) (s t : SessionView) → IsUnprinted e s t → IsStoppedBefore (assertion_by words a) e s t
unprinted words a e s t u = subst (λ k. IsStoppedBefore (assertion_by words a) k s t) (sym u.0) (inl u.1)

pub stopped_before : {P : Tree → Type 0} → (result : Result Preview AssertError) (words : RunWords) (a : AssertionView) (settings : SettingsView) (place : PlaceView) (given : Option (List ℕ)) (s t : SessionView)
    → settings ≡ settings_by a → place ≡ place_by words.workspace a → given ≡ a.name → ((out : Tree) → P out → out ≡ printed_by a)
    → IfErr result (λ e. IsUnprinted e s t ⊎ ((printed : Tree) × P printed × IsStoppedBefore (assertion_of (blocks_if words.literal) settings place given printed) e s t))
    → IfErr result (λ e. IsStoppedBefore (assertion_by words a) e s t)
stopped_before (Ok preview) words a settings place given s t new is named prints x = tt
stopped_before (Err e) words a settings place given s t new is named prints (inl u) = unprinted words a e s t u
stopped_before (Err e) words a settings place given s t new is named prints (inr x) =
    subst (λ k. IsStoppedBefore k e s t) (assertion_is settings place given words a x.0 new is named (prints x.0 x.1)) x.2
