-- The name of an assertion that comes from its function.
use Rattle.snap_assert.proofs.Prelude.{◌≡◌, ℕ, Bool, false, cond, List, Err, sym, ap, ◌∙◌, SessionView}
use Rattle.snap_assert_place.specs.Names.{NameKey, last_name, is_test, key_of}
use Rattle.snap_assert_place.specs.Place.{PlaceView}
use Rattle.snap_assert_place.specs.SnapshotPath.{is_doctest}
use Rattle.snap_assert_settings.specs.Settings.{SettingsView}
use Rattle.snap_assert.specs.Names.{counted_step, function_step, automatic_step}
use Rattle.snap_assert.specs.declared.error.AssertError.TheVariants.{DoctestNeedsName}

-- it is counted under the key of settings and place
pub function_is : (settings : SettingsView) (place : PlaceView) (key : NameKey) (function : List ℕ) (test : Bool) (s : SessionView)
    → function ≡ place.function → key ≡ key_of settings place → test ≡ is_test (last_name function) → counted_step key test s ≡ function_step settings place s
function_is settings place key function test s at keyed tested =
    ap (λ k. counted_step k test s) keyed ∙ ap (λ b. counted_step (key_of settings place) b s) (tested ∙ ap (λ f. is_test (last_name f)) at)

-- outside a doctest it is that of an assertion for which none is given
pub automatic_is : (settings : SettingsView) (place : PlaceView) (function : List ℕ) (doctest : Bool) (s : SessionView)
    → function ≡ place.function → doctest ≡ is_doctest function → doctest ≡ false → function_step settings place s ≡ automatic_step settings place s
automatic_is settings place function doctest s at tells none =
    let outside : is_doctest place.function ≡ false = sym (tells ∙ ap is_doctest at) ∙ none in
    sym (ap (λ b. cond b (Err DoctestNeedsName) (function_step settings place s)) outside)
