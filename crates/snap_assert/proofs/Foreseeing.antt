-- What an assertion would answer, in turn: the name, the block, and the file.
use Rattle.snap_assert.proofs.Prelude.{◌≡◌, ℕ, Bool, List, Option, None, Result, Ok, Err, refl, IfOk, ap, ◌∙◌, subst, Files, Assertion, asked_under, key_under, new_contents, SessionView, IsPrepared, IsJudged, Prepared, Asked, contents_in, AssertError, Judged}
use Rattle.snap_io.specs.Outside.{Given, Becomes}
use Rattle.snap_assert.specs.declared.prepare.Asserted.{Asserted}
use Rattle.snap_assert_place.specs.Place.{PlaceView}
use Rattle.snap_assert_settings.specs.Settings.{SettingsView}
use Rattle.snap_assert.specs.Steps.{asked_for}
use Rattle.snap_assert.specs.Subjects.{Subject, IsHeld}
use Rattle.snap_assert.specs.Default.{default_relation}
use Rattle.snap_assert.specs.Blocks.{keep_step}
use Rattle.snap_assert.specs.Courses.{named_course, kept_course}
use Rattle.snap_assert.specs.Names.{name_step}
use Rattle.snap_assert.specs.Prepared.{KeepStops}
use Rattle.snap_assert.proofs.Refusals.{stops_as}
use Rattle.snap_assert.specs.Previews.{IsForeseen, IsPreviewed}
use Rattle.snap_assert.specs.declared.preview.Preview.{Preview}

-- what was prepared, and how the file was judged, as one answer
pub foreseen : (fully : Bool) (result : Result Preview AssertError) (judged : Result Judged AssertError) (settings : SettingsView) (place : PlaceView) (name : List ℕ) (asserted : Asserted) (prepared : Prepared) (files : Option Files)
    → ((subject : Subject) → IsHeld subject asserted → IsPrepared (asked_for settings place name subject) prepared)
    → IfOk judged (λ j. (other : Asked) → IsPrepared other prepared → Given files (λ m. IsJudged (default_relation fully) other m j))
    → IfOk result (λ preview. preview.path ≡ prepared.path) → IfOk result (λ preview. contents_in preview.snapshot ≡ contents_in prepared.snapshot) → IfOk result (λ preview. judged ≡ Ok preview.judged)
    → IfOk result (λ preview. (subject : Subject) → IsHeld subject asserted → IsForeseen fully (asked_for settings place name subject) preview files)
foreseen fully (Ok preview) judged settings place name held prepared files p compared path contents is = λ subject by.
    let asked = asked_for settings place name subject in
    let ready = p subject by in
    record {
      path = path ∙ ready.path;
      contents = contents ∙ ready.contents;
      judged = (subst (λ r. IfOk r (λ j. (other : Asked) → IsPrepared other prepared → Given files (λ m. IsJudged (default_relation fully) other m j))) is compared) asked ready;
    }
foreseen fully (Err error) judged settings place name held prepared files p compared path contents is = tt

-- the name is taken, and the block goes along
pub previewed : (fully : Bool) (a : Assertion) (preview : Preview) (files : Option Files) (s t s' : SessionView) (name : List ℕ) → name_step a.settings a.place a.given s ≡ Ok (record { name = name; session = t })
    → keep_step (key_under a.place name) (new_contents (asked_under a name)) t ≡ Ok s' → IsForeseen fully (asked_under a name) preview files → IsPreviewed fully a preview files s s'
previewed fully a preview files s t s' name is kept seen = record {
  course = record { name = name; session = s' };
  course_is = ap (named_course a s) is ∙ ap (kept_course (record { name = name; session = t })) kept;
  remembered = refl;
  foreseen = seen;
}

-- where no files are told, any become others
pub untold_stops : (step : Result SessionView AssertError) (s s' : SessionView) (f : Files → Files) (error : AssertError) → KeepStops (Unit {0}) step s s' error
    → KeepStops (Becomes None None f) step s s' error
untold_stops step s s' f error h = stops_as (Unit {0}) (Becomes None None f) step step s s' error (λ nothing m told. absurd (cc)) refl h
