-- An assertion under a given name while no block is open: it goes on under that name, and what is remembered stays.
use Rattle.snap_assert.proofs.Prelude.{◌≡◌, inl, inr, ℕ, List, [], Option, Some, Result, Ok, Err, refl, sym, ap, ◌∙◌, subst, Files, Assertion, assertion_of, asked_under, key_under, new_contents, SessionView, AssertError, IsAnswered, IsDone, Config, Blocks}
use Rattle.std.proofs.Common.{◌⊎◌}
use Rattle.snap_content.specs.Tree.{Tree}
use Rattle.snap_assert_place.specs.Names.{suffixed}
use Rattle.snap_assert_place.specs.Place.{PlaceView}
use Rattle.snap_assert_settings.specs.Settings.{SettingsView}
use Rattle.snap_assert.proofs.OpenBlocks.{none_open}
use Rattle.snap_assert.specs.Courses.{Course, Refused, named_course, kept_course, course_of}
use Rattle.snap_assert.specs.Names.{Named, name_step}
use Rattle.snap_assert.specs.Outcomes.{IsRefusedAs, IsStopped, IsUnprinted, ErrorCause, WorkErrorCause}
use Rattle.snap_assert.specs.declared.error.AssertError.TheVariants as refusal
use Rattle.snap_assert.specs.declared.outcome.Outcome.{Outcome}

abbrev pub given_named : Assertion → List ℕ → SessionView → Named
given_named a given s = record { name = suffixed given a.settings.suffix; session = s }

pub given_course : (a : Assertion) (given : List ℕ) (s : SessionView) → a.given ≡ Some given → s.blocks ≡ [] → course_of a s ≡ Ok (record { name = suffixed given a.settings.suffix; session = s })
given_course a given s is none =
    ap (λ g. named_course a s (name_step a.settings a.place g s)) is
    ∙ ap (kept_course (given_named a given s)) (none_open (key_under a.place (suffixed given a.settings.suffix)) (new_contents (asked_under a (suffixed given a.settings.suffix))) s none)

one_course : (step : Result Course Refused) (a b : Course) → step ≡ Ok a → step ≡ Ok b → a ≡ b
one_course step a b is also = cc

pub given_done : (config : Config) (a : Assertion) (given : List ℕ) (outcome : Outcome) (files files' : Option Files) (s s' : SessionView) → a.given ≡ Some given → s.blocks ≡ []
    → IsAnswered config a outcome files files' s s' → IsDone config (asked_under a (suffixed given a.settings.suffix)) outcome files files' × (s' ≡ s)
given_done config a given outcome files files' s s' is none x =
    let same = one_course (course_of a s) x.course (record { name = suffixed given a.settings.suffix; session = s }) x.course_is (given_course a given s is none) in
    (subst (λ n. IsDone config (asked_under a n) outcome files files') (ap (λ k. k.name) same) x.done, x.remembered ∙ ap (λ k. k.session) same)

never_both : {P : Type 0} → (step : Result Course Refused) (course : Course) (refused : Refused) → step ≡ Ok course → step ≡ Err refused → P
never_both step course refused is also = absurd (cc)

not_refused : {P : Type 0} → (a : Assertion) (given : List ℕ) (error : AssertError) (files files' : Option Files) (s s' : SessionView) → a.given ≡ Some given → s.blocks ≡ []
    → IsRefusedAs a error files files' s s' → P
not_refused a given error files files' s s' is none r =
    never_both (course_of a s) (record { name = suffixed given a.settings.suffix; session = s }) r.refused (given_course a given s is none) r.course_is

-- so it stops for no other reason than a fault of the store or no memory
given_stops : (a : Assertion) (given : List ℕ) (files files' : Option Files) (s s' : SessionView) (before now : ℕ) (error : AssertError) → a.given ≡ Some given → s.blocks ≡ []
    → IsStopped a error files files' s s' → ErrorCause before now error → WorkErrorCause before now error
given_stops a given files files' s s' before now refusal.OutOfMemory is none h cause = cause
given_stops a given files files' s s' before now (refusal.FileIo named) is none h cause = cause
given_stops a given files files' s s' before now refusal.NameClash is none h cause = not_refused a given refusal.NameClash files files' s s' is none h
given_stops a given files files' s s' before now refusal.DoctestNeedsName is none h cause = not_refused a given refusal.DoctestNeedsName files files' s s' is none h
given_stops a given files files' s s' before now (refusal.DuplicateDiffers key kept new) is none h cause = not_refused a given (refusal.DuplicateDiffers key kept new) files files' s s' is none h
given_stops a given files files' s s' before now refusal.NamesExhausted is none h cause = not_refused a given refusal.NamesExhausted files files' s s' is none h
given_stops a given files files' s s' before now refusal.InlineDuplicate is none h cause = not_refused a given refusal.InlineDuplicate files files' s s' is none h
given_stops a given files files' s s' before now refusal.BadExtension is none h cause = not_refused a given refusal.BadExtension files files' s s' is none h
given_stops a given files files' s s' before now refusal.JsonKey is none h cause = not_refused a given refusal.JsonKey files files' s s' is none h

pub given_cause : {P : Tree → Type 0} → (blocks : Blocks) (settings : SettingsView) (place : PlaceView) (given : List ℕ) (files files' : Option Files) (s s' : SessionView) (before now : ℕ) (error : AssertError) → s.blocks ≡ []
    → IsUnprinted error s s' ⊎ ((printed : Tree) × P printed × IsStopped (assertion_of blocks settings place (Some given) printed) error files files' s s')
    → ErrorCause before now error → WorkErrorCause before now error
given_cause blocks settings place given files files' s s' before now error none (inl u) cause =
    subst (λ e. ErrorCause before now e → WorkErrorCause before now e) (sym u.0) (λ h. h) cause
given_cause blocks settings place given files files' s s' before now error none (inr x) cause =
    given_stops (assertion_of blocks settings place (Some given) x.0) given files files' s s' before now error refl none x.2 cause
