-- No course of an assertion is refused for an extension: that is done before.
use Rattle.snap_assert.proofs.Prelude.{◌≡◌, ◌⊎◌, inl, inr, ℕ, Bool, true, false, List, Option, None, Some, Result, Ok, Err, sym, subst, Files, SessionView, Assertion, asked_under, key_under, new_contents, AssertError, SnapshotContents, Config}
use Rattle.std.specs.Prelude.{if◌then◌else◌, nat_eq, ◌+◌}
use Rattle.snap_assert_place.specs.Names.{NameKey, key_of, last_name, is_test}
use Rattle.snap_assert_place.specs.Place.{PlaceView}
use Rattle.snap_assert_place.specs.SnapshotPath.{is_doctest}
use Rattle.snap_assert_settings.specs.Settings.{SettingsView}
use Rattle.snap_assert.specs.Assertions.{payload_assertion_of}
use Rattle.snap_assert.specs.Blocks.{keep_by, keep_step, do_agree, parts_of}
use Rattle.snap_assert.specs.Compared.{IsAnsweredBy}
use Rattle.snap_assert.specs.Courses.{Course, Refused, course_of, named_course, kept_course}
use Rattle.snap_assert.specs.Names.{Named, use_at, counted, next_use, clashes, prefixed_in, count_in, named_by, function_step, name_step}
use Rattle.snap_assert.specs.Outcomes.{IsRefusedAs, IsStopped}
use Rattle.snap_assert.specs.Payloads.{is_bad_extension}
use Rattle.snap_assert.specs.Relations.{Relation}
use Rattle.snap_assert.specs.Session.{is_open, use_of, kept_for}
use Rattle.snap_assert.specs.Values.{PayloadStops}
use Rattle.snap_assert.specs.declared.error.AssertError.TheVariants as refusal
use Rattle.snap_assert.specs.declared.error.DuplicateKey.{DuplicateKey}
use Rattle.snap_assert.specs.declared.outcome.Outcome.{Outcome}
use Rattle.snap_assert.specs.declared.session.Use.{Use}

abbrev IsOther : AssertError → Type 0
IsOther refusal.BadExtension = ⊥
IsOther _ = Unit {0}

abbrev EndsOther : {T : Type 0} → Result T AssertError → Type 0
EndsOther (Ok value) = Unit {0}
EndsOther (Err error) = IsOther error

either : {T : Type 0} → (b : Bool) (x y : Result T AssertError) → EndsOther x → EndsOther y → EndsOther (if b then x else y)
either true x y h k = h
either false x y h k = k

counted_other : (opened is_test : Bool) (count : ℕ) → EndsOther (counted opened is_test count)
counted_other true is_test count = tt
counted_other false is_test count = either (nat_eq count 18446744073709551615) (Err refusal.NamesExhausted) (Ok (use_at is_test (count + 1))) tt tt

next_other : (opened is_test : Bool) (held : Option Use) → EndsOther (next_use opened is_test held)
next_other opened is_test held = either (clashes (prefixed_in held) is_test) (Err refusal.NameClash) (counted opened is_test (count_in held)) tt (counted_other opened is_test (count_in held))

named_other : (key : NameKey) (s : SessionView) (next : Result Use AssertError) → EndsOther next → EndsOther (named_by key s next)
named_other key s (Ok next) h = tt
named_other key s (Err error) h = h

name_other : (settings : SettingsView) (place : PlaceView) (given : Option (List ℕ)) (s : SessionView) → EndsOther (name_step settings place given s)
name_other settings place (Some given) s = tt
name_other settings place None s =
    let key = key_of settings place in
    let test = is_test (last_name place.function) in
    either (is_doctest place.function) (Err refusal.DoctestNeedsName) (function_step settings place s) tt (named_other key s (next_use (is_open s) test (use_of s key)) (next_other (is_open s) test (use_of s key)))

kept_other : (key : DuplicateKey) (new : SnapshotContents) (s : SessionView) (held : Option SnapshotContents) → EndsOther (keep_by key new s held)
kept_other key new s None = tt
kept_other key new s (Some kept) = either (do_agree kept new) (Ok s) (Err (refusal.DuplicateDiffers key kept new)) tt tt

abbrev CourseOther : Result Course Refused → Type 0
CourseOther (Ok course) = Unit {0}
CourseOther (Err refused) = IsOther refused.error

kept_course_other : (named : Named) (step : Result SessionView AssertError) → EndsOther step → CourseOther (kept_course named step)
kept_course_other named (Ok session) h = tt
kept_course_other named (Err error) h = h

named_course_other : (a : Assertion) (s : SessionView) (step : Result Named AssertError) → EndsOther step → CourseOther (named_course a s step)
named_course_other a s (Err error) h = h
named_course_other a s (Ok named) h =
    let new = new_contents (asked_under a named.name) in
    kept_course_other named (keep_step (key_under a.place named.name) new named.session) (kept_other (key_under a.place named.name) new named.session (kept_for named.session (parts_of (key_under a.place named.name))))

course_other : (a : Assertion) (s : SessionView) → CourseOther (course_of a s)
course_other a s = named_course_other a s (name_step a.settings a.place a.given s) (name_other a.settings a.place a.given s)

never : {P : Type 0} → (a : Assertion) (files files' : Option Files) (s s' : SessionView) → IsRefusedAs a refusal.BadExtension files files' s s' → P
never a files files' s s' r =
    absurd (subst IsOther r.error_is (subst CourseOther r.course_is (course_other a s)))

-- so an assertion of a payload whose extension is not refused stops as any other
pub payload_stops : (settings : SettingsView) (place : PlaceView) (name : Option (List ℕ)) (content : List ℕ) (extension : Option (List ℕ)) (told : List ℕ) (error : AssertError) (files files' : Option Files) (s s' : SessionView)
    → extension ≡ Some told → is_bad_extension extension ≡ false → IsStopped (payload_assertion_of settings place name told content) error files files' s s'
    → PayloadStops settings place name content extension error files files' s s'
payload_stops settings place name content extension told refusal.BadExtension files files' s s' is good h = never (payload_assertion_of settings place name told content) files files' s s' h
payload_stops settings place name content extension told refusal.OutOfMemory files files' s s' is good h = record { told = told; told_is = is; good = good; stopped = h }
payload_stops settings place name content extension told (refusal.FileIo named) files files' s s' is good h = record { told = told; told_is = is; good = good; stopped = h }
payload_stops settings place name content extension told refusal.NameClash files files' s s' is good h = record { told = told; told_is = is; good = good; stopped = h }
payload_stops settings place name content extension told refusal.DoctestNeedsName files files' s s' is good h = record { told = told; told_is = is; good = good; stopped = h }
payload_stops settings place name content extension told (refusal.DuplicateDiffers key kept new) files files' s s' is good h = record { told = told; told_is = is; good = good; stopped = h }
payload_stops settings place name content extension told refusal.NamesExhausted files files' s s' is good h = record { told = told; told_is = is; good = good; stopped = h }
payload_stops settings place name content extension told refusal.InlineDuplicate files files' s s' is good h = record { told = told; told_is = is; good = good; stopped = h }
payload_stops settings place name content extension told refusal.JsonKey files files' s s' is good h = record { told = told; told_is = is; good = good; stopped = h }

-- an extension that is not refused isn't one that is
pub not_bad : {P : Type 0} → (extension : Option (List ℕ)) → is_bad_extension extension ≡ false → is_bad_extension extension ≡ true → P
not_bad extension good bad = absurd (let clash = sym good in cc (clash, bad))

-- under a name by another word it is answered the same
pub answered_as : (relation : Relation) (config : Config) (settings : SettingsView) (place : PlaceView) (name name' : Option (List ℕ)) (told content : List ℕ) (outcome : Outcome) (files files' : Option Files) (s s' : SessionView) → name ≡ name'
    → IsAnsweredBy relation config (payload_assertion_of settings place name told content) outcome files files' s s' → IsAnsweredBy relation config (payload_assertion_of settings place name' told content) outcome files files' s s'
answered_as relation config settings place name name' told content outcome files files' s s' is h =
    subst (λ n. IsAnsweredBy relation config (payload_assertion_of settings place n told content) outcome files files' s s') is h

pub of_either : {A B P : Type 0} → (A → P) → (B → P) → A ⊎ B → P
of_either f h (inl a) = f a
of_either f h (inr b) = h b
