-- What is left of the records of a literal, and what is answered.
use Rattle.std.proofs.Common.{◌≡◌, ◌≢◌, ◌++◌, ℕ, Bool, true, false, List, [], Option, Result, Ok, Err, inr, refl, sym, ap, ◌∙◌, subst}
use Rattle.std.specs.FinMap.{get}
use Rattle.std.specs.Prelude.{IfOk, unwrap_or}
use Rattle.std.specs.Str.{bytes_eq}
use Rattle.std.proofs.lemmas.Slice.Eq.{bytes_eq-Decides}
use Rattle.snap_content.specs.List.{items_of}
use Rattle.snap_io.specs.Files.{Files, appended}
use Rattle.snap_io.specs.Outside.{Becomes}
use Rattle.snap_pending.specs.Pending.{Pending}
use Rattle.snap_store.specs.Views.{SnapshotView}
use Rattle.snap_assert_settings.specs.declared.config.Config.{Config}
use Rattle.snap_assert.proofs.Removals.{insert_far}
use Rattle.snap_assert.specs.Kept.{FaultIsAt}
use Rattle.snap_assert.specs.LiteralCourses.{CourseStops, literal_course_of}
use Rattle.snap_assert.specs.LiteralOutcomes.{ChangesOnly, IsLiteralDone, IsLiteralJudged, IsLiteralLeft, IsLiteralStopped, LiteralSays, LiteralStops, RecordStops}
use Rattle.snap_assert.specs.Literals.{LiteralAssertion}
use Rattle.snap_assert.specs.Outcomes.{ErrorCause}
use Rattle.snap_assert.specs.Relations.{Relation}
use Rattle.snap_assert.specs.Session.{SessionView}
use Rattle.snap_assert.specs.declared.error.AssertError.{AssertError}
use Rattle.snap_assert.specs.declared.error.AssertError.TheVariants as refusal
use Rattle.snap_assert.specs.declared.judge.Judged.{Judged}
use Rattle.snap_assert.specs.declared.outcome.Outcome.{Outcome}

-- what the records stop for, or are left as, is that of the comparison
pub compared_stops : (relation : Relation) (config : Config) (a : LiteralAssertion) (name : Option (List ℕ)) (judged : Judged) (files files' : Option Files) (error : AssertError)
    → IsLiteralJudged relation config a name judged → RecordStops config a name judged.passed files files' error → LiteralStops relation config a name files files' error
compared_stops relation config a name judged files files' refusal.OutOfMemory is h = tt
compared_stops relation config a name judged files files' (refusal.FileIo path) is h = tt
compared_stops relation config a name judged files files' refusal.NameClash is h = absurd h
compared_stops relation config a name judged files files' refusal.DoctestNeedsName is h = absurd h
compared_stops relation config a name judged files files' (refusal.DuplicateDiffers key kept new) is h = absurd h
compared_stops relation config a name judged files files' refusal.NamesExhausted is h = absurd h
compared_stops relation config a name judged files files' refusal.InlineDuplicate is h = absurd h
compared_stops relation config a name judged files files' refusal.BadExtension is h = absurd h
compared_stops relation config a name judged files files' refusal.JsonKey is h = record { passed = judged.passed; passes = is.passes; record_is = h }

pub compared_done : (relation : Relation) (config : Config) (a : LiteralAssertion) (name : Option (List ℕ)) (judged : Judged) (outcome : Outcome) (files files' : Option Files)
    → IsLiteralJudged relation config a name judged → outcome.warnings ≡ judged.warnings → IsLiteralLeft config a name judged.passed outcome files files'
    → IsLiteralDone relation config a name outcome files files'
compared_done relation config a name judged outcome files files' is said left = record {
  passed = judged.passed;
  passes = is.passes;
  warned = subst (λ w. LiteralSays config a judged.passed (items_of w)) (sym said) is.warned;
  left = left;
}

-- nothing changes, or the file at the path alone
pub unchanged : (path : List ℕ) (files files' : Option Files) → files' ≡ files → ChangesOnly path files files'
unchanged path files files' same = λ m told. record { files = m; told = same ∙ told; others = λ q other. refl }

pub changes_again : (path : List ℕ) (files now files' : Option Files) → ChangesOnly path files now → ChangesOnly path now files' → ChangesOnly path files files'
changes_again path files now files' first second = λ m told.
    let f = first m told in
    let g = second f.files f.told in
    record { files = g.files; told = g.told; others = λ q other. g.others q other ∙ f.others q other }

other_path : (q path : List ℕ) → q ≢ path → (b : Bool) → bytes_eq q path ≡ b → bytes_eq q path ≡ false
other_path q path other true is = absurd (other ((bytes_eq-Decides q path).0 is))
other_path q path other false is = is

pub added_alone : (path bytes : List ℕ) (files files' : Option Files) → Becomes files files' (λ m. appended m path bytes) → ChangesOnly path files files'
added_alone path bytes files files' added = λ m told. record {
  files = appended m path bytes;
  told = added m told;
  others = λ q other. insert_far m path (unwrap_or (get m path) [] ++ bytes) q (other_path q path other (bytes_eq q path) refl);
}

-- a record of these parts
pub pending_is : (p : Pending) (run_id : List ℕ) (line : ℕ) (new old : Option SnapshotView) → p.run_id ≡ run_id → p.line ≡ line → p.new_snapshot ≡ new → p.old_snapshot ≡ old
    → p ≡ record { run_id = run_id; line = line; new_snapshot = new; old_snapshot = old }
pending_is p run_id line new old run at made stood =
    ap (λ x. record p { run_id = x }) run ∙ ap (λ x. record p { run_id = run_id; line = x }) at
    ∙ ap (λ x. record p { run_id = run_id; line = line; new_snapshot = x }) made ∙ ap (λ x. record { run_id = run_id; line = line; new_snapshot = new; old_snapshot = x }) stood

pub both_ok : {T : Type 0} → {P Q R : T → Type 0} → (result : Result T AssertError) → ((v : T) → P v → Q v → R v) → IfOk result P → IfOk result Q → IfOk result R
both_ok (Ok v) f p q = f v p q
both_ok (Err error) f p q = tt

-- once the literal has gone its course
pub after_course : (relation : Relation) (config : Config) (a : LiteralAssertion) (files files' : Option Files) (s t : SessionView) (name : Option (List ℕ)) (error : AssertError)
    → literal_course_of a s ≡ Ok (record { name = name; session = t }) → LiteralStops relation config a name files files' error → IsLiteralStopped relation config a error files files' s t
after_course relation config a files files' s t name refusal.OutOfMemory is h = inr (inr (record { name = name; session = t }, is, refl))
after_course relation config a files files' s t name (refusal.FileIo path) is h = inr (inr (record { name = name; session = t }, is, refl))
after_course relation config a files files' s t name refusal.NameClash is h = absurd h
after_course relation config a files files' s t name refusal.DoctestNeedsName is h = absurd h
after_course relation config a files files' s t name (refusal.DuplicateDiffers key kept new) is h = absurd h
after_course relation config a files files' s t name refusal.NamesExhausted is h = absurd h
after_course relation config a files files' s t name refusal.InlineDuplicate is h = absurd h
after_course relation config a files files' s t name refusal.BadExtension is h = absurd h
after_course relation config a files files' s t name refusal.JsonKey is h = record { course = record { name = name; session = t }; course_is = is; remembered = refl; unprintable = h }

-- before that no store is asked
pub no_course : (relation : Relation) (config : Config) (a : LiteralAssertion) (files : Option Files) (s t : SessionView) (error : AssertError) → CourseStops a error s t
    → IsLiteralStopped relation config a error files files s t
no_course relation config a files s t refusal.OutOfMemory h = h
no_course relation config a files s t (refusal.FileIo path) h = absurd h
no_course relation config a files s t refusal.NameClash h = record { refusal = h; same = refl }
no_course relation config a files s t refusal.DoctestNeedsName h = record { refusal = h; same = refl }
no_course relation config a files s t (refusal.DuplicateDiffers key kept new) h = record { refusal = h; same = refl }
no_course relation config a files s t refusal.NamesExhausted h = record { refusal = h; same = refl }
no_course relation config a files s t refusal.InlineDuplicate h = record { refusal = h; same = refl }
no_course relation config a files s t refusal.BadExtension h = record { refusal = h; same = refl }
no_course relation config a files s t refusal.JsonKey h = absurd h

pub course_cause : (a : LiteralAssertion) (s t : SessionView) (before : ℕ) (error : AssertError) → CourseStops a error s t → ErrorCause before before error
course_cause a s t before refusal.OutOfMemory h = refl
course_cause a s t before (refusal.FileIo path) h = absurd h
course_cause a s t before refusal.NameClash h = refl
course_cause a s t before refusal.DoctestNeedsName h = refl
course_cause a s t before (refusal.DuplicateDiffers key kept new) h = refl
course_cause a s t before refusal.NamesExhausted h = refl
course_cause a s t before refusal.InlineDuplicate h = refl
course_cause a s t before refusal.BadExtension h = refl
course_cause a s t before refusal.JsonKey h = absurd h

pub course_at : (a : LiteralAssertion) (s t : SessionView) (path : List ℕ) (error : AssertError) → CourseStops a error s t → FaultIsAt path error
course_at a s t path refusal.OutOfMemory h = tt
course_at a s t path (refusal.FileIo named) h = absurd h
course_at a s t path refusal.NameClash h = tt
course_at a s t path refusal.DoctestNeedsName h = tt
course_at a s t path (refusal.DuplicateDiffers key kept new) h = tt
course_at a s t path refusal.NamesExhausted h = tt
course_at a s t path refusal.InlineDuplicate h = tt
course_at a s t path refusal.BadExtension h = tt
course_at a s t path refusal.JsonKey h = absurd h
