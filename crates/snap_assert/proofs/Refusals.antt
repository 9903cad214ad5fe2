-- Why an assertion comes to no answer, in turn: the name, the files, the block, and the files once more.
use Rattle.snap_assert.specs.Compared.{IsDoneBy, IsAnsweredBy}
use Rattle.snap_assert.specs.Relations.{Relation}
use Rattle.snap_assert.proofs.Prelude.{◌≡◌, ◌⊎◌, inl, inr, ℕ, List, Option, None, Some, Result, Ok, Err, refl, sym, ap, ◌∙◌, Files, cleared, Assertion, asked_under, key_under, new_contents, SessionView, Update, AssertError, FaultIsOwn, Config}
use Rattle.std.specs.Result.{IfErr, OnOk}
use Rattle.std.specs.Prelude.{IfOk}
use Rattle.snap_content.specs.Tree.{Tree}
use Rattle.snap_io.specs.Outside.{Becomes}
use Rattle.snap_assert_place.specs.SnapshotPath.{path_of}
use Rattle.snap_assert.specs.Blocks.{keep_step}
use Rattle.snap_assert.specs.Courses.{named_course, kept_course}
use Rattle.snap_assert.specs.Names.{Named, name_step, RefusedAs}
use Rattle.snap_assert.specs.Outcomes.{IsStopped, MayRemember, ErrorCause, AssertCause, WorkErrorCause, WorkCause}
use Rattle.snap_assert.specs.Prepared.{KeepStops, MayKeep}
use Rattle.snap_assert.specs.declared.error.AssertError.TheVariants as refusal
use Rattle.snap_assert.specs.declared.outcome.Outcome.{Outcome}

-- work on the files stops before the block is asked
pub work_stops : (A : Type 0) (step : Result SessionView AssertError) (s : SessionView) (before now : ℕ) (error : AssertError) → WorkErrorCause before now error → KeepStops A step s s error
work_stops A step s before now refusal.OutOfMemory h = inl refl
work_stops A step s before now (refusal.FileIo named) h = inl refl
work_stops A step s before now refusal.NameClash h = absurd h
work_stops A step s before now refusal.DoctestNeedsName h = absurd h
work_stops A step s before now (refusal.DuplicateDiffers key kept new) h = absurd h
work_stops A step s before now refusal.NamesExhausted h = absurd h
work_stops A step s before now refusal.InlineDuplicate h = absurd h
work_stops A step s before now refusal.BadExtension h = absurd h
work_stops A step s before now refusal.JsonKey h = absurd h

-- or after that
pub kept_stops : (A : Type 0) (step : Result SessionView AssertError) (s s' : SessionView) (before now : ℕ) (error : AssertError) → step ≡ Ok s' → WorkErrorCause before now error → KeepStops A step s s' error
kept_stops A step s s' before now refusal.OutOfMemory is h = inr is
kept_stops A step s s' before now (refusal.FileIo named) is h = inr is
kept_stops A step s s' before now refusal.NameClash is h = absurd h
kept_stops A step s s' before now refusal.DoctestNeedsName is h = absurd h
kept_stops A step s s' before now (refusal.DuplicateDiffers key kept new) is h = absurd h
kept_stops A step s s' before now refusal.NamesExhausted is h = absurd h
kept_stops A step s s' before now refusal.InlineDuplicate is h = absurd h
kept_stops A step s s' before now refusal.BadExtension is h = absurd h
kept_stops A step s s' before now refusal.JsonKey is h = absurd h

-- the block refuses the contents, and nothing is changed by that
pub refused_stops : (A : Type 0) (step : Result SessionView AssertError) (s s' : SessionView) (error : AssertError) → RefusedAs error step → s' ≡ s → A → KeepStops A step s s' error
refused_stops A step s s' refusal.OutOfMemory h same a = inl same
refused_stops A step s s' (refusal.FileIo named) h same a = absurd h
refused_stops A step s s' refusal.NameClash h same a = (h, same, a)
refused_stops A step s s' refusal.DoctestNeedsName h same a = (h, same, a)
refused_stops A step s s' (refusal.DuplicateDiffers key kept new) h same a = (h, same, a)
refused_stops A step s s' refusal.NamesExhausted h same a = (h, same, a)
refused_stops A step s s' refusal.InlineDuplicate h same a = (h, same, a)
refused_stops A step s s' refusal.BadExtension h same a = (h, same, a)
refused_stops A step s s' refusal.JsonKey h same a = (h, same, a)

may_keep_as : (step step' : Result SessionView AssertError) (s s' : SessionView) → step ≡ step' → MayKeep step s s' → MayKeep step' s s'
may_keep_as step step' s s' is (inl same) = inl same
may_keep_as step step' s s' is (inr kept) = inr (sym is ∙ kept)

-- the same of what stands then, and of the step by another name
pub stops_as : (A B : Type 0) (step step' : Result SessionView AssertError) (s s' : SessionView) (error : AssertError) → (A → B) → step ≡ step' → KeepStops A step s s' error → KeepStops B step' s s' error
stops_as A B step step' s s' refusal.OutOfMemory f is h = may_keep_as step step' s s' is h
stops_as A B step step' s s' (refusal.FileIo named) f is h = may_keep_as step step' s s' is h
stops_as A B step step' s s' refusal.NameClash f is h = (sym is ∙ h.0, h.1, f h.2)
stops_as A B step step' s s' refusal.DoctestNeedsName f is h = (sym is ∙ h.0, h.1, f h.2)
stops_as A B step step' s s' (refusal.DuplicateDiffers key kept new) f is h = (sym is ∙ h.0, h.1, f h.2)
stops_as A B step step' s s' refusal.NamesExhausted f is h = (sym is ∙ h.0, h.1, f h.2)
stops_as A B step step' s s' refusal.InlineDuplicate f is h = (sym is ∙ h.0, h.1, f h.2)
stops_as A B step step' s s' refusal.BadExtension f is h = (sym is ∙ h.0, h.1, f h.2)
stops_as A B step step' s s' refusal.JsonKey f is h = (sym is ∙ h.0, h.1, f h.2)

-- work on the files stops for a reason for which an assertion does
pub error_cause : (before now : ℕ) (error : AssertError) → WorkErrorCause before now error → ErrorCause before now error
error_cause before now refusal.OutOfMemory h = h
error_cause before now (refusal.FileIo named) h = h
error_cause before now refusal.NameClash h = absurd h
error_cause before now refusal.DoctestNeedsName h = absurd h
error_cause before now (refusal.DuplicateDiffers key kept new) h = absurd h
error_cause before now refusal.NamesExhausted h = absurd h
error_cause before now refusal.InlineDuplicate h = absurd h
error_cause before now refusal.BadExtension h = absurd h
error_cause before now refusal.JsonKey h = absurd h

pub work_cause : {T : Type 0} → (before now : ℕ) (result : Result T AssertError) → WorkCause before now result → AssertCause before now result
work_cause before now (Ok value) h = h
work_cause before now (Err error) h = error_cause before now error h

-- a refusal leaves the count of faults
pub refused_cause : {T : Type 0} → (before : ℕ) (step : Result T AssertError) (error : AssertError) → RefusedAs error step → ErrorCause before before error
refused_cause before step refusal.OutOfMemory h = refl
refused_cause before step (refusal.FileIo named) h = absurd h
refused_cause before step refusal.NameClash h = refl
refused_cause before step refusal.DoctestNeedsName h = refl
refused_cause before step (refusal.DuplicateDiffers key kept new) h = refl
refused_cause before step refusal.NamesExhausted h = refl
refused_cause before step refusal.InlineDuplicate h = refl
refused_cause before step refusal.BadExtension h = refl
refused_cause before step refusal.JsonKey h = refl

-- and names no path
pub refused_own : {T : Type 0} → (mode : Update) (path : List ℕ) (step : Result T AssertError) (error : AssertError) → RefusedAs error step → FaultIsOwn mode path error
refused_own mode path step refusal.OutOfMemory h = tt
refused_own mode path step (refusal.FileIo named) h = absurd h
refused_own mode path step refusal.NameClash h = tt
refused_own mode path step refusal.DoctestNeedsName h = tt
refused_own mode path step (refusal.DuplicateDiffers key kept new) h = tt
refused_own mode path step refusal.NamesExhausted h = tt
refused_own mode path step refusal.InlineDuplicate h = tt
refused_own mode path step refusal.BadExtension h = tt
refused_own mode path step refusal.JsonKey h = tt

pub settled_stops : {T : Type 0} → (A : Type 0) (step : Result SessionView AssertError) (s s' : SessionView) (before now : ℕ) (result : Result T AssertError) → step ≡ Ok s' → WorkCause before now result
    → IfErr result (λ e. KeepStops A step s s' e)
settled_stops A step s s' before now (Ok value) is h = tt
settled_stops A step s s' before now (Err error) is h = kept_stops A step s s' before now error is h

-- no name is taken
pub name_stops : (a : Assertion) (files files' : Option Files) (s s' : SessionView) (error : AssertError) → RefusedAs error (name_step a.settings a.place a.given s) → s' ≡ s → Becomes files files' (λ m. m) → IsStopped a error files files' s s'
name_stops a files files' s s' refusal.OutOfMemory h same unchanged = inl same
name_stops a files files' s s' (refusal.FileIo named) h same unchanged = absurd h
name_stops a files files' s s' refusal.NameClash h same unchanged = record {
  refused = record { error = refusal.NameClash; session = s; taken = None };
  course_is = ap (named_course a s) h;
  error_is = refl;
  remembered = same;
  stands = unchanged;
}
name_stops a files files' s s' refusal.DoctestNeedsName h same unchanged = record {
  refused = record { error = refusal.DoctestNeedsName; session = s; taken = None };
  course_is = ap (named_course a s) h;
  error_is = refl;
  remembered = same;
  stands = unchanged;
}
name_stops a files files' s s' (refusal.DuplicateDiffers key kept new) h same unchanged = record {
  refused = record { error = (refusal.DuplicateDiffers key kept new); session = s; taken = None };
  course_is = ap (named_course a s) h;
  error_is = refl;
  remembered = same;
  stands = unchanged;
}
name_stops a files files' s s' refusal.NamesExhausted h same unchanged = record {
  refused = record { error = refusal.NamesExhausted; session = s; taken = None };
  course_is = ap (named_course a s) h;
  error_is = refl;
  remembered = same;
  stands = unchanged;
}
name_stops a files files' s s' refusal.InlineDuplicate h same unchanged = record {
  refused = record { error = refusal.InlineDuplicate; session = s; taken = None };
  course_is = ap (named_course a s) h;
  error_is = refl;
  remembered = same;
  stands = unchanged;
}
name_stops a files files' s s' refusal.BadExtension h same unchanged = record {
  refused = record { error = refusal.BadExtension; session = s; taken = None };
  course_is = ap (named_course a s) h;
  error_is = refl;
  remembered = same;
  stands = unchanged;
}
name_stops a files files' s s' refusal.JsonKey h same unchanged = record {
  refused = record { error = refusal.JsonKey; session = s; taken = None };
  course_is = ap (named_course a s) h;
  error_is = refl;
  remembered = same;
  stands = unchanged;
}

-- once the name is taken, what is remembered may be that of the name or of the whole course
named_remembers : (a : Assertion) (files files' : Option Files) (s t s' : SessionView) (name : List ℕ) → name_step a.settings a.place a.given s ≡ Ok (record { name = name; session = t })
    → MayKeep (keep_step (key_under a.place name) (new_contents (asked_under a name)) t) t s' → MayRemember a s s'
named_remembers a files files' s t s' name is (inl same) = inr (inl (record { name = name; session = t }, is, same))
named_remembers a files files' s t s' name is (inr kept) =
    inr (inr (record { name = name; session = s' }, ap (named_course a s) is ∙ ap (kept_course (record { name = name; session = t })) kept, refl))

pub named_stops : (a : Assertion) (files files' : Option Files) (s t s' : SessionView) (name : List ℕ) (error : AssertError) → name_step a.settings a.place a.given s ≡ Ok (record { name = name; session = t })
    → KeepStops (Becomes files files' (cleared (path_of a.settings a.place name))) (keep_step (key_under a.place name) (new_contents (asked_under a name)) t) t s' error → IsStopped a error files files' s s'
named_stops a files files' s t s' name refusal.OutOfMemory is h = named_remembers a files files' s t s' name is h
named_stops a files files' s t s' name (refusal.FileIo named) is h = named_remembers a files files' s t s' name is h
named_stops a files files' s t s' name refusal.NameClash is h = record {
  refused = record { error = refusal.NameClash; session = t; taken = Some name };
  course_is = ap (named_course a s) is ∙ ap (kept_course (record { name = name; session = t })) h.0;
  error_is = refl;
  remembered = h.1;
  stands = h.2;
}
named_stops a files files' s t s' name refusal.DoctestNeedsName is h = record {
  refused = record { error = refusal.DoctestNeedsName; session = t; taken = Some name };
  course_is = ap (named_course a s) is ∙ ap (kept_course (record { name = name; session = t })) h.0;
  error_is = refl;
  remembered = h.1;
  stands = h.2;
}
named_stops a files files' s t s' name (refusal.DuplicateDiffers key kept new) is h = record {
  refused = record { error = (refusal.DuplicateDiffers key kept new); session = t; taken = Some name };
  course_is = ap (named_course a s) is ∙ ap (kept_course (record { name = name; session = t })) h.0;
  error_is = refl;
  remembered = h.1;
  stands = h.2;
}
named_stops a files files' s t s' name refusal.NamesExhausted is h = record {
  refused = record { error = refusal.NamesExhausted; session = t; taken = Some name };
  course_is = ap (named_course a s) is ∙ ap (kept_course (record { name = name; session = t })) h.0;
  error_is = refl;
  remembered = h.1;
  stands = h.2;
}
named_stops a files files' s t s' name refusal.InlineDuplicate is h = record {
  refused = record { error = refusal.InlineDuplicate; session = t; taken = Some name };
  course_is = ap (named_course a s) is ∙ ap (kept_course (record { name = name; session = t })) h.0;
  error_is = refl;
  remembered = h.1;
  stands = h.2;
}
named_stops a files files' s t s' name refusal.BadExtension is h = record {
  refused = record { error = refusal.BadExtension; session = t; taken = Some name };
  course_is = ap (named_course a s) is ∙ ap (kept_course (record { name = name; session = t })) h.0;
  error_is = refl;
  remembered = h.1;
  stands = h.2;
}
named_stops a files files' s t s' name refusal.JsonKey is h = record {
  refused = record { error = refusal.JsonKey; session = t; taken = Some name };
  course_is = ap (named_course a s) is ∙ ap (kept_course (record { name = name; session = t })) h.0;
  error_is = refl;
  remembered = h.1;
  stands = h.2;
}

-- the name is taken, and the block goes along
pub answered : (relation : Relation) (config : Config) (a : Assertion) (outcome : Outcome) (files files' : Option Files) (s t s' : SessionView) (name : List ℕ) → name_step a.settings a.place a.given s ≡ Ok (record { name = name; session = t })
    → keep_step (key_under a.place name) (new_contents (asked_under a name)) t ≡ Ok s' → IsDoneBy relation config (asked_under a name) outcome files files' → IsAnsweredBy relation config a outcome files files' s s'
answered relation config a outcome files files' s t s' name is kept done = record {
  course = record { name = name; session = s' };
  course_is = ap (named_course a s) is ∙ ap (kept_course (record { name = name; session = t })) kept;
  remembered = refl;
  done = done;
}

-- of one step one name is taken
pub one_named : (step : Result Named AssertError) (a b : Named) → step ≡ Ok a → step ≡ Ok b → a ≡ b
one_named step a b is also = cc

pub err_weaker : {T : Type 0} → {P Q : AssertError → Type 0} → (result : Result T AssertError) → ((e : AssertError) → P e → Q e) → IfErr result P → IfErr result Q
err_weaker (Ok value) f h = tt
err_weaker (Err error) f h = f error h

-- two clauses of one result
pub done_and_kept : {T : Type 0} → {P Q : T → Type 0} → {K : Type 0} → (result : Result T AssertError) → ((value : T) → P value → K → Q value) → IfOk result P → OnOk result K → IfOk result Q
done_and_kept (Ok value) f p k = f value p k
done_and_kept (Err error) f p k = tt

-- a name that is taken is not refused
pub not_both : {P : Type 0} → (step : Result Named AssertError) (named : Named) (error : AssertError) → step ≡ Ok named → step ≡ Err error → P
not_both step named error is also = absurd (cc)

-- what stands of some printed tree, by what is known
pub stops_by : {U : Type 0} → {P K Q : Tree → Type 0} → ((t : Tree) → K t → Q t) → U ⊎ ((t : Tree) × P t × K t) → U ⊎ ((t : Tree) × P t × Q t)
stops_by f (inl u) = inl u
stops_by f (inr x) = inr (x.0, x.1, f x.0 x.2)
