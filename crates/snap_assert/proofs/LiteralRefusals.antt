-- Which course a literal takes, by what its name and the innermost block come to.
use Rattle.std.proofs.Common.{◌≡◌, ◌+◌, nat_eq, ℕ, Bool, true, false, cond, List, Option, None, Some, Result, Ok, Err, inl, inr, refl, ap, ◌∙◌}
use Rattle.std.specs.Prelude.{IfErr, OnErr}
use Rattle.snap_store.specs.declared.contents.SnapshotContents.{SnapshotContents}
use Rattle.snap_store.specs.declared.contents.SnapshotContents.TheVariants.{Text}
use Rattle.snap_assert_place.specs.Names.{NameKey, last_name, is_test, key_of}
use Rattle.snap_assert_place.specs.Place.{PlaceView}
use Rattle.snap_assert_place.specs.SnapshotPath.{is_doctest}
use Rattle.snap_assert_settings.specs.Settings.{SettingsView}
use Rattle.snap_assert.specs.Blocks.{do_agree, keep_by, keep_step, parts_of}
use Rattle.snap_assert.specs.LiteralCourses.{CourseStops, inline_key, literal_course, literal_course_of, literal_kept}
use Rattle.snap_assert.specs.LiteralNames.{literal_key, literal_name_step, literal_use_step, with_name}
use Rattle.snap_assert.specs.Literals.{LiteralAssertion, new_text}
use Rattle.snap_assert.specs.Names.{Named, RefusedAs, clashes, count_in, counted, function_step, named_by, next_use, prefixed_in, use_at}
use Rattle.snap_assert.specs.Session.{SessionView, is_met, is_open, kept_for, use_of, with_literal}
use Rattle.snap_assert.specs.declared.error.AssertError.{AssertError}
use Rattle.snap_assert.specs.declared.error.AssertError.TheVariants as refusal
use Rattle.snap_assert.specs.declared.error.DuplicateKey.{DuplicateKey}
use Rattle.snap_assert.specs.declared.session.Use.{Use}

-- neither of two results is that a record is refused
neither : {T : Type 0} → (b : Bool) (x y : Result T AssertError) → (x ≡ Err refusal.JsonKey → ⊥) → (y ≡ Err refusal.JsonKey → ⊥) → cond b x y ≡ Err refusal.JsonKey → ⊥
neither true x y f g h = f h
neither false x y f g h = g h

no_record_counted : (opened test : Bool) (n : ℕ) → counted opened test n ≡ Err refusal.JsonKey → ⊥
no_record_counted true test n h = cc h
no_record_counted false test n h = neither (nat_eq n 18446744073709551615) (Err refusal.NamesExhausted) (Ok (use_at test (n + 1))) (λ e. cc e) (λ e. cc e) h

no_record_next : (opened test : Bool) (held : Option Use) → next_use opened test held ≡ Err refusal.JsonKey → ⊥
no_record_next opened test held h =
    neither (clashes (prefixed_in held) test) (Err refusal.NameClash) (counted opened test (count_in held)) (λ e. cc e) (no_record_counted opened test (count_in held)) h

no_record_named : (key : NameKey) (s : SessionView) (next : Result Use AssertError) → (next ≡ Err refusal.JsonKey → ⊥) → named_by key s next ≡ Err refusal.JsonKey → ⊥
no_record_named key s (Ok next) f h = cc h
no_record_named key s (Err error) f h = let is : error ≡ refusal.JsonKey = cc h in f (ap Err is)

no_record_with : (step : Result Named AssertError) → (step ≡ Err refusal.JsonKey → ⊥) → with_name step ≡ Err refusal.JsonKey → ⊥
no_record_with (Ok named) f h = cc h
no_record_with (Err error) f h = let is : error ≡ refusal.JsonKey = cc h in f (ap Err is)

no_record_use : (settings : SettingsView) (place : PlaceView) (s : SessionView) → literal_use_step settings place s ≡ Err refusal.JsonKey → ⊥
no_record_use settings place s h =
    neither (is_doctest place.function) (Ok (record { name = None; session = s })) (with_name (function_step settings place s)) (λ e. cc e)
    (no_record_with (function_step settings place s)
    (no_record_named (key_of settings place) s (next_use (is_open s) (is_test (last_name place.function)) (use_of s (key_of settings place)))
    (no_record_next (is_open s) (is_test (last_name place.function)) (use_of s (key_of settings place))))) h

-- a name is never refused as a record is
no_record_name : (settings : SettingsView) (place : PlaceView) (s : SessionView) → literal_name_step settings place s ≡ Err refusal.JsonKey → ⊥
no_record_name settings place s h =
    neither (is_open s) (literal_use_step settings place s)
    (cond (is_met s (literal_key place)) (Err refusal.InlineDuplicate) (literal_use_step settings place (with_literal s (literal_key place))))
    (no_record_use settings place s)
    (neither (is_met s (literal_key place)) (Err refusal.InlineDuplicate) (literal_use_step settings place (with_literal s (literal_key place))) (λ e. cc e)
    (no_record_use settings place (with_literal s (literal_key place)))) h

no_record_held : (key : DuplicateKey) (new : SnapshotContents) (s : SessionView) (held : Option SnapshotContents) → keep_by key new s held ≡ Err refusal.JsonKey → ⊥
no_record_held key new s None h = cc h
no_record_held key new s (Some kept) h = neither (do_agree kept new) (Ok s) (Err (refusal.DuplicateDiffers key kept new)) (λ e. cc e) (λ e. cc e) h

-- nor are the contents
no_record_kept : (key : DuplicateKey) (new : SnapshotContents) (s : SessionView) → keep_step key new s ≡ Err refusal.JsonKey → ⊥
no_record_kept key new s h = no_record_held key new s (kept_for s (parts_of key)) h

-- the name is taken, and the block goes along
pub goes_on : (a : LiteralAssertion) (s t u : SessionView) (name : Option (List ℕ)) → literal_name_step a.settings a.place s ≡ Ok (record { name = name; session = t })
    → keep_step (inline_key a.place) (Text (new_text a)) t ≡ Ok u → literal_course_of a s ≡ Ok (record { name = name; session = u })
goes_on a s t u name is kept = ap (literal_course a s) is ∙ ap (literal_kept (record { name = name; session = t })) kept

-- no name is taken
pub name_stops : (a : LiteralAssertion) (s t : SessionView) (error : AssertError) → RefusedAs error (literal_name_step a.settings a.place s) → t ≡ s → CourseStops a error s t
name_stops a s t refusal.OutOfMemory h same = inl same
name_stops a s t (refusal.FileIo named) h same = absurd h
name_stops a s t refusal.NameClash h same = record { refused = record { error = refusal.NameClash; session = s }; course_is = ap (literal_course a s) h; error_is = refl; remembered = same }
name_stops a s t refusal.DoctestNeedsName h same = record { refused = record { error = refusal.DoctestNeedsName; session = s }; course_is = ap (literal_course a s) h; error_is = refl; remembered = same }
name_stops a s t (refusal.DuplicateDiffers key kept new) h same = record {
  refused = record { error = refusal.DuplicateDiffers key kept new; session = s };
  course_is = ap (literal_course a s) h;
  error_is = refl;
  remembered = same;
}
name_stops a s t refusal.NamesExhausted h same = record { refused = record { error = refusal.NamesExhausted; session = s }; course_is = ap (literal_course a s) h; error_is = refl; remembered = same }
name_stops a s t refusal.InlineDuplicate h same = record { refused = record { error = refusal.InlineDuplicate; session = s }; course_is = ap (literal_course a s) h; error_is = refl; remembered = same }
name_stops a s t refusal.BadExtension h same = record { refused = record { error = refusal.BadExtension; session = s }; course_is = ap (literal_course a s) h; error_is = refl; remembered = same }
name_stops a s t refusal.JsonKey h same = absurd (no_record_name a.settings a.place s h)

-- once it is taken the block refuses the contents
block_refuses : (a : LiteralAssertion) (s t : SessionView) (name : Option (List ℕ)) (error : AssertError) → literal_name_step a.settings a.place s ≡ Ok (record { name = name; session = t })
    → keep_step (inline_key a.place) (Text (new_text a)) t ≡ Err error → literal_course_of a s ≡ Err (record { error = error; session = t })
block_refuses a s t name error is h = ap (literal_course a s) is ∙ ap (literal_kept (record { name = name; session = t })) h

pub block_stops : (a : LiteralAssertion) (s t u : SessionView) (name : Option (List ℕ)) (error : AssertError) → literal_name_step a.settings a.place s ≡ Ok (record { name = name; session = t })
    → RefusedAs error (keep_step (inline_key a.place) (Text (new_text a)) t) → u ≡ t → CourseStops a error s u
block_stops a s t u name refusal.OutOfMemory is h same = inr (inl (record { name = name; session = t }, is, same))
block_stops a s t u name (refusal.FileIo named) is h same = absurd h
block_stops a s t u name refusal.NameClash is h same = record {
  refused = record { error = refusal.NameClash; session = t };
  course_is = block_refuses a s t name refusal.NameClash is h;
  error_is = refl;
  remembered = same;
}
block_stops a s t u name refusal.DoctestNeedsName is h same = record {
  refused = record { error = refusal.DoctestNeedsName; session = t };
  course_is = block_refuses a s t name refusal.DoctestNeedsName is h;
  error_is = refl;
  remembered = same;
}
block_stops a s t u name (refusal.DuplicateDiffers key kept new) is h same = record {
  refused = record { error = refusal.DuplicateDiffers key kept new; session = t };
  course_is = block_refuses a s t name (refusal.DuplicateDiffers key kept new) is h;
  error_is = refl;
  remembered = same;
}
block_stops a s t u name refusal.NamesExhausted is h same = record {
  refused = record { error = refusal.NamesExhausted; session = t };
  course_is = block_refuses a s t name refusal.NamesExhausted is h;
  error_is = refl;
  remembered = same;
}
block_stops a s t u name refusal.InlineDuplicate is h same = record {
  refused = record { error = refusal.InlineDuplicate; session = t };
  course_is = block_refuses a s t name refusal.InlineDuplicate is h;
  error_is = refl;
  remembered = same;
}
block_stops a s t u name refusal.BadExtension is h same = record {
  refused = record { error = refusal.BadExtension; session = t };
  course_is = block_refuses a s t name refusal.BadExtension is h;
  error_is = refl;
  remembered = same;
}
block_stops a s t u name refusal.JsonKey is h same = absurd (no_record_kept (inline_key a.place) (Text (new_text a)) t h)

-- two clauses of one error
pub stops_by : {T : Type 0} → {P Q : AssertError → Type 0} → {K : Type 0} → (result : Result T AssertError) → ((e : AssertError) → P e → K → Q e) → IfErr result P → OnErr result K → IfErr result Q
stops_by (Ok value) f p k = tt
stops_by (Err error) f p k = f error p k
