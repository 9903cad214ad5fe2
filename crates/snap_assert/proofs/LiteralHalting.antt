-- What stands of an assertion of a literal that stopped, put together from its parts.
use Rattle.snap_assert.proofs.Prelude.{◌≡◌, ℕ, Bool, true, false, List, [], ◌∷◌, Option, None, Some, Result, Ok, Err, refl, sym, ap, ◌∙◌, subst, is_some, get, Files, Error, OutOfMemory, AssertError, Config, SessionView, IfOk, some_same}
use Rattle.std.proofs.Common.{if◌then◌else◌}
use Rattle.std.specs.Result.{OnOk}
use Rattle.snap_io.specs.Changes.{Change, all_changed}
use Rattle.snap_io.specs.Outside.{Becomes}
use Rattle.snap_io.specs.StandsAfter.{StandsAfter}
use Rattle.snap_io.proofs.Standing.{nothing_begun, stands_first, stands_later}
use Rattle.snap_pending.specs.Record.{record_line}
use Rattle.snap_pending.specs.Saved.{adds}
use Rattle.snap_store.specs.Causes as store
use Rattle.snap_store.specs.Views.{SnapshotView, snapshot_of}
use Rattle.snap_assert_place.specs.Place.{PlaceView}
use Rattle.snap_assert_place.specs.SnapshotPath.{records_path}
use Rattle.snap_assert_settings.specs.Settings.{SettingsView}
use Rattle.snap_assert.specs.Assertions.{payload_assertion_of}
use Rattle.snap_assert.specs.Halts.{named_by, IsHaltedBy}
use Rattle.snap_assert.specs.Kept.{FaultIsAt}
use Rattle.snap_assert.specs.LiteralCourses.{CourseStops, literal_course_of}
use Rattle.snap_assert.specs.LiteralHalts.{line_added, pass_added, records_added, IsThere, RecordsHalt, reading, adding, JudgedHalts, recording, LiteralHalts, IsLiteralHalted}
use Rattle.snap_assert.specs.LiteralNames.{LiteralNamed}
use Rattle.snap_assert.specs.LiteralOutcomes.{AreLiterals, IsNotDue}
use Rattle.snap_assert.specs.Literals.{LiteralAssertion, old_literal, new_literal, literal_record, literal_step, nothing_record, record_at, has_record, line_if, settled, with_line, with_line_if}
use Rattle.snap_assert.specs.Payloads.{is_bad_extension}
use Rattle.snap_assert.specs.Relations.{Relation}
use Rattle.snap_assert.specs.Unsaved.{unsaved}
use Rattle.snap_assert.specs.Values.{PayloadHalted}
use Rattle.snap_assert.specs.declared.error.AssertError.TheVariants as refusal
use Rattle.snap_assert.specs.declared.literals.Literals.{Literals}
use Rattle.snap_assert.proofs.Halting.{changes_in_turn, save_stopped}

-- a line stopped
pub line_stopped : (path line : List ℕ) (error : Error) (files files' : Option Files) → StandsAfter (adds path line ∷ []) (store.named_by error) files files'
    → StandsAfter (adds path line ∷ []) (named_by (unsaved error)) files files'
line_stopped path line error files files' s = save_stopped (adds path line ∷ []) (adds path line ∷ []) error files files' refl s

-- memory was out before anything was begun
pub memory_stands : (cs : List Change) (error : Error) (files : Option Files) → error ≡ OutOfMemory → StandsAfter cs (named_by (unsaved error)) files files
memory_stands cs error files is = subst (λ e. StandsAfter cs (named_by (unsaved e)) files files) (sym is) (nothing_begun cs files files refl)

pub line_as : (path line line' : List ℕ) (named : Option (List ℕ)) (files files' : Option Files) → line ≡ line' → StandsAfter (adds path line ∷ []) named files files'
    → StandsAfter (adds path line' ∷ []) named files files'
line_as path line line' named files files' is s = subst (λ l. StandsAfter (adds path l ∷ []) named files files') is s

-- what was seen of the file of records, and what was added to it on a pass
abbrev pub PassDone : List ℕ → PlaceView → Bool → Option Files → Option Files → Type 0
PassDone run_id place passed files files' = (there : Bool) × IsThere place passed there files × Becomes files files' (all_changed (pass_added run_id place passed there))

pub none_passed : (run_id : List ℕ) (place : PlaceView) (passed : Bool) (files : Option Files) → passed ≡ false → PassDone run_id place passed files files
none_passed run_id place passed files is =
    subst (λ b. PassDone run_id place b files files) (sym is) (false, (λ passes. absurd (cc passes)), λ m told. told)

pub none_there : (run_id : List ℕ) (place : PlaceView) (passed there : Bool) (path : List ℕ) (files files' : Option Files) → passed ≡ true → there ≡ false → path ≡ records_path place
    → ((m : Files) → files ≡ Some m → there ≡ is_some (get m path)) → files' ≡ files → PassDone run_id place passed files files'
none_there run_id place passed there path files files' is none at seen same =
    let here : (m : Files) → files ≡ Some m → false ≡ is_some (get m (records_path place)) = λ m told. sym none ∙ seen m told ∙ ap (λ p. is_some (get m p)) at in
    subst (λ b. PassDone run_id place b files files') (sym is) (false, (λ passes. here), λ m told. same ∙ told)

pub some_there : (run_id : List ℕ) (place : PlaceView) (passed there : Bool) (path : List ℕ) (files between files' : Option Files) → passed ≡ true → there ≡ true → path ≡ records_path place
    → ((m : Files) → files ≡ Some m → there ≡ is_some (get m path)) → between ≡ files
    → Becomes between files' (all_changed (adds path (record_line (nothing_record run_id place)) ∷ [])) → PassDone run_id place passed files files'
some_there run_id place passed there path files between files' is some at seen same added =
    let here : (m : Files) → files ≡ Some m → true ≡ is_some (get m (records_path place)) = λ m told. sym some ∙ seen m told ∙ ap (λ p. is_some (get m p)) at in
    let B : List ℕ → Type 0 = λ p. Becomes between files' (all_changed (adds p (record_line (nothing_record run_id place)) ∷ [])) in
    subst (λ b. PassDone run_id place b files files') (sym is) (true, (λ passes. here), λ m told. subst B at added m (same ∙ told))

-- the record that holds no snapshot stopped
pub pass_halts : (run_id : List ℕ) (place : PlaceView) (passed there : Bool) (path : List ℕ) (line : Option (List ℕ)) (error : AssertError) (files between files' : Option Files) → passed ≡ true
    → there ≡ true → path ≡ records_path place → ((m : Files) → files ≡ Some m → there ≡ is_some (get m path)) → between ≡ files
    → StandsAfter (adds path (record_line (nothing_record run_id place)) ∷ []) (named_by error) between files' → RecordsHalt run_id place passed line error files files'
pass_halts run_id place passed there path line error files between files' is some at seen same s =
    let here : (m : Files) → files ≡ Some m → true ≡ is_some (get m (records_path place)) = λ m told. sym some ∙ seen m told ∙ ap (λ p. is_some (get m p)) at in
    let one : StandsAfter (adds (records_path place) (record_line (nothing_record run_id place)) ∷ []) (named_by error) files files' =
    subst (λ f. StandsAfter (adds (records_path place) (record_line (nothing_record run_id place)) ∷ []) (named_by error) f files') same
    (subst (λ p. StandsAfter (adds p (record_line (nothing_record run_id place)) ∷ []) (named_by error) between files') at s) in
    subst (λ b. RecordsHalt run_id place b line error files files') (sym is)
    (adding true (λ passes. here) (stands_first (adds (records_path place) (record_line (nothing_record run_id place)) ∷ []) (line_added place line) (named_by error) files files' one))

pub reading_halts : (run_id : List ℕ) (place : PlaceView) (passed : Bool) (path : List ℕ) (line : Option (List ℕ)) (error : AssertError) (files files' : Option Files) → path ≡ records_path place
    → files' ≡ files → FaultIsAt path error → RecordsHalt run_id place passed line error files files'
reading_halts run_id place passed path line error files files' at same h = reading same (subst (λ p. FaultIsAt p error) at h)

-- the line that is to be written stopped
pub some_line : (place : PlaceView) (path line : List ℕ) (due : Option (List ℕ)) (named : Option (List ℕ)) (files files' : Option Files) → path ≡ records_path place → due ≡ Some line
    → StandsAfter (adds path line ∷ []) named files files' → StandsAfter (line_added place due) named files files'
some_line place path line due named files files' at is s =
    subst (λ d. StandsAfter (line_added place d) named files files') (sym is) (subst (λ p. StandsAfter (adds p line ∷ []) named files files') at s)

pub later_halts : (run_id : List ℕ) (place : PlaceView) (passed : Bool) (line : Option (List ℕ)) (error : AssertError) (files between files' : Option Files) → PassDone run_id place passed files between
    → StandsAfter (line_added place line) (named_by error) between files' → RecordsHalt run_id place passed line error files files'
later_halts run_id place passed line error files between files' done s =
    adding done.0 done.1 (stands_later (pass_added run_id place passed done.0) (line_added place line) (named_by error) files between files' done.2 s)

-- an error of printing is no fault
pub undue_unnamed : (due refused : Bool) (error : AssertError) → IsNotDue due refused error → named_by error ≡ None
undue_unnamed due refused refusal.OutOfMemory h = refl
undue_unnamed due refused (refusal.FileIo named) h = absurd h
undue_unnamed due refused refusal.NameClash h = refl
undue_unnamed due refused refusal.DoctestNeedsName h = refl
undue_unnamed due refused (refusal.DuplicateDiffers key kept new) h = refl
undue_unnamed due refused refusal.NamesExhausted h = refl
undue_unnamed due refused refusal.InlineDuplicate h = refl
undue_unnamed due refused refusal.BadExtension h = refl
undue_unnamed due refused refusal.JsonKey h = refl

-- and so is one of the course
pub course_unnamed : (a : LiteralAssertion) (s t : SessionView) (error : AssertError) → CourseStops a error s t → named_by error ≡ None
course_unnamed a s t refusal.OutOfMemory h = refl
course_unnamed a s t (refusal.FileIo named) h = absurd h
course_unnamed a s t refusal.NameClash h = refl
course_unnamed a s t refusal.DoctestNeedsName h = refl
course_unnamed a s t (refusal.DuplicateDiffers key kept new) h = refl
course_unnamed a s t refusal.NamesExhausted h = refl
course_unnamed a s t refusal.InlineDuplicate h = refl
course_unnamed a s t refusal.BadExtension h = refl
course_unnamed a s t refusal.JsonKey h = refl

-- the work on the records is that of the literal
pub judged_halts : (config : Config) (a : LiteralAssertion) (place : PlaceView) (reference : List ℕ) (name : Option (List ℕ)) (literals : Literals) (passed : Bool) (line : Option (List ℕ)) (error : AssertError)
    (files files' : Option Files) → AreLiterals a place reference name literals
    → line ≡ line_if (has_record config place passed) (record_at config.run_id place (Some (snapshot_of literals.new)) (Some (snapshot_of literals.old)))
    → RecordsHalt config.run_id place passed line error files files' → JudgedHalts config a name passed error files files'
judged_halts config a place reference name literals passed line error files files' are is h =
    let due : PlaceView → SnapshotView → SnapshotView → Option (List ℕ) = λ p new old. line_if (has_record config p passed) (record_at config.run_id p (Some new) (Some old)) in
    let due_is : line ≡ due a.place (new_literal a name) (old_literal a) = is ∙ ap (λ p. due p (snapshot_of literals.new) (snapshot_of literals.old)) (sym are.stands)
    ∙ ap (λ n. due a.place n (snapshot_of literals.old)) are.new ∙ ap (λ o. due a.place (new_literal a name) o) are.old in
    recording (subst (λ l. RecordsHalt config.run_id a.place passed l error files files') due_is
    (subst (λ p. RecordsHalt config.run_id p passed line error files files') (sym are.stands) h))

-- once the literal has gone its course
pub course_halts : (relation : Relation) (config : Config) (a : LiteralAssertion) (name : Option (List ℕ)) (s t : SessionView) (error : AssertError) (files files' : Option Files)
    → literal_course_of a s ≡ Ok (record { name = name; session = t }) → LiteralHalts relation config a name error files files' → IsLiteralHalted relation config a error files files' s
course_halts relation config a name s t error files files' is h = λ course takes.
    let P : LiteralNamed → Type 0 = λ c. LiteralHalts relation config a c.name error files files' in
    let one : record { name = name; session = t } ≡ course = cc (is, takes) in
    subst P one h

-- all changes of the records come to the step of the literal
pass_is : (run_id : List ℕ) (place : PlaceView) (passed there : Bool) (m : Files) → (passed ≡ true → there ≡ is_some (get m (records_path place)))
    → all_changed (pass_added run_id place passed there) m ≡ settled run_id place passed m
pass_is run_id place false there m seen = refl
pass_is run_id place true there m seen = by there (seen refl)
  where
    line : List ℕ
    line = record_line (nothing_record run_id place)

    by : (t : Bool) → t ≡ is_some (get m (records_path place)) → all_changed (line_added place (line_if t (nothing_record run_id place))) m ≡ settled run_id place true m
    by true is = ap (λ b. if b then with_line place line m else m) is
    by false is = ap (λ b. if b then with_line place line m else m) is

line_is : (place : PlaceView) (line : Option (List ℕ)) (m : Files) → all_changed (line_added place line) m ≡ with_line_if line place m
line_is place None m = refl
line_is place (Some line) m = refl

pub records_are : (config : Config) (a : LiteralAssertion) (name : Option (List ℕ)) (passed there : Bool) (m : Files) → (passed ≡ true → there ≡ is_some (get m (records_path a.place)))
    → all_changed (records_added config.run_id a.place passed there (line_if (has_record config a.place passed) (literal_record config.run_id a name))) m ≡ literal_step config a name passed m
records_are config a name passed there m seen =
    let line = line_if (has_record config a.place passed) (literal_record config.run_id a name) in
    changes_in_turn (pass_added config.run_id a.place passed there) (line_added a.place line) m
    ∙ ap (all_changed (line_added a.place line)) (pass_is config.run_id a.place passed there m seen)
    ∙ line_is a.place line (settled config.run_id a.place passed m)

pub some_there_if : {T : Type 0} → (run_id : List ℕ) (place : PlaceView) (passed there : Bool) (path : List ℕ) (files between files' : Option Files) (result : Result T AssertError) → passed ≡ true
    → there ≡ true → path ≡ records_path place → ((m : Files) → files ≡ Some m → there ≡ is_some (get m path)) → between ≡ files
    → OnOk result (Becomes between files' (all_changed (adds path (record_line (nothing_record run_id place)) ∷ []))) → IfOk result (λ value. PassDone run_id place passed files files')
some_there_if run_id place passed there path files between files' (Ok value) is some at seen same added = some_there run_id place passed there path files between files' is some at seen same added
some_there_if run_id place passed there path files between files' (Err error) is some at seen same added = tt

-- a payload stopped, or its extension is refused
pub payload_halts : (relation : Relation) (config : Config) (settings : SettingsView) (place : PlaceView) (given name : Option (List ℕ)) (content : List ℕ) (extension : Option (List ℕ)) (good : List ℕ)
    (error : AssertError) (files files' : Option Files) (session : SessionView) → extension ≡ Some good → given ≡ name
    → IsHaltedBy relation config (payload_assertion_of settings place given good content) error files files' session
    → PayloadHalted relation config settings place name content extension error files files' session
payload_halts relation config settings place given name content extension good error files files' session is names h = λ told tells fine.
    let same : good ≡ told = some_same good told (sym is ∙ tells) in
    subst (λ e. IsHaltedBy relation config (payload_assertion_of settings place name e content) error files files' session) same
    (subst (λ n. IsHaltedBy relation config (payload_assertion_of settings place n good content) error files files' session) names h)

pub bad_halts : (relation : Relation) (config : Config) (settings : SettingsView) (place : PlaceView) (name : Option (List ℕ)) (content : List ℕ) (extension : Option (List ℕ)) (error : AssertError)
    (files files' : Option Files) (session : SessionView) → is_bad_extension extension ≡ true → PayloadHalted relation config settings place name content extension error files files' session
bad_halts relation config settings place name content extension error files files' session bad = λ told tells fine. absurd (cc (bad, fine))
