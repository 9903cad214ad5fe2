-- What one document leaves.
use Rattle.snap_run.proofs.Prelude.{◌≡◌, ◌⊎◌, ◌&&◌, not, inl, inr, Bool, true, false, ℕ, List, ◌++◌, map, Option, None, Some, refl, sym, ap, ◌∙◌, subst, Result, Ok, Err, encode_utf8_all, append-nil, Files, outside, HoldsFront, verdict_of, is_failure, SessionView, is_open, opened, closed, AssertionView, RequestView, asserts, begins, ends, Spells, ReadsAs, RunWords, place_by, settings_by, printed_by, assertion_by, line_text, line_by, course_line, course_files, MayPass, KeptBy, FaultIsOwn, is_written, may_change, words_of, RanOne, StopsAt, AssertionStops, IsInWork, FileFails, MemoryFails, HaltsAt, config_by, IsRefusedWith, LineFails, IsMade, IsSeenFrom, name_in, path_in, CountedIf, is_store_fault, DocumentError, Outcome, Runner, passes_in, no_tally, Tally, Update, if◌then◌else◌, failed_verdict}
use Rattle.std.specs.Result.{IfErr, OnOk, is_ok}
use Rattle.snap_content.proofs.Booleans.{some_same}
use Rattle.snap_content.specs.Tree.{Tree}
use Rattle.snap_print.specs.Blocks.{blocks_if}
use Rattle.snap_select.specs.Put.{Objects}
use Rattle.snap_select.specs.declared.replacement.Replacement.{Replacement}
use Rattle.snap_select.specs.declared.selector.Selector.{Selector}
use Rattle.snap_assert_settings.specs.Replaced.{replacements_of, redaction_for, redacted_by}
use Rattle.snap_assert_settings.specs.Settings.{SettingsView, settings_of, redactions_in, sorted_where, PrintsAs}
use Rattle.snap_assert_settings.specs.declared.settings.Settings.{Settings}
use Rattle.snap_assert_settings.proofs.PlainRedactions.{plain_prints}
use Rattle.snap_assert_place.specs.Place.{PlaceView}
use Rattle.snap_io.specs.StandsAfter.{StandsAfter}
use Rattle.snap_assert.specs.Assertions.{Assertion, assertion_of, asked_under}
use Rattle.snap_assert.specs.Halts.{named_by, FaultIsLook, HaltsBy, looking, changing, PassesAsAllowed, IsHalted, IsUnbegun}
use Rattle.snap_assert.specs.Settling.{settling}
use Rattle.snap_assert.specs.Steps.{Asked}
use Rattle.snap_assert.specs.Courses.{Course, Refused, course_of, named_course, cleared_at, session_after}
use Rattle.snap_assert.specs.Listed.{IsCovered, IsKnown, StaysCovered}
use Rattle.snap_assert.specs.declared.listed.Listed.{Listed}
use Rattle.snap_assert.proofs.Keeping.{kept_same}
use Rattle.snap_assert.specs.Names.{Named, name_step}
use Rattle.snap_assert_place.specs.SnapshotPath.{path_of}
use Rattle.snap_assert.specs.Outcomes.{IsAnswered, IsStopped, IsRefusedAs, IsUnprinted, ErrorCause}
use Rattle.snap_run_requests.proofs.Requesting.{only_spelled}
use Rattle.snap_run_requests.specs.declared.fault.RequestError.{RequestError}
use Rattle.snap_run_requests.specs.declared.fault.RequestError.TheVariants as request
use Rattle.snap_run_requests.specs.declared.fault.Reason.{Reason}
use Rattle.snap_run.specs.Refused.{unread, unanswered, kind_of}
use Rattle.snap_run.specs.Runs.{is_sink_fault}
use Rattle.snap_run.specs.declared.document_error.DocumentError.TheVariants as error
use Rattle.snap_assert_settings.specs.declared.config.Update.TheVariants.{InPlace, NewFile, NoUpdate}
use Rattle.snap_run.specs.declared.status.RefusalKind.{RefusalKind}
use Rattle.snap_run.specs.declared.status.RefusalKind.TheVariants as kind
use Rattle.snap_assert.specs.declared.error.AssertError.{AssertError}
use Rattle.snap_assert.specs.declared.error.AssertError.TheVariants as refusal

-- nothing was changed, so what no work may change is as before
pub nothing_done : (words : RunWords) (a : AssertionView) (session : SessionView) (f g : Option Files) → g ≡ f → IsInWork words a session f g
nothing_done words a session f g same = record { kept = λ named is m told. kept_same (is_written words.update (path_in words a named.name)) (may_change words.update (path_in words a named.name)) m g (same ∙ told); untouched = λ refused is. same }

-- and memory was out
pub none_begun : (words : RunWords) (a : AssertionView) (session : SessionView) (f g : Option Files) → g ≡ f → MemoryFails words a session f g
none_begun words a session f g same = record { work = nothing_done words a session f g same; halts = inl (λ named is. looking (λ m told. same ∙ told) tt) }

-- what is printed with the redactions of a request is what the request prints
pub printed_is : {X : Type 0} {P : X → Type 0} {Y : Type 0} {Q : Y → Type 0} {g : _} (objects : Objects X P) (settings : Settings X Y P Q g)
    (ps : List (Selector × Replacement)) (a : AssertionView) (out : Tree) → settings_of settings ≡ settings_by a → redactions_in settings ≡ map redaction_for ps
    → a.redactions ≡ replacements_of ps → PrintsAs objects settings a.value out → out ≡ printed_by a
printed_is objects settings ps a out new are same prints =
    plain_prints objects settings ps a.value out are prints
    ∙ ap (λ s. redacted_by (replacements_of ps) (sorted_where s.sort_maps a.value)) new
    ∙ ap (λ rs. redacted_by rs (sorted_where a.sort a.value)) (sym same)

pub assertion_is : (settings : SettingsView) (place : PlaceView) (given : Option (List ℕ)) (words : RunWords) (a : AssertionView) (printed : Tree) → settings ≡ settings_by a
    → place ≡ place_by words.workspace a → given ≡ a.name → printed ≡ printed_by a → assertion_of (blocks_if words.literal) settings place given printed ≡ assertion_by words a
assertion_is settings place given words a printed new is named same =
    let parts : SettingsView → PlaceView → Option (List ℕ) → Tree → Assertion = λ s p n t. assertion_of (blocks_if words.literal) s p n t in
    ap (λ s. parts s place given printed) new ∙ ap (λ p. parts (settings_by a) p given printed) is ∙ ap (λ n. parts (settings_by a) (place_by words.workspace a) n printed) named
    ∙ ap (parts (settings_by a) (place_by words.workspace a) a.name) same

-- the name that the assertion of these parts takes is that of the request
name_is : (settings : SettingsView) (place : PlaceView) (given : Option (List ℕ)) (words : RunWords) (a : AssertionView) (session : SessionView) → settings ≡ settings_by a
    → place ≡ place_by words.workspace a → given ≡ a.name → name_step settings place given session ≡ name_in words a session
name_is settings place given words a session new is named =
    ap (λ s. name_step s place given session) new ∙ ap (λ p. name_step (settings_by a) p given session) is
    ∙ ap (λ n. name_step (settings_by a) (place_by words.workspace a) n session) named

path_is : (settings : SettingsView) (place : PlaceView) (words : RunWords) (a : AssertionView) (name : List ℕ) → settings ≡ settings_by a
    → place ≡ place_by words.workspace a → path_of settings place name ≡ path_in words a name
path_is settings place words a name new is = ap (λ s. path_of s place name) new ∙ ap (λ p. path_of (settings_by a) p name) is

-- what an assertion keeps, by the parts of the request
pub in_work : (settings : SettingsView) (place : PlaceView) (given : Option (List ℕ)) (words : RunWords) (a : AssertionView) (session : SessionView) (f g : Option Files) → settings ≡ settings_by a
    → place ≡ place_by words.workspace a → given ≡ a.name
    → ((named : Named) → name_step settings place given session ≡ Ok named → KeptBy words.update (path_of settings place named.name) f g)
    → ((refused : AssertError) → name_step settings place given session ≡ Err refused → g ≡ f) → IsInWork words a session f g
in_work settings place given words a session f g new is named kept untouched =
    let step = name_is settings place given words a session new is named in
    record {
      kept = λ name so. subst (λ p. KeptBy words.update p f g) (path_is settings place words a name.name new is) (kept name (step ∙ so));
      untouched = λ refused so. untouched refused (step ∙ so);
    }

pub own_in : (settings : SettingsView) (place : PlaceView) (given : Option (List ℕ)) (words : RunWords) (a : AssertionView) (session : SessionView) (e : AssertError) → settings ≡ settings_by a
    → place ≡ place_by words.workspace a → given ≡ a.name
    → ((named : Named) → name_step settings place given session ≡ Ok named → FaultIsOwn words.update (path_of settings place named.name) e)
    → (name : Named) → name_in words a session ≡ Ok name → FaultIsOwn words.update (path_in words a name.name) e
own_in settings place given words a session e new is named own = λ name so.
    subst (λ p. FaultIsOwn words.update p e) (path_is settings place words a name.name new is) (own name (name_is settings place given words a session new is named ∙ so))

-- the same of the files that are known of the store, where a name is taken
known_work : (words : RunWords) (a : AssertionView) (session : SessionView) (f known g : Option Files) → ((m : Files) → known ≡ Some m → f ≡ Some m) → ((refused : AssertError) → name_in words a session ≡ Err refused → ⊥)
    → IsInWork words a session f g → IsInWork words a session known g
known_work words a session f known g of_store taken work = record {
  kept = λ named is m told. work.kept named is m (of_store m told);
  untouched = λ refused is. absurd (taken refused is);
}

-- an assertion that goes on has a name
goes_named : (words : RunWords) (a : AssertionView) (s : SessionView) (course : Course) → course_of (assertion_by words a) s ≡ Ok course → (refused : AssertError) → name_in words a s ≡ Err refused → ⊥
goes_named words a s course is refused none = let clash = sym is ∙ ap (named_course (assertion_by words a) s) none in cc clash

-- an assertion was answered
pub made : (runner : Runner) (a : AssertionView) (assertion : Assertion) (outcome : Outcome) (s t : SessionView) (real f g : Option Files) → assertion ≡ assertion_by (words_of runner) a
    → ((m : Files) → f ≡ Some m → real ≡ Some m) → IsAnswered runner.config assertion outcome f g s t → IsInWork (words_of runner) a s real g → IsMade (words_of runner) a outcome s t f g
made runner a assertion outcome s t real f g is of_store x work =
    let y : IsAnswered runner.config (assertion_by (words_of runner) a) outcome f g s t = subst (λ k. IsAnswered runner.config k outcome f g s t) is x in
    record {
      passed = y.done.passed;
      course = y.course;
      course_is = y.course_is;
      remembered = y.remembered;
      verdict = y.done.verdict;
      fails = y.done.fails ∙ ap (λ v. is_failure v && not runner.config.force_pass) y.done.verdict;
      path = y.done.path;
      allowed = y.done.allowed;
      stands = y.done.stands;
      work = known_work (words_of runner) a s real f g of_store (goes_named (words_of runner) a s y.course y.course_is) work;
    }

one_refused : (course : Result Course Refused) (x y : Refused) → course ≡ Err x → course ≡ Err y → x ≡ y
one_refused course x y is also = cc

-- what is remembered refuses it: a name before anything is changed, and a block when what waited is gone
refused_by : (words : RunWords) (a : AssertionView) (k : RefusalKind) (e : AssertError) (s t : SessionView) (f known g : Option Files) (named : Result Named AssertError) → name_in words a s ≡ named → kind_of e ≡ Some k
    → ((m : Files) → known ≡ Some m → f ≡ Some m) → IsInWork words a s f g → IsRefusedAs (assertion_by words a) e known g s t → IsSeenFrom f known (λ files. IsRefusedWith k words a s files g)
refused_by words a k e s t f known g (Err refused) is kind of_store work r =
    let unnamed : Refused = record { error = refused; session = s; taken = None } in
    let same : r.refused ≡ unnamed = one_refused (course_of (assertion_by words a) s) r.refused unnamed r.course_is (ap (named_course (assertion_by words a) s) is) in
    let before : r.refused.taken ≡ None = ap (λ x. x.taken) same in
    inl (record {
      refused = r.refused;
      course_is = r.course_is;
      kind_is = ap kind_of r.error_is ∙ kind;
      stands = λ m told. work.untouched refused is ∙ told ∙ ap (λ found. Some (cleared_at (assertion_by words a) found m)) (sym before);
      work = work;
    })
refused_by words a k e s t f known g (Ok named) is kind of_store work r = inr (record {
  refused = r.refused;
  course_is = r.course_is;
  kind_is = ap kind_of r.error_is ∙ kind;
  stands = r.stands;
  work = known_work words a s f known g of_store (λ refused none. let clash = sym is ∙ none in cc clash) work;
})

refused_with : (words : RunWords) (a : AssertionView) (k : RefusalKind) (e : AssertError) (s t : SessionView) (f known g : Option Files) → kind_of e ≡ Some k → ((m : Files) → known ≡ Some m → f ≡ Some m)
    → IsInWork words a s f g → IsRefusedAs (assertion_by words a) e known g s t → IsSeenFrom f known (λ files. IsRefusedWith k words a s files g)
refused_with words a k e s t f known g is of_store work r = refused_by words a k e s t f known g (name_in words a s) refl is of_store work r

-- the configuration of a run is that of its words, but for the name of its records
halts_by_words : (runner : Runner) (asked : Asked) (e : AssertError) (f g : Option Files) → HaltsBy (PassesAsAllowed runner.config asked) runner.config asked e f g
    → HaltsBy (PassesAsAllowed (config_by (words_of runner)) asked) (config_by (words_of runner)) asked e f g
halts_by_words runner asked e f g (looking same look) = looking same look
halts_by_words runner asked e f g (changing passed strays all seen stands) =
    changing passed strays all (λ m told. record { passes = (seen m told).passes; left = (seen m told).left }) stands

-- an error without a path halts as want of memory does
halts_unnamed : (words : RunWords) (asked : Asked) (e : AssertError) (f g : Option Files) → named_by e ≡ None → HaltsBy (PassesAsAllowed (config_by words) asked) (config_by words) asked e f g
    → HaltsBy (PassesAsAllowed (config_by words) asked) (config_by words) asked refusal.OutOfMemory f g
halts_unnamed words asked e f g none (looking same look) = looking same tt
halts_unnamed words asked e f g none (changing passed strays all seen stands) =
    changing passed strays all seen (subst (λ named. StandsAfter (settling words.update words.force_update asked passed strays) named f g) none stands)

-- an assertion whose printed tree is some tree halts as that of the request does
pub halted_by : {P : Tree → Type 0} → (runner : Runner) (a : AssertionView) (settings : SettingsView) (place : PlaceView) (given : Option (List ℕ)) (e : AssertError) (real f g : Option Files) (listed : Listed) (s : SessionView)
    → settings ≡ settings_by a → place ≡ place_by runner.workspace a → given ≡ a.name → ((out : Tree) → P out → out ≡ printed_by a)
    → IsKnown f real listed
    → IsUnbegun e real g ⊎ ((printed : Tree) × P printed × ((known : Option Files) → IsKnown known real listed → IsHalted runner.config (assertion_of (blocks_if runner.config.literal) settings place given printed) e known g s))
    → HaltsAt (words_of runner) a e s f g
halted_by runner a settings place given e real f g listed s new is named prints held (inl u) =
    λ name so. looking (λ m told. u.1 ∙ (held m told).0) (subst (λ x. FaultIsLook (asked_under (assertion_by (words_of runner) a) name.name).path f x) (sym u.0) tt)
halted_by runner a settings place given e real f g listed s new is named prints held (inr x) =
    let words = words_of runner in
    λ name so. halts_by_words runner (asked_under (assertion_by words a) name.name) e f g
    (subst (λ k. IsHalted runner.config k e f g s) (assertion_is settings place given words a x.0 new is named (prints x.0 x.1)) (x.2 f held) name so)

-- a fault, of the files that are known where a name is taken
fault_by : (words : RunWords) (a : AssertionView) (s : SessionView) (f known g : Option Files) (path : List ℕ) (named : Result Named AssertError) → name_in words a s ≡ named
    → ((m : Files) → known ≡ Some m → f ≡ Some m) → IsInWork words a s f g → ((name : Named) → name_in words a s ≡ Ok name → FaultIsOwn words.update (path_in words a name.name) (refusal.FileIo path))
    → HaltsAt words a (refusal.FileIo path) s known g → IsSeenFrom f known (λ files. FileFails words a s path files g)
fault_by words a s f known g path (Err refused) is of_store work own halts = inl (record { work = work; own = own; halts = λ name so. absurd (let clash = sym is ∙ so in cc clash) })
fault_by words a s f known g path (Ok named) is of_store work own halts =
    inr (record { work = known_work words a s f known g of_store (λ refused none. let clash = sym is ∙ none in cc clash) work; own = own; halts = halts })

-- want of memory, and the errors that an assertion of a tree doesn't come to
memory_by : (words : RunWords) (a : AssertionView) (s : SessionView) (f known g : Option Files) (e : AssertError) (named : Result Named AssertError) → name_in words a s ≡ named → named_by e ≡ None
    → ((m : Files) → known ≡ Some m → f ≡ Some m) → IsInWork words a s f g → HaltsAt words a e s known g → IsSeenFrom f known (λ files. MemoryFails words a s files g)
memory_by words a s f known g e (Err refused) is none of_store work halts = inl (record { work = work; halts = inl (λ name so. absurd (let clash = sym is ∙ so in cc clash)) })
memory_by words a s f known g e (Ok named) is none of_store work halts = inr (record {
  work = known_work words a s f known g of_store (λ refused none. let clash = sym is ∙ none in cc clash) work;
  halts = inl (λ name so. halts_unnamed words (asked_under (assertion_by words a) name.name) e known g none (halts name so));
})

-- an assertion is refused
pub refused_stops : (words : RunWords) (a : AssertionView) (s t : SessionView) (f known g : Option Files) (e : AssertError) → ((m : Files) → known ≡ Some m → f ≡ Some m) → IsInWork words a s f g
    → ((name : Named) → name_in words a s ≡ Ok name → FaultIsOwn words.update (path_in words a name.name) e) → HaltsAt words a e s known g
    → IsUnprinted e s t ⊎ IsStopped (assertion_by words a) e known g s t → IsSeenFrom f known (λ files. AssertionStops words (unanswered e) a s files g)
refused_stops words a s t f known g (refusal.FileIo named) of_store work own halts h = fault_by words a s f known g named (name_in words a s) refl of_store work own halts
refused_stops words a s t f known g refusal.OutOfMemory of_store work own halts h = memory_by words a s f known g refusal.OutOfMemory (name_in words a s) refl refl of_store work halts
refused_stops words a s t f known g refusal.NameClash of_store work own halts (inl u) = absurd (let clash = u.0 in cc clash)
refused_stops words a s t f known g refusal.NameClash of_store work own halts (inr r) = refused_with words a kind.NameClash refusal.NameClash s t f known g refl of_store work r
refused_stops words a s t f known g refusal.DoctestNeedsName of_store work own halts (inl u) = absurd (let clash = u.0 in cc clash)
refused_stops words a s t f known g refusal.DoctestNeedsName of_store work own halts (inr r) =
    refused_with words a kind.DoctestNeedsName refusal.DoctestNeedsName s t f known g refl of_store work r
refused_stops words a s t f known g (refusal.DuplicateDiffers key kept new) of_store work own halts (inl u) = absurd (let clash = u.0 in cc clash)
refused_stops words a s t f known g (refusal.DuplicateDiffers key kept new) of_store work own halts (inr r) =
    refused_with words a kind.DuplicateDiffers (refusal.DuplicateDiffers key kept new) s t f known g refl of_store work r
refused_stops words a s t f known g refusal.NamesExhausted of_store work own halts (inl u) = absurd (let clash = u.0 in cc clash)
refused_stops words a s t f known g refusal.NamesExhausted of_store work own halts (inr r) = refused_with words a kind.NamesExhausted refusal.NamesExhausted s t f known g refl of_store work r
refused_stops words a s t f known g refusal.InlineDuplicate of_store work own halts h = memory_by words a s f known g refusal.InlineDuplicate (name_in words a s) refl refl of_store work halts
refused_stops words a s t f known g refusal.BadExtension of_store work own halts h = memory_by words a s f known g refusal.BadExtension (name_in words a s) refl refl of_store work halts
refused_stops words a s t f known g refusal.JsonKey of_store work own halts h = memory_by words a s f known g refusal.JsonKey (name_in words a s) refl refl of_store work halts

pub refused_count : (before now : ℕ) (e : AssertError) → ErrorCause before now e → CountedIf (is_store_fault (unanswered e)) before now
refused_count before now (refusal.FileIo named) cause = cause
refused_count before now refusal.OutOfMemory cause = cause
refused_count before now refusal.NameClash cause = cause
refused_count before now refusal.DoctestNeedsName cause = cause
refused_count before now (refusal.DuplicateDiffers key kept new) cause = cause
refused_count before now refusal.NamesExhausted cause = cause
refused_count before now refusal.InlineDuplicate cause = cause
refused_count before now refusal.BadExtension cause = cause
refused_count before now refusal.JsonKey cause = cause

-- what stands of an assertion whose printed tree is some tree
pub stopped_by : {P : Tree → Type 0} → (words : RunWords) (a : AssertionView) (settings : SettingsView) (place : PlaceView) (given : Option (List ℕ)) (e : AssertError) (real f g : Option Files) (listed : Listed) (s t : SessionView)
    → settings ≡ settings_by a → place ≡ place_by words.workspace a → given ≡ a.name → ((out : Tree) → P out → out ≡ printed_by a)
    → IsKnown f real listed
    → IsUnprinted e s t ⊎ ((printed : Tree) × P printed × ((known : Option Files) → IsKnown known real listed → IsStopped (assertion_of (blocks_if words.literal) settings place given printed) e known g s t))
    → IsUnprinted e s t ⊎ IsStopped (assertion_by words a) e f g s t
stopped_by words a settings place given e real f g listed s t new is named prints held (inl u) = inl u
stopped_by words a settings place given e real f g listed s t new is named prints held (inr x) =
    inr (subst (λ k. IsStopped k e f g s t) (assertion_is settings place given words a x.0 new is named (prints x.0 x.1)) (x.2 f held))

line_is : (words : RunWords) (a : AssertionView) (outcome : Outcome) (line bytes : List ℕ) (s t : SessionView) (f g : Option Files) (d : IsMade words a outcome s t f g)
    → line ≡ line_text outcome.verdict outcome.path → bytes ≡ encode_utf8_all line → bytes ≡ line_by words (asserts a) d.passed s
line_is words a outcome line bytes s t f g d told encoded =
    encoded ∙ ap encode_utf8_all (told ∙ ap (λ v. line_text v outcome.path) d.verdict ∙ ap (λ p. line_text (verdict_of words.update d.passed) p) d.path)
    ∙ ap (course_line words a d.passed) (sym d.course_is)

-- a verdict passes where the answer does
failed_none : (mode : Update) → passes_in (failed_verdict mode) ≡ 0
failed_none InPlace = refl
failed_none NewFile = refl
failed_none NoUpdate = refl

passes_by : (mode : Update) (passed : Bool) → (if passed then 1 else 0) ≡ passes_in (verdict_of mode passed)
passes_by mode true = refl
passes_by mode false = sym (failed_none mode)

-- the assertion of a document was answered, and its line is written
pub document_ran : (words : RunWords) (a : AssertionView) (outcome : Outcome) (tally : Tally) (line bytes : List ℕ) (s t : SessionView) (f g : Option Files) (w v : Option (List ℕ)) (d : IsMade words a outcome s t f g)
    → line ≡ line_text outcome.verdict outcome.path → bytes ≡ encode_utf8_all line → ((x : List ℕ) → w ≡ Some x → v ≡ Some (x ++ bytes))
    → tally.fails ≡ outcome.fails → tally.passed ≡ passes_in outcome.verdict
    → (document : List ℕ) → ReadsAs document (asserts a) → RanOne words document tally s t (outside f w) (outside g v)
document_ran words a outcome tally line bytes s t f g w v d told encoded wrote failing passing document reads = record {
  answer = record { request = asserts a; passed = d.passed };
  failing = sym (failing ∙ d.fails);
  passing = passes_by words.update d.passed ∙ sym (passing ∙ ap passes_in d.verdict);
  ran = record {
    reads = (reads, tt);
    taken = (ap is_ok d.course_is, tt);
    remembered = d.remembered ∙ ap session_after (sym d.course_is);
    allowed = λ m e. (subst (λ c. MayPass words a d.passed c m) (sym d.course_is) (d.allowed m e), tt);
    stands = λ m e. d.stands m e ∙ ap (λ c. Some (course_files words a d.passed c m)) (sym d.course_is);
    lines = λ x e. wrote x e ∙ ap (λ b. Some (x ++ b)) (line_is words a outcome line bytes s t f g d told encoded ∙ sym (append-nil (line_by words (asserts a) d.passed s)));
  };
}

-- it was answered, and a part of its line is written
pub line_fails : (words : RunWords) (a : AssertionView) (outcome : Outcome) (line bytes : List ℕ) (s t : SessionView) (f g : Option Files) (w v : Option (List ℕ)) (d : IsMade words a outcome s t f g)
    → line ≡ line_text outcome.verdict outcome.path → bytes ≡ encode_utf8_all line → ((x : List ℕ) → w ≡ Some x → HoldsFront bytes x v)
    → (document : List ℕ) → ReadsAs document (asserts a) → LineFails words document s (outside f w) (outside g v)
line_fails words a outcome line bytes s t f g w v d told encoded wrote document reads = record {
  answer = record { request = asserts a; passed = d.passed };
  reads = reads;
  taken = ap is_ok d.course_is;
  allowed = λ m e. subst (λ c. MayPass words a d.passed c m) (sym d.course_is) (d.allowed m e);
  stands = λ m e. d.stands m e ∙ ap (λ c. Some (course_files words a d.passed c m)) (sym d.course_is);
  line = λ x e. subst (λ b. HoldsFront b x v) (line_is words a outcome line bytes s t f g d told encoded) (wrote x e);
}

-- it was answered, and memory was out for its line
pub no_line : (words : RunWords) (a : AssertionView) (outcome : Outcome) (s t : SessionView) (real f g : Option Files) (w : Option (List ℕ)) → IsMade words a outcome s t f g
    → (document : List ℕ) → ReadsAs document (asserts a) → IsSeenFrom real f (λ files. StopsAt words error.OutOfMemory document s (outside files w) (outside g w))
no_line words a outcome s t real f g w d document reads = inr (
  refl,
  inr (record {
    assertion = a;
    reads = reads;
    is = record { work = d.work; halts = inr (record { passed = d.passed; course = d.course; course_is = d.course_is; allowed = d.allowed; stands = d.stands }) };
  }),
)

-- the assertion of a document comes to no answer
stops_in : (words : RunWords) (a : AssertionView) (e : DocumentError) (s : SessionView) (f g : Option Files) (w : Option (List ℕ)) → AssertionStops words e a s f g
    → (document : List ℕ) → ReadsAs document (asserts a) → StopsAt words e document s (outside f w) (outside g w)
stops_in words a error.NoRequest s f g w h document reads = absurd h
stops_in words a (error.Refused k) s f g w h document reads = (refl, record { assertion = a; reads = reads; is = h })
stops_in words a (error.FileIo named) s f g w h document reads = (refl, record { assertion = a; reads = reads; is = h })
stops_in words a error.WriteFault s f g w h document reads = absurd h
stops_in words a error.OutOfMemory s f g w h document reads = (refl, inr (record { assertion = a; reads = reads; is = h }))

pub assertion_stops : (words : RunWords) (a : AssertionView) (e : DocumentError) (s : SessionView) (real f g : Option Files) (w : Option (List ℕ)) → IsSeenFrom real f (λ files. AssertionStops words e a s files g)
    → (document : List ℕ) → ReadsAs document (asserts a) → IsSeenFrom real f (λ files. StopsAt words e document s (outside files w) (outside g w))
assertion_stops words a e s real f g w (inl h) document reads = inl (stops_in words a e s real g w h document reads)
assertion_stops words a e s real f g w (inr h) document reads = inr (stops_in words a e s f g w h document reads)

-- a document that is not read
pub unread_stops : (words : RunWords) (document : List ℕ) (s : SessionView) (f : Option Files) (w : Option (List ℕ)) (refused : RequestError)
    → ((why : Reason) → refused ≡ request.NoRequest why → (r : RequestView) → Spells document r → ⊥) → StopsAt words (unread refused) document s (outside f w) (outside f w)
unread_stops words document s f w (request.NoRequest why) none = (refl, refl, λ r spelled. absurd (none why refl r spelled))
unread_stops words document s f w request.OutOfMemory none = (refl, inl refl)

-- a block begins
pub block_begins : (words : RunWords) (document : List ℕ) (s t : SessionView) (f g : Option Files) (w : Option (List ℕ)) (tally : Tally) → ReadsAs document begins → tally ≡ no_tally → t ≡ opened s
    → ((m : Files) → f ≡ Some m → g ≡ Some m) → RanOne words document tally s t (outside f w) (outside g w)
block_begins words document s t f g w tally reads none same of_store = record {
  answer = record { request = begins; passed = true };
  failing = sym (ap (λ k. k.fails) none);
  passing = sym (ap (λ k. k.passed) none);
  ran = record { reads = (reads, tt); taken = (refl, tt); remembered = same; allowed = λ m e. (tt, tt); stands = of_store; lines = λ x e. e ∙ ap Some (sym (append-nil x)) };
}

-- a block ends
pub block_ends : (words : RunWords) (document : List ℕ) (s t : SessionView) (f g : Option Files) (w : Option (List ℕ)) (tally : Tally) → ReadsAs document ends → tally ≡ no_tally → is_open s ≡ true → t ≡ closed s
    → ((m : Files) → f ≡ Some m → g ≡ Some m) → RanOne words document tally s t (outside f w) (outside g w)
block_ends words document s t f g w tally reads none is same of_store = record {
  answer = record { request = ends; passed = true };
  failing = sym (ap (λ k. k.fails) none);
  passing = sym (ap (λ k. k.passed) none);
  ran = record { reads = (reads, tt); taken = (is, tt); remembered = same; allowed = λ m e. (tt, tt); stands = of_store; lines = λ x e. e ∙ ap Some (sym (append-nil x)) };
}

-- a block ends where none is open
pub none_ends : (words : RunWords) (document : List ℕ) (s : SessionView) (f : Option Files) (w : Option (List ℕ)) (e : DocumentError) → ReadsAs document ends → e ≡ error.NoRequest → is_open s ≡ false
    → StopsAt words e document s (outside f w) (outside f w)
none_ends words document s f w e reads is closed =
    subst (λ x. StopsAt words x document s (outside f w) (outside f w)) (sym is) (refl, refl, λ r spelled. (sym (only_spelled document r ends spelled reads), closed))

pub memory_stops : (words : RunWords) (document : List ℕ) (s : SessionView) (f : Option Files) (w : Option (List ℕ)) (e : DocumentError) → e ≡ error.OutOfMemory → StopsAt words e document s (outside f w) (outside f w)
memory_stops words document s f w e is = subst (λ x. StopsAt words x document s (outside f w) (outside f w)) (sym is) (refl, inl refl)

pub err_weaker : {T : Type 0} → {P Q : DocumentError → Type 0} → (result : Result T DocumentError) → ((e : DocumentError) → P e → Q e) → IfErr result P → IfErr result Q
err_weaker (Ok value) f h = tt
err_weaker (Err e) f h = f e h

-- where neither the files nor what is known of them change
pub stays_same : (f : Option Files) (listed : Listed) → StaysCovered f f listed listed
stays_same f listed m told covered n now = let same : m ≡ n = some_same m n (sym told ∙ now) in subst (λ k. IsCovered k listed) same covered

pub on_ok : {T E : Type 0} → {P : Type 0} → (result : Result T E) → P → OnOk result P
on_ok (Ok value) h = h
on_ok (Err e) h = tt

sink_stays : (words : RunWords) (e : DocumentError) (a : AssertionView) (session : SessionView) (f g : Option Files) (count : ℕ) → AssertionStops words e a session f g
    → CountedIf (is_sink_fault e) count count
sink_stays words error.NoRequest a session f g count stops = absurd stops
sink_stays words (error.Refused kind) a session f g count stops = refl
sink_stays words (error.FileIo named) a session f g count stops = refl
sink_stays words error.WriteFault a session f g count stops = absurd stops
sink_stays words error.OutOfMemory a session f g count stops = refl

-- an assertion that comes to no answer leaves the count of the sink's faults, whatever is known of the files
pub sink_is_left : (words : RunWords) (e : DocumentError) (a : AssertionView) (session : SessionView) (f known g : Option Files) (count : ℕ)
    → IsSeenFrom f known (λ files. AssertionStops words e a session files g) → CountedIf (is_sink_fault e) count count
sink_is_left words e a session f known g count (inl stops) = sink_stays words e a session f g count stops
sink_is_left words e a session f known g count (inr stops) = sink_stays words e a session known g count stops
