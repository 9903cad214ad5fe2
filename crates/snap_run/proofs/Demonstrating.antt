-- A demonstration: what its runs leave, and how it ends.
use Rattle.snap_run.proofs.Prelude.{◌≡◌, ◌⊎◌, ◌+◌, ◌<◌, ◌≤◌, ◌^◌, inl, inr, ℕ, Bool, true, false, List, [], ◌∷◌, ◌++◌, length, Option, None, Some, Result, Ok, Err, refl, sym, ap, ◌∙◌, subst, arith, length-append, encode_utf8_all, Files, Outside, outside, documents, RunWords, SessionView, empty_session, Stopped, Ended, CountedIf, says_write_fault, says_file_fault, AreSpelled, status_at, DocumentError, Status, Tally, AllPassed, SomeFailed, BadWords, BadRequest, Refused, ReadFault, OutOfMemory, InputTooLong, demo_run, passed_count, is_taken, remembered_by, assertion_by}
use Rattle.std.specs.Prelude.{zero, suc, is_ok}
use Rattle.std.specs.Result.{IfErr}
use Rattle.snap_assert.specs.Assertions.{Assertion}
use Rattle.snap_assert.specs.Courses.{course_of, named_course, session_after}
use Rattle.snap_assert.specs.Names.{name_step}
use Rattle.snap_demo.proofs.Spelled.{spells_its_request, cut_again, next_below}
use Rattle.snap_demo.specs.Numbers.{next_of}
use Rattle.snap_demo.specs.Requests.{demo_assertion, demo_name, demo_request}
use Rattle.snap_demo.specs.Stream.{documents_from, demo_documents, demo_input}
use Rattle.snap_demo.specs.declared.words.DemoWords.{DemoWords}
use Rattle.snap_run.specs.declared.document_error.DocumentError.TheVariants as error
use Rattle.snap_run.specs.declared.status.Status.TheVariants.{FileIo, WriteFault}
use Rattle.snap_run.specs.Demonstrations.{RanOnce, RanTwice, TellsHeld, IsDemonstrated, StopsRun, IsDemoStatus, ReadingStops, StopsIn, DemoStops, Demonstrates}
use Rattle.snap_run.specs.Demonstrations.StopsIn.{in_first, in_second, after_both}
use Rattle.snap_run.specs.Status.{IsTold, SpellsTaken}
use Rattle.snap_run.specs.Status.AreSpelled.{none, one_more}
use Rattle.snap_run.proofs.Completeness.{never_bad, never_refused}
use Rattle.snap_run.proofs.RunEnds.{of_stopped}

-- an assertion with a given name is taken where no block is open, and nothing is remembered of it

given_goes : (a : Assertion) (given : List ℕ) → a.given ≡ Some given → is_ok (course_of a empty_session) ≡ true
given_goes a given e = ap (λ n. is_ok (named_course a empty_session (name_step a.settings a.place n empty_session))) e

given_stays : (a : Assertion) (given : List ℕ) → a.given ≡ Some given → session_after (course_of a empty_session) ≡ empty_session
given_stays a given e = ap (λ n. session_after (named_course a empty_session (name_step a.settings a.place n empty_session))) e

demo_taken : (i x : ℕ) → is_taken demo_run (demo_request i x) empty_session ≡ true
demo_taken i x = given_goes (assertion_by demo_run (demo_assertion i x)) (demo_name i) refl

pub demo_stays : (i x : ℕ) → remembered_by demo_run (demo_request i x) empty_session ≡ empty_session
demo_stays i x = given_stays (assertion_by demo_run (demo_assertion i x)) (demo_name i) refl

spelled_from : (i x n : ℕ) → i + n < 2 ^ 32 → x < 2 ^ 64 → AreSpelled demo_run (documents_from i x n) empty_session
spelled_from i x zero small below = none
spelled_from i x (suc n) small below =
    let place : i + 1 < 2 ^ 32 = omega (arith, small) in
    let more : (i + 1) + n < 2 ^ 32 = omega (arith, small) in
    let one : SpellsTaken demo_run _ empty_session = record { request = demo_request i x; spells = spells_its_request i x place below; taken = demo_taken i x } in
    one_more one (subst (AreSpelled demo_run (documents_from (i + 1) (next_of x) n)) (sym (demo_stays i x)) (spelled_from (i + 1) (next_of x) n more (next_below x)))

documents_counted : (i x n : ℕ) → length (documents_from i x n) ≡ n
documents_counted i x zero = refl
documents_counted i x (suc n) = ap suc (documents_counted (i + 1) (next_of x) n)

few_enough : (count : ℕ) → count ≤ 10000 → 0 + count < 2 ^ 32
few_enough count few = omega (arith, few)

documents_are : (seed count : ℕ) (input : List ℕ) → seed < 2 ^ 64 → count ≤ 10000 → input ≡ demo_input seed count → documents input ≡ demo_documents seed count
documents_are seed count input below few is = ap documents is ∙ cut_again 0 seed count (few_enough count few) below

-- a run of the documents came to its end
pub ran_once : (tally : Tally) (words : RunWords) (said : DemoWords) (input : List ℕ) (s : SessionView) (f g : Option Files) → said.seed < 2 ^ 64 → said.count ≤ 10000 → words ≡ demo_run
    → input ≡ demo_input said.seed said.count → s ≡ empty_session → Ended tally words (documents input) s (outside f None) (outside g None) → RanOnce tally.passed (demo_documents said.seed said.count) f g
ran_once tally words said input s f g below few own is new e =
    let docs = documents_are said.seed said.count input below few is in
    let one = subst (λ w. Ended tally w (documents input) s (outside f None) (outside g None)) own e in
    let two = subst (λ d. Ended tally demo_run d s (outside f None) (outside g None)) docs one in
    let three = subst (λ k. Ended tally demo_run (demo_documents said.seed said.count) k (outside f None) (outside g None)) new two in
    record { answers = three.answers; remembered = three.remembered; ran = three.ran; counted = sym three.passing }

-- or it stopped
pub stopped_once : (status : Status) (words : RunWords) (said : DemoWords) (input : List ℕ) (s : SessionView) (f g : Option Files) → said.seed < 2 ^ 64 → said.count ≤ 10000 → words ≡ demo_run
    → input ≡ demo_input said.seed said.count → s ≡ empty_session → Stopped status words (documents input) s (outside f None) (outside g None) → StopsRun status (demo_documents said.seed said.count) f g
stopped_once status words said input s f g below few own is new e =
    let docs = documents_are said.seed said.count input below few is in
    let one = subst (λ w. Stopped status w (documents input) s (outside f None) (outside g None)) own e in
    let two = subst (λ d. Stopped status demo_run d s (outside f None) (outside g None)) docs one in
    subst (λ k. Stopped status demo_run (demo_documents said.seed said.count) k (outside f None) (outside g None)) new two

file_at : (n k : ℕ) (path : List ℕ) (e : DocumentError) → FileIo n path ≡ status_at k e → n ≡ k
file_at n k path error.NoRequest is = cc
file_at n k path (error.Refused kind) is = cc
file_at n k path (error.FileIo named) is = cc
file_at n k path error.WriteFault is = cc
file_at n k path error.OutOfMemory is = cc

between : (n count : ℕ) (done later : List (List ℕ)) (d : List ℕ) → n ≡ length done + 1 → length (done ++ d ∷ later) ≡ count → (1 ≤ n) × (n ≤ count)
between n count done later d is whole = (omega (arith, is), omega (arith, is, whole, length-append done (d ∷ later)))

-- with these statuses alone
pub status_once : (status : Status) (said : DemoWords) (f g : Option Files) → said.seed < 2 ^ 64 → said.count ≤ 10000 → StopsRun status (demo_documents said.seed said.count) f g → CountedIf (says_write_fault status) 0 0
    → IsDemoStatus said.count status
status_once status said f g below few stop quiet =
    let docs = demo_documents said.seed said.count in
    let spelled = spelled_from 0 said.seed said.count (few_enough said.count few) below in
    let P : Status → Type 0 = λ x. StopsRun x docs f g → CountedIf (says_write_fault x) 0 0 → IsDemoStatus said.count x in
    of_stopped P status demo_run docs (outside f None) (outside g None) stop
    (λ n s w. absurd (never_bad n demo_run docs (outside f None) (outside g None) spelled s))
    (λ n kind s w. absurd (never_refused n kind demo_run docs (outside f None) (outside g None) spelled s))
    (λ n path s w. between n said.count s.done s.later s.document (file_at n (length s.done + 1) path s.error s.status_is) (sym (ap length s.cut) ∙ documents_counted 0 said.seed said.count))
    (λ s w. absurd (omega (arith, w.rose)))
    (λ s w. tt)
    stop quiet

pub err_weaker : {T : Type 0} → {P Q : Status → Type 0} → (result : Result T Status) → ((status : Status) → P status → Q status) → IfErr result P → IfErr result Q
err_weaker (Ok value) f h = tt
err_weaker (Err status) f h = f status h

err_both : {T : Type 0} → {P Q R : Status → Type 0} → (result : Result T Status) → ((status : Status) → P status → Q status → R status) → IfErr result P → IfErr result Q → IfErr result R
err_both (Ok value) f h k = tt
err_both (Err status) f h k = f status h k

-- a run that stopped has one of these statuses
pub statuses_once : {T : Type 0} → (result : Result T Status) (said : DemoWords) (f g : Option Files) → said.seed < 2 ^ 64 → said.count ≤ 10000
    → IfErr result (λ status. StopsRun status (demo_documents said.seed said.count) f g) → IfErr result (λ status. CountedIf (says_write_fault status) 0 0) → IfErr result (λ status. IsDemoStatus said.count status)
statuses_once result said f g below few = err_both result (λ status stop quiet. status_once status said f g below few stop quiet)

-- what stands where a run stopped
pub run_stops : (status : Status) (said : DemoWords) (f g : Option Files) → StopsIn status said f g → IsDemoStatus said.count status → DemoStops status said f g
run_stops (FileIo n path) said f g stop is = (is, stop)
run_stops OutOfMemory said f g stop is = inr stop
run_stops AllPassed said f g stop is = is
run_stops SomeFailed said f g stop is = is
run_stops BadWords said f g stop is = is
run_stops (BadRequest n) said f g stop is = is
run_stops (Refused n kind) said f g stop is = is
run_stops ReadFault said f g stop is = is
run_stops WriteFault said f g stop is = is
run_stops InputTooLong said f g stop is = is

-- and where the reading did
pub reading_stops : (status : Status) (said : DemoWords) (passed : ℕ) (f g : Option Files) → RanTwice passed (demo_documents said.seed said.count) f g → ReadingStops said.count status → DemoStops status said f g
reading_stops (FileIo n path) said passed f g ran is =
    let low : 1 ≤ n = omega (arith, is.1.1.0) in
    let high : n ≤ said.count = omega (arith, is.1.1.0, is.1.0) in
    ((low, high), after_both ran is)
reading_stops OutOfMemory said passed f g ran is = inr (after_both ran tt)
reading_stops AllPassed said passed f g ran is = is
reading_stops SomeFailed said passed f g ran is = is
reading_stops BadWords said passed f g ran is = is
reading_stops (BadRequest n) said passed f g ran is = is
reading_stops (Refused n kind) said passed f g ran is = is
reading_stops ReadFault said passed f g ran is = is
reading_stops WriteFault said passed f g ran is = is
reading_stops InputTooLong said passed f g ran is = is

pub both_done : (said : DemoWords) (passed : ℕ) (lines : List ℕ) (f g h : Option Files) → h ≡ g → RanTwice passed (demo_documents said.seed said.count) f g → TellsHeld lines said.count passed g → IsDemonstrated said lines f h
both_done said passed lines f g h same ran told = record {
  passed = passed;
  twice = subst (RanTwice passed (demo_documents said.seed said.count) f) (sym same) ran;
  told = subst (TellsHeld lines said.count passed) (sym same) told;
}

pub both_ran : (said : DemoWords) (passed : ℕ) (status : Status) (f g h : Option Files) → h ≡ g → RanTwice passed (demo_documents said.seed said.count) f g → ReadingStops said.count status → DemoStops status said f h
both_ran said passed status f g h same ran is = subst (DemoStops status said f) (sym same) (reading_stops status said passed f g ran is)

-- a demonstration that stopped before its lines
pub demo_stopped : (status : Status) (said : DemoWords) (f g : Option Files) (w : Option (List ℕ)) → DemoStops status said f g → Demonstrates status said (outside f w) (outside g w)
demo_stopped (FileIo n path) said f g w stop = (refl, stop)
demo_stopped OutOfMemory said f g w stop = (refl, stop)
demo_stopped AllPassed said f g w stop = absurd stop
demo_stopped SomeFailed said f g w stop = absurd stop
demo_stopped BadWords said f g w stop = absurd stop
demo_stopped (BadRequest n) said f g w stop = absurd stop
demo_stopped (Refused n kind) said f g w stop = absurd stop
demo_stopped ReadFault said f g w stop = absurd stop
demo_stopped WriteFault said f g w stop = absurd stop
demo_stopped InputTooLong said f g w stop = absurd stop

-- no fault of the sink ended it
pub demo_wrote_nothing : (status : Status) (said : DemoWords) (f g : Option Files) (n : ℕ) → DemoStops status said f g → CountedIf (says_write_fault status) n n
demo_wrote_nothing WriteFault said f g n stop = absurd stop
demo_wrote_nothing status said f g n stop = refl

-- its lines were told
pub demo_told : (status : Status) (said : DemoWords) (bytes lines : List ℕ) (f g : Option Files) (w v : Option (List ℕ)) → bytes ≡ encode_utf8_all lines → IsDemonstrated said lines f g → IsTold bytes status w v
    → Demonstrates status said (outside f w) (outside g v)
demo_told AllPassed said bytes lines f g w v is done told = (lines, (done, subst (λ b. IsTold b AllPassed w v) is told))
demo_told WriteFault said bytes lines f g w v is done told = (lines, (done, subst (λ b. IsTold b WriteFault w v) is told))
demo_told SomeFailed said bytes lines f g w v is done told = absurd told
demo_told BadWords said bytes lines f g w v is done told = absurd told
demo_told (BadRequest n) said bytes lines f g w v is done told = absurd told
demo_told (Refused n kind) said bytes lines f g w v is done told = absurd told
demo_told (FileIo n path) said bytes lines f g w v is done told = absurd told
demo_told ReadFault said bytes lines f g w v is done told = absurd told
demo_told OutOfMemory said bytes lines f g w v is done told = absurd told
demo_told InputTooLong said bytes lines f g w v is done told = absurd told

-- a text that was told counts no fault of the store
pub told_no_file : (text : List ℕ) (status : Status) (w v : Option (List ℕ)) (n : ℕ) → IsTold text status w v → CountedIf (says_file_fault status) n n
told_no_file text (FileIo k path) w v n h = absurd h
told_no_file text status w v n h = refl
