-- What is asked for so far, and why the asking stops.
use Rattle.std.specs.Prelude.{◌≡◌, ◌||◌, ◌⊎◌, ℕ, Bool, true, false, List}
use Rattle.snap_io.specs.declared.outside.StoreError.{StoreError}
use Rattle.snap_io.specs.declared.outside.StoreError.TheVariants as store
use Rattle.snap_run_requests.specs.Requests.{RequestView, asserts, begins, ends, ReadsAs}
use Rattle.snap_assert.specs.Removed.{is_among}
use Rattle.snap_assert.specs.Session.{SessionView, empty_session}
use Rattle.snap_assert.specs.declared.error.AssertError.{AssertError}
use Rattle.snap_assert.specs.declared.error.AssertError.TheVariants as refusal
use Rattle.snap_assert_place.specs.Place.{names_file}
use Rattle.snap_run.specs.Answers.{RunWords, is_taken, remembered_by}
use Rattle.snap_explain_unused.specs.Asked.{AreAsked, IsNone, IsUntaken, StopsAsking, asked_paths, path_by}
use Rattle.snap_explain_unused.specs.declared.asking.Stop.{Stop}
use Rattle.snap_explain_unused.specs.declared.asking.Stop.TheVariants as stop

-- why work on a store stops
abbrev pub store_stop : StoreError → Stop
store_stop store.Failed = stop.FileFault
store_stop store.OutOfMemory = stop.OutOfMemory

-- why an assertion that comes to no answer stops the asking
abbrev pub stop_of : AssertError → Stop
stop_of (refusal.FileIo path) = stop.FileFault
stop_of refusal.OutOfMemory = stop.OutOfMemory
stop_of _ = stop.Refused

-- it stops since the store failed
abbrev pub is_file_fault : Stop → Bool
is_file_fault stop.FileFault = true
is_file_fault _ = false

-- an assertion is made in a file
abbrev pub IsOfFile : RequestView → Type 0
IsOfFile (asserts a) = names_file a.file ≡ true
IsOfFile begins = Unit {0}
IsOfFile ends = Unit {0}

-- these paths came to the others
abbrev pub Grows : List (List ℕ) → List (List ℕ) → List (List ℕ) → Type 0
Grows paths old now = (q : List ℕ) → is_among now q ≡ (is_among paths q || is_among old q)

-- a run takes the request, and its path came to the others
pub record AsksBy (words : RunWords) (r : RequestView) (session session' : SessionView) (old now : List (List ℕ)) : Type 0 where
  pub taken : is_taken words r session ≡ true
  pub remembered : session' ≡ remembered_by words r session
  pub grows : Grows (path_by words r session) old now

-- the document is such a request
pub record AsksOne (words : RunWords) (document : List ℕ) (session session' : SessionView) (old now : List (List ℕ)) : Type 0 where
  pub request : RequestView
  pub reads : ReadsAs document request
  pub asks : AsksBy words request session session' old now

-- a run takes all documents of the input, and these are the paths that they ask for
pub record AsksAll (words : RunWords) (input : List ℕ) (paths : List (List ℕ)) : Type 0 where
  pub requests : List RequestView
  pub asked : AreAsked words input requests
  pub paths_are : (q : List ℕ) → is_among paths q ≡ is_among (asked_paths words requests empty_session) q

-- the asking stops at a request that a run refuses; of a fault and of memory nothing is said
abbrev pub StopsBy : Stop → RunWords → RequestView → SessionView → Type 0
StopsBy stop.Refused words r session = is_taken words r session ≡ false
StopsBy stop.FileFault words r session = Unit {0}
StopsBy stop.OutOfMemory words r session = Unit {0}

-- at a document that is none, or such a request
abbrev pub StopsOne : Stop → RunWords → List ℕ → SessionView → Type 0
StopsOne stop.Refused words document session = IsNone document ⊎ IsUntaken words document session
StopsOne stop.FileFault words document session = Unit {0}
StopsOne stop.OutOfMemory words document session = Unit {0}

-- at such a document of the input
abbrev pub StopsAll : Stop → RunWords → List ℕ → Type 0
StopsAll stop.Refused words input = StopsAsking words input
StopsAll stop.FileFault words input = Unit {0}
StopsAll stop.OutOfMemory words input = Unit {0}

-- it stops since a document is refused
abbrev pub is_refused : Stop → Bool
is_refused stop.Refused = true
is_refused _ = false
