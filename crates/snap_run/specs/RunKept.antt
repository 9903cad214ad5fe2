-- What a whole run leaves as it was, whatever its status is.
use Rattle.std.specs.Prelude.{◌≡◌, ℕ, Bool, false, List, [], ◌∷◌, Option, None, Some, Result, Ok, Err}
use Rattle.std.specs.FinMap.{get}
use Rattle.snap_io.specs.Files.{Files}
use Rattle.snap_io.specs.Outside.{Given}
use Rattle.snap_run.specs.Answers.{RunWords, remembered_by}
use Rattle.snap_run.specs.Runs.{name_in, path_in}
use Rattle.snap_assert.specs.Kept.{IsKeptOrGone, is_written, may_change}
use Rattle.snap_assert.specs.Names.{Named}
use Rattle.snap_assert.specs.Session.{SessionView, empty_session}
use Rattle.snap_assert.specs.declared.error.AssertError.{AssertError}
use Rattle.snap_run_requests.specs.Requests.{AssertionView, RequestView, asserts, begins, ends, ReadsAs}
use Rattle.snap_assert_settings.specs.declared.config.Update.{Update}

-- the first of the documents are read as these requests, one for one
abbrev pub AreRead : List (List ℕ) → List RequestView → Type 0
AreRead documents [] = Unit {0}
AreRead [] (r ∷ rs) = ⊥
AreRead (d ∷ ds) (r ∷ rs) = ReadsAs d r × AreRead ds rs

-- the path fails the test for the name that an assertion takes
abbrev pub IsSparedBy : RunWords → (Update → List ℕ → List ℕ → Bool) → List ℕ → AssertionView → Result Named AssertError → Type 0
IsSparedBy words test q a (Ok named) = test words.update (path_in words a named.name) q ≡ false
IsSparedBy words test q a (Err refused) = Unit {0}

-- the path fails the test for the request
abbrev pub IsSpared : RunWords → (Update → List ℕ → List ℕ → Bool) → List ℕ → RequestView → SessionView → Type 0
IsSpared words test q (asserts a) session = IsSparedBy words test q a (name_in words a session)
IsSpared words test q begins session = Unit {0}
IsSpared words test q ends session = Unit {0}

-- and for each of these
abbrev pub AreSpared : RunWords → (Update → List ℕ → List ℕ → Bool) → List ℕ → List RequestView → SessionView → Type 0
AreSpared words test q [] session = Unit {0}
AreSpared words test q (r ∷ rs) session = IsSpared words test q r session × AreSpared words test q rs (remembered_by words r session)

-- now is known, and requests were read: a file that the mode writes for none of them is as before or gone, and one that none may
-- change as before
pub record RunKeeps (words : RunWords) (documents : List (List ℕ)) (session : SessionView) (m : Files) (now : Option Files) : Type 0 where
  pub requests : List RequestView
  pub read : AreRead documents requests
  pub files : Files
  pub told : now ≡ Some files
  pub unwritten : (q : List ℕ) → AreSpared words is_written q requests session → IsKeptOrGone (get m q) (get files q)
  pub others : (q : List ℕ) → AreSpared words may_change q requests session → get files q ≡ get m q

-- what a whole run keeps
abbrev pub KeptByRun : RunWords → List (List ℕ) → Option Files → Option Files → Type 0
KeptByRun words documents files files' = Given files (λ m. RunKeeps words documents empty_session m files')
