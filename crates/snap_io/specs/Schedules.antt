-- Which calls of an object in memory fail.
use Rattle.std.specs.Prelude.{◌≡◌, ◌==◌, ℕ, Bool, true, false, List, [], Option, None, Some, Result, Ok, Err, Vec}
use Rattle.std.specs.declared.alloc.Global.{Global}
use Rattle.std.specs.List.{list_any}
use Rattle.snap_io.specs.Causes.{one_more}
use Rattle.snap_io.specs.declared.outside.StoreError.{StoreError}
use Rattle.snap_io.specs.declared.outside.StoreError.TheVariants.{Failed, OutOfMemory}
use Rattle.snap_io.specs.declared.schedule.Schedule.{Schedule}

abbrev pub numbers : Option (Vec ℕ Global) → List ℕ
numbers None = []
numbers (Some calls) = calls.items

-- the numbers of the calls that fail
abbrev pub listed_calls : Schedule → List ℕ
listed_calls s = numbers s.listed

-- how many calls there were, up to the largest number
abbrev pub calls_so_far : Schedule → ℕ
calls_so_far s = s.calls

-- how many of them failed, up to the largest number
abbrev pub faults_so_far : Schedule → ℕ
faults_so_far s = s.faults

-- the number of the next call, from 1 on
abbrev pub next_call : Schedule → ℕ
next_call s = one_more (calls_so_far s)

-- whether the next call is one of those that fail
abbrev pub fails_next : Schedule → Bool
fails_next s = list_any (λ call. call == next_call s) (listed_calls s)

-- one more call was made, and the same calls fail
pub record Counts (before now : Schedule) : Type 0 where
  pub calls : calls_so_far now ≡ next_call before
  pub listed : listed_calls now ≡ listed_calls before

-- no call was made, none is to fail, and none failed
pub record IsFresh (s : Schedule) : Type 0 where
  pub calls : calls_so_far s ≡ 0
  pub listed : listed_calls s ≡ []
  pub faults : faults_so_far s ≡ 0

-- these calls are to fail, and nothing else has changed
pub record ListsCalls (calls : List ℕ) (before now : Schedule) : Type 0 where
  pub listed : listed_calls now ≡ calls
  pub same_calls : calls_so_far now ≡ calls_so_far before
  pub same_faults : faults_so_far now ≡ faults_so_far before

-- a store's call fails exactly where it is listed
abbrev pub FailsAsListed : {T : Type 0} → Bool → Result T StoreError → Type 0
FailsAsListed listed (Ok value) = listed ≡ false
FailsAsListed listed (Err Failed) = listed ≡ true
FailsAsListed listed (Err OutOfMemory) = listed ≡ false
