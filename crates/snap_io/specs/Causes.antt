-- When a call of the outside may say that it failed.
use Rattle.std.specs.Prelude.{◌≡◌, ℕ, ◌+◌, ◌-◌, ◌^◌, ◌≤◌, min, Bool, true, false, Result, Ok, Err}
use Rattle.snap_io.specs.declared.outside.Fault.{Fault}
use Rattle.snap_io.specs.declared.outside.StoreError.{StoreError}
use Rattle.snap_io.specs.declared.outside.StoreError.TheVariants.{Failed, OutOfMemory}

-- the count of faults rose, or stands at its last value; it didn't fall
pub record Rose (before now : ℕ) : Type 0 where
  pub later : before ≤ now
  pub rose : min (before + 1) (2 ^ 64 - 1) ≤ now

-- a count rises where there is a fault, and stands where there is none
abbrev pub CountedIf : Bool → ℕ → ℕ → Type 0
CountedIf true before now = Rose before now
CountedIf false before now = now ≡ before

-- an answer tells of a fault only where the count rose, and any other answer leaves it
abbrev pub Counted : {T E : Type 0} → (E → Bool) → ℕ → ℕ → Result T E → Type 0
Counted is_fault before now (Ok value) = now ≡ before
Counted is_fault before now (Err error) = CountedIf (is_fault error) before now

-- the next count, up to the largest
abbrev pub one_more : ℕ → ℕ
one_more count = min (count + 1) (2 ^ 64 - 1)

abbrev pub CountedOnceIf : Bool → ℕ → ℕ → Type 0
CountedOnceIf true before now = now ≡ one_more before
CountedOnceIf false before now = now ≡ before

-- where an answer tells of a fault the count rises by one
abbrev pub CountedOnce : {T E : Type 0} → (E → Bool) → ℕ → ℕ → Result T E → Type 0
CountedOnce is_fault before now (Ok value) = now ≡ before
CountedOnce is_fault before now (Err error) = CountedOnceIf (is_fault error) before now

-- the one error of a source or a sink is a fault
abbrev pub is_fault : Fault → Bool
is_fault fault = true

-- the error of a store that is a fault: the other one is that of memory
abbrev pub is_failed : StoreError → Bool
is_failed Failed = true
is_failed OutOfMemory = false
