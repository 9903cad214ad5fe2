-- The name that an assertion takes, and what is remembered of it.
use Rattle.std.specs.Prelude.{◌≡◌, ◌+◌, ◌++◌, nat_eq, ℕ, Bool, true, false, not, List, Option, None, Some, Result, Ok, Err, codes, if◌then◌else◌}
use Rattle.std.specs.Fmt.{decimal}
use Rattle.snap_assert_place.specs.Names.{NameKey, last_name, is_test, suffixed, key_of}
use Rattle.snap_assert_place.specs.Place.{PlaceView}
use Rattle.snap_assert_place.specs.SnapshotPath.{is_doctest}
use Rattle.snap_assert_settings.specs.Settings.{SettingsView}
use Rattle.snap_assert.specs.Session.{SessionView, is_open, use_of, with_use}
use Rattle.snap_assert.specs.declared.error.AssertError.{AssertError}
use Rattle.snap_assert.specs.declared.error.AssertError.TheVariants.{OutOfMemory, FileIo, NameClash, DoctestNeedsName, NamesExhausted}
use Rattle.snap_assert.specs.declared.session.Use.{Use}

-- the name that is taken, and what is remembered then
pub record Named : Type 0 where
  pub name : List ℕ
  pub session : SessionView

abbrev pub prefixed_in : Option Use → Option Bool
prefixed_in None = None
prefixed_in (Some held) = held.prefixed

abbrev pub count_in : Option Use → ℕ
count_in None = 0
count_in (Some held) = held.count

abbrev pub differ : Bool → Bool → Bool
differ true now = not now
differ false now = now

-- a name clashes where one function that it comes from begins with `test_` and another doesn't
abbrev pub clashes : Option Bool → Bool → Bool
clashes None now = false
clashes (Some was) now = differ was now

abbrev pub use_at : Bool → ℕ → Use
use_at is_test count = record { prefixed = Some is_test; count = count }

-- a use is counted where no block is open, up to the last number
abbrev pub counted : Bool → Bool → ℕ → Result Use AssertError
counted true is_test count = Ok (use_at is_test count)
counted false is_test count = if nat_eq count 18446744073709551615 then Err NamesExhausted else Ok (use_at is_test (count + 1))

abbrev pub next_use : Bool → Bool → Option Use → Result Use AssertError
next_use opened is_test held = if clashes (prefixed_in held) is_test then Err NameClash else counted opened is_test (count_in held)

-- from the second use on its number stands after the name, but not in a block
abbrev pub numbered : Bool → List ℕ → ℕ → List ℕ
numbered true base count = base
numbered false base count = if nat_eq count 1 then base else base ++ (codes "-" ++ decimal count)

abbrev pub named_by : NameKey → SessionView → Result Use AssertError → Result Named AssertError
named_by key session (Err error) = Err error
named_by key session (Ok next) = Ok (record { name = numbered (is_open session) key.1 next.count; session = with_use session key next })

-- the next use of the name under a key
abbrev pub counted_step : NameKey → Bool → SessionView → Result Named AssertError
counted_step key is_test session = named_by key session (next_use (is_open session) is_test (use_of session key))

-- the name that comes from the function
abbrev pub function_step : SettingsView → PlaceView → SessionView → Result Named AssertError
function_step settings place session = counted_step (key_of settings place) (is_test (last_name place.function)) session

-- the name of an assertion for which none is given: it comes from its function, but not in a doctest
abbrev pub automatic_step : SettingsView → PlaceView → SessionView → Result Named AssertError
automatic_step settings place session = if is_doctest place.function then Err DoctestNeedsName else function_step settings place session

-- a name that is given gets the suffix of the settings, and the session stays
abbrev pub name_step : SettingsView → PlaceView → Option (List ℕ) → SessionView → Result Named AssertError
name_step settings place (Some given) session = Ok (record { name = suffixed given settings.suffix; session = session })
name_step settings place None session = automatic_step settings place session

-- a refusal is that of the step; out of memory says nothing, and no step comes to a fault of the store
abbrev pub RefusedAs : {T : Type 0} → AssertError → Result T AssertError → Type 0
RefusedAs OutOfMemory step = Unit {0}
RefusedAs (FileIo path) step = ⊥
RefusedAs error step = step ≡ Err error
