-- The name that an assertion of a literal takes, and what is remembered of it.
use Rattle.std.specs.Prelude.{ℕ, List, Option, None, Some, Result, Ok, Err, if◌then◌else◌}
use Rattle.snap_assert_place.specs.Place.{PlaceView}
use Rattle.snap_assert_place.specs.SnapshotPath.{is_doctest}
use Rattle.snap_assert_settings.specs.Settings.{SettingsView}
use Rattle.snap_assert.specs.Names.{Named, function_step}
use Rattle.snap_assert.specs.Session.{SessionView, LiteralKey, is_open, is_met, with_literal}
use Rattle.snap_assert.specs.declared.error.AssertError.{AssertError}
use Rattle.snap_assert.specs.declared.error.AssertError.TheVariants.{InlineDuplicate}

-- the name of a literal, none in a doctest, and what is remembered then
pub record LiteralNamed : Type 0 where
  pub name : Option (List ℕ)
  pub session : SessionView

-- as what a literal is remembered
abbrev pub literal_key : PlaceView → LiteralKey
literal_key place = (place.function, place.file, place.line)

abbrev pub with_name : Result Named AssertError → Result LiteralNamed AssertError
with_name (Ok named) = Ok (record { name = Some named.name; session = named.session })
with_name (Err error) = Err error

-- a literal takes the name of its function; in a doctest it takes none, and nothing is remembered of a name
abbrev pub literal_use_step : SettingsView → PlaceView → SessionView → Result LiteralNamed AssertError
literal_use_step settings place session =
    if is_doctest place.function then Ok (record { name = None; session = session })
    else with_name (function_step settings place session)

-- where no block is open a literal that was met is refused, and any other is remembered, in a doctest too; then the name is taken
abbrev pub literal_name_step : SettingsView → PlaceView → SessionView → Result LiteralNamed AssertError
literal_name_step settings place session =
    if is_open session then literal_use_step settings place session
    else if is_met session (literal_key place) then Err InlineDuplicate
    else literal_use_step settings place (with_literal session (literal_key place))
