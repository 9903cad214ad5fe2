-- The names that assertions take from the functions that they stand in.
use Rattle.std.specs.Prelude.{◌||◌, ℕ, Bool, false, List, [], ◌∷◌, ◌++◌, Option, None, Some, codes, if◌then◌else◌, is_some, unwrap_or}
use Rattle.snap_path.specs.Names.{past_mark}
use Rattle.snap_assert_settings.specs.Settings.{SettingsView}
use Rattle.snap_assert_place.specs.Place.{PlaceView}
use Rattle.snap_assert_place.specs.SnapshotPath.{flat_module}

-- what follows `::`, where the text begins with it
abbrev pub past_colons : List ℕ → Option (List ℕ)
past_colons text = past_mark (codes "::") text

-- whether `::` stands in the text
abbrev pub holds_colons : List ℕ → Bool
holds_colons [] = false
holds_colons (c ∷ cs) = is_some (past_colons (c ∷ cs)) || holds_colons cs

-- what stands after the last `::`, and the whole text without one; a `::` may overlap another, so of `a:::b` it is `b`
abbrev pub last_name : List ℕ → List ℕ
last_name [] = []
last_name (c ∷ cs) = if holds_colons cs then last_name cs else unwrap_or (past_colons (c ∷ cs)) (c ∷ cs)

-- what follows `test_`, where the name begins with it
abbrev pub past_test : List ℕ → Option (List ℕ)
past_test name = past_mark (codes "test_") name

-- whether a function is named as a test: its name begins with `test_`
abbrev pub is_test : List ℕ → Bool
is_test name = is_some (past_test name)

-- the name without one `test_` in front
abbrev pub without_test : List ℕ → List ℕ
without_test name = unwrap_or (past_test name) name

-- a name gets an `@` and the suffix of the settings, where one is set
abbrev pub suffixed : List ℕ → Option (List ℕ) → List ℕ
suffixed name None = name
suffixed name (Some suffix) = name ++ 64 ∷ suffix

-- the name that an assertion takes where none is given: that of its function, without `test_` and with the suffix
abbrev pub base_of : SettingsView → PlaceView → List ℕ
base_of settings place = suffixed (without_test (last_name place.function)) settings.suffix

-- a module, with `__` for each `::`, and a name
abbrev pub NameKey : Type 0
NameKey = List ℕ × List ℕ

-- under what the uses of that name are counted
abbrev pub key_of : SettingsView → PlaceView → NameKey
key_of settings place = (flat_module place.module_name, base_of settings place)
