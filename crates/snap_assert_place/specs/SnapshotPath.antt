-- The path of a snapshot, and its metadata.
use Rattle.std.specs.Prelude.{◌≡◌, ◌==◌, ◌&&◌, ◌||◌, ℕ, Bool, List, [], ◌∷◌, ◌++◌, Option, None, Some, if◌then◌else◌, codes, unwrap_or, is_some, IsSome}
use Rattle.std.specs.List.{flat_map}
use Rattle.snap_path.specs.Paths.{joined, parent_of, name_of, relative_from, components, is_absolute, path_of_parts}
use Rattle.snap_store.specs.Meta.{Meta}
use Rattle.snap_store.specs.Relative.{path_within}
use Rattle.snap_store.specs.declared.metadata.SnapshotKind.TheVariants.{Text}
use Rattle.snap_path.specs.Names.{past_mark}
use Rattle.snap_assert_settings.specs.Settings.{SettingsView}
use Rattle.snap_assert_place.specs.Place.{PlaceView}

-- a name as a part of a file's name: no slash and no backslash
abbrev pub flat_character : ℕ → List ℕ
flat_character c = if c == 47 || c == 92 then codes "__" else c ∷ []

abbrev pub flat_name : List ℕ → List ℕ
flat_name name = flat_map flat_character name

-- a module with `__` for each `::`
abbrev pub flat_module : List ℕ → List ℕ
flat_module [] = []
flat_module (c ∷ []) = c ∷ []
flat_module (c ∷ d ∷ cs) = if c == 58 && d == 58 then codes "__" ++ flat_module cs else c ∷ flat_module (d ∷ cs)

-- whether a function is that of a test in documentation
abbrev pub is_doctest : List ℕ → Bool
is_doctest function = is_some (past_mark (codes "rust_out::main::_doctest") function)

abbrev pub dotless_character : ℕ → List ℕ
dotless_character c = if c == 46 then codes "_" else c ∷ []

-- the file of a doctest, as the front of a name
abbrev pub file_of_doctest : PlaceView → List ℕ
file_of_doctest place = codes "doctest_" ++ (flat_map dotless_character (unwrap_or (name_of place.file) []) ++ codes "__")

-- what stands before the name: the file of a doctest, or the module
abbrev pub place_prefix : PlaceView → List ℕ
place_prefix place = if is_doctest place.function then file_of_doctest place else flat_module place.module_name ++ codes "__"

abbrev pub file_prefix : SettingsView → PlaceView → List ℕ
file_prefix settings place = if settings.prepends_module then place_prefix place else []

abbrev pub file_name : SettingsView → PlaceView → List ℕ → List ℕ
file_name settings place name = (file_prefix settings place ++ flat_name name) ++ codes ".snap"

-- the workspace, the folder of the file, the folder of its snapshots, the snapshot's file
abbrev pub path_of : SettingsView → PlaceView → List ℕ → List ℕ
path_of settings place name =
    joined (joined (joined place.workspace (parent_of place.file)) settings.snapshot_path) (file_name settings place name)

-- the name of the file that keeps the records of a source file's literals
abbrev pub records_name : List ℕ → List ℕ
records_name name = codes "." ++ (name ++ codes ".pending-snap")

-- the path of that file: the workspace joined with the source file, whose last component `f` is `.f.pending-snap` there
abbrev pub records_path : PlaceView → List ℕ
records_path place = joined (parent_of (joined place.workspace place.file)) (records_name (unwrap_or (name_of place.file) []))

-- the input file, joined to the workspace, as it is seen from there; none where it isn't below it
abbrev pub input_seen : PlaceView → Option (List ℕ) → Option (List ℕ)
input_seen place None = None
input_seen place (Some file) = path_within (joined place.workspace file) place.workspace

-- the expression, where it isn't left out
abbrev pub shown_expression : SettingsView → PlaceView → Option (List ℕ)
shown_expression settings place = if settings.omits_expression then None else Some place.expr

-- the metadata of a new snapshot
abbrev pub new_meta : SettingsView → PlaceView → Meta
new_meta settings place = record {
  source = Some (relative_from (joined place.workspace place.file) place.workspace);
  assertion_line = Some place.line;
  description = settings.description;
  expression = shown_expression settings place;
  info = settings.info;
  input_file = input_seen place settings.input_file;
  kind = Text;
}

-- the path is its components with one slash between each two, and has at least one
pub record IsFilePath (path : List ℕ) : Type 0 where
  pub normal : path ≡ path_of_parts (is_absolute path) (components path)
  pub named : IsSome (name_of path)
