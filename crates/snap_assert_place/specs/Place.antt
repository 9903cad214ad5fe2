-- Where an assertion stands.
use Rattle.std.specs.Prelude.{◌==◌, ◌&&◌, ℕ, Bool, not, List, [], ◌∷◌, if◌then◌else◌, codes}
use Rattle.std.specs.List.{list_any}
use Rattle.std.specs.Str.{bytes_eq}
use Rattle.snap_path.specs.Paths.{is_component}
use Rattle.snap_assert_place.specs.declared.place.Place.{Place}

-- where an assertion stands: the workspace, the function, the module, the source file, the line and the expression
pub record PlaceView : Type 0 where
  pub workspace : List ℕ
  pub function : List ℕ
  pub module_name : List ℕ
  pub file : List ℕ
  pub line : ℕ
  pub expr : List ℕ

-- what a place is seen as
abbrev pub place_of : Place → PlaceView
place_of place = record {
  workspace = place.workspace;
  function = place.function;
  module_name = place.module_name;
  file = place.file;
  line = place.line;
  expr = place.expr;
}

-- a text that has a slash
abbrev pub holds_slash : List ℕ → Bool
holds_slash path = list_any (λ c. c == 47) path

-- what stands after the last slash
abbrev pub last_part : List ℕ → List ℕ
last_part [] = []
last_part (c ∷ cs) = if holds_slash cs then last_part cs else (if c == 47 then cs else c ∷ cs)

-- the path of a file: its last part is not empty, and neither `.` nor `..`
abbrev pub names_file : List ℕ → Bool
names_file path = is_component (last_part path) && not (bytes_eq (last_part path) (codes ".."))
