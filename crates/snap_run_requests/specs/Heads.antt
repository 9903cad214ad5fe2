-- What is told by the pairs of an assertion but its value.
use Rattle.std.specs.Prelude.{◌≡◌, ◌||◌, true, Some, is_some, option_map}
use Rattle.std.specs.Str.{chars}
use Rattle.snap_content.specs.Tree.{TreePairs}
use Rattle.snap_fields.specs.Fields.{text_at, line_at}
use Rattle.snap_assert_place.specs.Place.{names_file}
use Rattle.snap_assert_settings.specs.Replaced.{replacements_of}
use Rattle.snap_run_requests.specs.Keys.{IsKeyed, assertion_table, has_name, name_of, value_at}
use Rattle.snap_run_requests.specs.Requests.{AreRedactionsAt, sorted_by, text_if, text_or_empty}
use Rattle.snap_run_requests.specs.declared.key.Key.TheVariants.{Module, File, Line, Name, Function, Suffix, Expr, Redactions, Sort}
use Rattle.snap_run_requests.specs.declared.request.Head.{Head}
use Rattle.snap_run_requests.specs.declared.request.Told.{Told}

-- the pairs have the keys of an assertion, and these stand at them
pub record IsTold (pairs : TreePairs) (told : Told) : Type 0 where
  pub keyed : IsKeyed assertion_table.keys pairs
  pub module_name : text_at (name_of Module) pairs ≡ Some (chars told.module_name.now)
  pub file : text_at (name_of File) pairs ≡ Some (chars told.file.now)
  pub of_file : names_file (chars told.file.now) ≡ true
  pub line : line_at (name_of Line) pairs ≡ Some told.line
  pub name : text_if (value_at Name pairs) ≡ Some (option_map (λ text. chars text.now) told.name)
  pub function : text_or_empty (value_at Function pairs) ≡ Some (chars told.function.now)
  pub called : has_name pairs || is_some (value_at Function pairs) ≡ true
  pub suffix : text_or_empty (value_at Suffix pairs) ≡ Some (chars told.suffix.now)
  pub expr : text_at (name_of Expr) pairs ≡ Some (chars told.expr.now)
  pub sort : sorted_by (value_at Sort pairs) ≡ Some told.sort

-- the same, copied, and the redactions
pub record IsHead (pairs : TreePairs) (head : Head) : Type 0 where
  pub keyed : IsKeyed assertion_table.keys pairs
  pub module_name : text_at (name_of Module) pairs ≡ Some head.module_name
  pub file : text_at (name_of File) pairs ≡ Some head.file
  pub of_file : names_file head.file ≡ true
  pub line : line_at (name_of Line) pairs ≡ Some head.line
  pub name : text_if (value_at Name pairs) ≡ Some head.name
  pub function : text_or_empty (value_at Function pairs) ≡ Some head.function
  pub called : has_name pairs || is_some (value_at Function pairs) ≡ true
  pub suffix : text_or_empty (value_at Suffix pairs) ≡ Some head.suffix
  pub expr : text_at (name_of Expr) pairs ≡ Some head.expr
  pub sort : sorted_by (value_at Sort pairs) ≡ Some head.sort
  pub redactions : AreRedactionsAt (value_at Redactions pairs) (replacements_of head.redactions.items)
