-- The names of a snapshot that was read.
use Rattle.std.specs.Prelude.{◌≡◌, ℕ, List, Some}
use Rattle.snap_path.specs.Names.{module_name, snapshot_name}
use Rattle.snap_store.specs.Views.{module_in, name_in}
use Rattle.snap_store.specs.declared.snapshot.Snapshot.{Snapshot}

-- a snapshot has the module and the name that the path of its file tells
pub record HasNames (path : List ℕ) (snapshot : Snapshot) : Type 0 where
  pub module_is : module_in snapshot ≡ module_name path
  pub name_is : name_in snapshot ≡ Some (snapshot_name path)
