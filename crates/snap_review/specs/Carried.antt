-- How changes of files stop.
use Rattle.std.specs.Prelude.{List, Option}
use Rattle.snap_content.specs.declared.error.Error.{Error}
use Rattle.snap_io.specs.Changes.{Change}
use Rattle.snap_io.specs.Files.{Files}
use Rattle.snap_io.specs.StandsAfter.{StandsAfter}
use Rattle.snap_store.specs.Causes.{IsSaveError, named_by}

-- by a fault, which names the path of the change in work, or since memory was out
pub record StopsIn (changes : List Change) (error : Error) (files files' : Option Files) : Type 0 where
  pub error_is : IsSaveError error
  pub stands : StandsAfter changes (named_by error) files files'
