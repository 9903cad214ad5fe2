-- The changes that an assertion makes of the files, one after the other.
use Rattle.std.specs.Prelude.{ℕ, Bool, true, false, List, [], ◌∷◌, ◌++◌, map, if◌then◌else◌}
use Rattle.snap_io.specs.Changes.{Change, removes}
use Rattle.snap_store.specs.Meta.{without_line}
use Rattle.snap_assert.specs.Steps.{Asked, pending_path, saved_as}
use Rattle.snap_assert_settings.specs.declared.config.Update.{Update}
use Rattle.snap_assert_settings.specs.declared.config.Update.TheVariants.{InPlace, NewFile, NoUpdate}

-- what the mode writes: the snapshot and its payload in place, or both beside it as pending, or nothing
abbrev pub writing : Update → Asked → List Change
writing InPlace asked = saved_as asked.path (without_line asked.meta) asked.subject
writing NewFile asked = saved_as (pending_path asked.path) asked.meta asked.subject
writing NoUpdate asked = []

-- once the strays are gone: on a pass the pending snapshot is removed, and only where that is forced something is written after it; without
-- a pass nothing is removed
abbrev pub leaving : Update → Bool → Asked → Bool → List Change
leaving mode force asked true = removes (pending_path asked.path) ∷ (if force then writing mode asked else [])
leaving mode force asked false = writing mode asked

-- all changes of an assertion, in their order: each stray is removed, and then it is left as the mode says; law
-- `the_changes_are_those_of_the_step` holds them to `step`
abbrev pub settling : Update → Bool → Asked → Bool → List (List ℕ) → List Change
settling mode force asked passed strays = map removes strays ++ leaving mode force asked passed
