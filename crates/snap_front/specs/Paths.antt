-- Which texts are paths.
use Rattle.std.specs.Prelude.{◌≡◌, ⊤, ℕ, List, [], ◌∷◌, Option, None, Some, option_map, option_and_then}
use Rattle.snap_select.specs.Grammar.{IsSelector}
use Rattle.snap_select.specs.Parts.{Parts}
use Rattle.snap_select.specs.Refusal.{IsRefused}
use Rattle.snap_select.specs.declared.fault.SelectError.TheVariants as e
use Rattle.snap_select.specs.declared.segment.Segment.{Segment}
use Rattle.snap_select.specs.declared.segment.Segment.TheVariants as s
use Rattle.snap_front.specs.declared.path.Path.{Path}
use Rattle.snap_front.specs.declared.path_error.PathError.{PathError}
use Rattle.snap_front.specs.declared.path_error.PathError.TheVariants.{Parse, NotAPath, OutOfMemory}
use Rattle.snap_front.specs.declared.step.Step.{Step}
use Rattle.snap_front.specs.declared.step.Step.TheVariants.{Key, Index}

-- the steps of a path
abbrev pub steps_of : Path → List Step
steps_of path = path.steps.items

-- the step of a segment: none of any but keys and indices
abbrev pub step_of : Segment → Option Step
step_of (s.Key name) = Some (Key name)
step_of (s.Index n) = Some (Index n)
step_of other = None

-- a step for each segment, where each has one
abbrev pub steps_in : List Segment → Option (List Step)
steps_in [] = Some []
steps_in (segment ∷ rest) = option_and_then (λ step. option_map (λ steps. step ∷ steps) (steps_in rest)) (step_of segment)

-- the steps of the only part
abbrev pub path_in : Parts → Option (List Step)
path_in (part ∷ []) = steps_in part
path_in other = None

-- the text is a selector of one part with these steps
pub record IsPath (text : List ℕ) (steps : List Step) : Type 0 where
  pub parts : Parts
  pub selector : IsSelector text parts
  pub are : path_in parts ≡ Some steps

-- the text is a selector that is no path
pub record IsOther (text : List ℕ) : Type 0 where
  pub parts : Parts
  pub selector : IsSelector text parts
  pub none : path_in parts ≡ None

-- why a selector of these parts is no path
abbrev pub IsNoPath : Parts → PathError → Type 0
IsNoPath parts (Parse refusal) = ⊥
IsNoPath parts NotAPath = path_in parts ≡ None
IsNoPath parts OutOfMemory = ⊤

-- a text that is no selector is refused as such; one that is, but no path, as that; and out of memory says nothing of it
abbrev pub IsRefusedPath : List ℕ → PathError → Type 0
IsRefusedPath text (Parse refusal) = IsRefused text (e.Parse refusal)
IsRefusedPath text NotAPath = IsOther text
IsRefusedPath text OutOfMemory = ⊤
