-- Where the snapshots of a demonstration stand.
use Rattle.std.specs.Prelude.{◌+◌, ◌/◌, ℕ, zero, suc, List, [], ◌∷◌, ◌++◌, codes}
use Rattle.std.specs.Fmt.{decimal}
use Rattle.snap_assert_place.specs.Place.{PlaceView}

-- below the workspace `demo`, beside the source file of the request
abbrev pub demo_path : ℕ → List ℕ
demo_path i = codes "demo/src/d" ++ (decimal (i / 100) ++ (codes "/snapshots/demo__r" ++ (decimal i ++ codes ".snap")))

-- so many paths, from one on
abbrev pub paths_from : ℕ → ℕ → List (List ℕ)
paths_from i zero = []
paths_from i (suc n) = demo_path i ∷ paths_from (i + 1) n

-- the paths of so many requests
abbrev pub demo_paths : ℕ → List (List ℕ)
demo_paths count = paths_from 0 count

-- where the assertion of a request stands, which has this source file and this line
abbrev pub demo_place : List ℕ → ℕ → PlaceView
demo_place file line = record { workspace = codes "demo"; function = []; module_name = codes "demo"; file = file; line = line; expr = codes "demo" }
