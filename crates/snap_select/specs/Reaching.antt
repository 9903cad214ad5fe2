-- Below which paths a match may lie.
use Rattle.std.specs.Prelude.{◌&&◌, ◌||◌, ℕ, Bool, false, List, length, take, nat_lt, position, slice_get}
use Rattle.std.specs.List.{list_any}
use Rattle.std.specs.Option.{option_map_or}
use Rattle.snap_select.specs.Deep.{is_deep, has_deep}
use Rattle.snap_select.specs.Matching.{Step, fits_step, fit_each}
use Rattle.snap_select.specs.Parts.{Parts}
use Rattle.snap_select.specs.declared.segment.Segment.{Segment}

-- without a deep wildcard there are more segments than steps, and the first ones fit the steps; with one, the segments
-- before it fit the steps as far as both go
abbrev pub segments_reach : List Segment → List Step → Bool
segments_reach ss path = option_map_or (λ at. fit_each (take at ss) path) (position is_deep ss) (nat_lt (length path) (length ss) && fit_each ss path)

-- one of the parts may match a path that goes on from this one: that no other does is shown where trees are redacted
abbrev pub reaches : Parts → List Step → Bool
reaches parts path = list_any (λ ss. segments_reach ss path) parts

-- the segments may match a path that has this step after so many: one of the earlier segments is a deep wildcard, or the
-- segment in the step's place fits it
abbrev pub segments_open : List Segment → ℕ → Step → Bool
segments_open ss count step = option_map_or (λ s. fits_step s step) (slice_get ss count) false || has_deep (take count ss)

-- one of the parts may; where none does, none matches such a path nor one that goes on from it, as is shown where trees are redacted
abbrev pub opens : Parts → ℕ → Step → Bool
opens parts count step = list_any (λ ss. segments_open ss count step) parts
