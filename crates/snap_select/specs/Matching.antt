-- Which paths a selector matches.
use Rattle.std.specs.Prelude.{◌-◌, ◌==◌, ◌&&◌, ℕ, suc, ℤ, pos, negsuc, Bool, true, false, List, [], ◌∷◌, length, take, drop, min, Option, nat_lt, nat_le, position}
use Rattle.std.specs.List.{list_any}
use Rattle.std.specs.Option.{option_map_or}
use Rattle.std.specs.Str.{bytes_eq, chars}
use Rattle.snap_content.specs.Access.{resolved, text_in, whole_number_in, fitting_u64}
use Rattle.snap_content.specs.Tree.{Tree}
use Rattle.snap_content.specs.View.{tree}
use Rattle.snap_select.specs.Deep.{is_deep}
use Rattle.snap_select.specs.Parts.{Parts}
use Rattle.snap_select.specs.declared.path_item.PathItem.{PathItem}
use Rattle.snap_select.specs.declared.path_item.PathItem.TheVariants as i
use Rattle.snap_select.specs.declared.segment.Segment.{Segment}
use Rattle.snap_select.specs.declared.segment.Segment.TheVariants.{DeepWildcard, Wildcard, Key, Index, Range}
use Rattle.snap_select.specs.declared.step_ref.StepRef.{StepRef}
use Rattle.snap_select.specs.declared.step_ref.StepRef.TheVariants as r

-- a step into a tree: under a key, into a field, or to the item at a position, with how many there are
pub data Step : Type 0 where
  under_key : Tree → Step
  into_field : List ℕ → Step
  to_item : ℕ → ℕ → Step

-- the step of a part of a path
abbrev pub step_of : PathItem → Step
step_of (i.Content key) = under_key (tree key)
step_of (i.Field name) = into_field name
step_of (i.Index index length) = to_item index length

-- the step that is lent
abbrev pub lent_step : StepRef → Step
lent_step (r.Key key) = under_key (tree key.now)
lent_step (r.Field name) = into_field (chars name.now)
lent_step (r.Item index length) = to_item index length

-- the field of that name, or a text key that is it
abbrev pub is_named : List ℕ → Step → Bool
is_named name (under_key key) = option_map_or (λ text. bytes_eq text name) (text_in (resolved key)) false
is_named name (into_field field) = bytes_eq field name
is_named name (to_item index length) = false

-- the item at that position, or a key that is the number
abbrev pub is_numbered : ℕ → Step → Bool
is_numbered number (under_key key) = option_map_or (λ n. n == number) (fitting_u64 (whole_number_in (resolved key))) false
is_numbered number (into_field field) = false
is_numbered number (to_item index length) = index == number

-- a bound below zero counts from the end
abbrev pub bound_at : ℤ → ℕ → ℕ
bound_at (pos n) length = n
bound_at (negsuc n) length = length - suc n

-- an item from the one bound up to the other
abbrev pub range_check : Option ℤ → Option ℤ → Step → Bool
range_check from to (to_item index length) =
    option_map_or (λ bound. nat_le (bound_at bound length) index) from true && option_map_or (λ bound. nat_lt index (bound_at bound length)) to true
range_check from to (under_key key) = false
range_check from to (into_field field) = false

-- the segment fits the step
abbrev pub fits_step : Segment → Step → Bool
fits_step (Key name) step = is_named name step
fits_step (Index number) step = is_numbered number step
fits_step (Range from to) step = range_check from to step
fits_step Wildcard step = true
fits_step DeepWildcard step = true

-- each segment fits its step, as far as both lists go
abbrev pub fit_each : List Segment → List Step → Bool
fit_each [] steps = true
fit_each (s ∷ ss) [] = true
fit_each (s ∷ ss) (step ∷ steps) = fits_step s step && fit_each ss steps

-- the last ones
abbrev pub last_of : {A : Type 0} → ℕ → List A → List A
last_of count xs = drop (length xs - count) xs

-- without a deep wildcard each segment fits its step, and there are as many
abbrev pub matches_whole : List Segment → List Step → Bool
matches_whole ss path = length ss == length path && fit_each ss path

-- with one, there are more steps than segments before it, which fit the first steps; and those after it fit the last
-- steps, as far as both go
abbrev pub matches_ends : List Segment → List Segment → List Step → Bool
matches_ends before after path =
    nat_lt (length before) (length path) && fit_each before path && (
    let count = min (length after) (length path) in fit_each (last_of count after) (last_of count path))

-- the segments match the path
abbrev pub segments_match : List Segment → List Step → Bool
segments_match ss path = option_map_or (λ at. matches_ends (take at ss) (drop (suc at) ss) path) (position is_deep ss) (matches_whole ss path)

-- one of the parts matches the path
abbrev pub path_match : Parts → List Step → Bool
path_match parts path = list_any (λ ss. segments_match ss path) parts
