-- Simple keys: held tokens that a `:` may still make a key.
use Rattle.std.specs.Prelude.{◌-◌, ◌==◌, ◌||◌, ◌&&◌, nat_lt, List, [], ◌∷◌, ◌++◌, length, take, map, slice_index_or, Bool, true, false, Option, None, Some, if◌then◌else◌}
use Rattle.std.specs.List.{list_any}
use Rattle.snap_scan_tokens.specs.Mark.{Mark}
use Rattle.snap_scan.specs.declared.keys.SimpleKey.{SimpleKey}

-- the possible key of the innermost flow level, and those of the levels outside, the outermost first
pub record Keys : Type 0 where
  pub key : Option SimpleKey
  pub outer : List (Option SimpleKey)

-- a place is on a later line than a key, or more than 1,024 characters after its first
abbrev pub is_past : Mark → SimpleKey → Bool
is_past mark key = nat_lt key.mark.line mark.line || nat_lt 1024 (mark.index - key.mark.index)

-- a possible key, where it still may be one at a place
abbrev pub fresh : Mark → Option SimpleKey → Option SimpleKey
fresh mark None = None
fresh mark (Some key) = if is_past mark key then None else Some key

-- a key that must be one, and can be no longer
abbrev pub is_overdue : Mark → Option SimpleKey → Bool
is_overdue mark None = false
is_overdue mark (Some key) = key.required && is_past mark key

-- a key that must be one
abbrev pub is_required : Option SimpleKey → Bool
is_required None = false
is_required (Some key) = key.required

abbrev pub names_first : Option SimpleKey → Bool
names_first None = false
names_first (Some key) = key.place == 0

-- the key once the first held token was given
abbrev pub lowered : Option SimpleKey → Option SimpleKey
lowered None = None
lowered (Some key) = Some (record key { place = key.place - 1 })

-- no possible key yet
abbrev pub no_keys : Keys
no_keys = record { key = None; outer = [] }

-- one list is open at least
abbrev pub has_levels : List (Option SimpleKey) → Bool
has_levels [] = false
has_levels (k ∷ ks) = true

-- some key is past that must be one
abbrev pub any_overdue : Mark → Keys → Bool
any_overdue mark ks = is_overdue mark ks.key || list_any (is_overdue mark) ks.outer

-- the keys without those that are past
abbrev pub still_fresh : Mark → Keys → Keys
still_fresh mark ks = record { key = fresh mark ks.key; outer = map (fresh mark) ks.outer }

-- some key is the first held token
abbrev pub any_names_first : Keys → Bool
any_names_first ks = names_first ks.key || list_any names_first ks.outer

-- each key once the first held token was given
abbrev pub all_lowered : Keys → Keys
all_lowered ks = record { key = lowered ks.key; outer = map lowered ks.outer }

-- a flow level more, where no key is possible yet
abbrev pub deeper : Keys → Keys
deeper ks = record { key = None; outer = ks.outer ++ ks.key ∷ [] }

-- a flow level less; outside all of them the keys stay
abbrev pub shallower : Keys → Keys
shallower ks = record {
  key = if has_levels ks.outer then slice_index_or ks.outer (length ks.outer - 1) None else ks.key;
  outer = take (length ks.outer - 1) ks.outer;
}
