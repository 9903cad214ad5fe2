-- The fields of pairs that a reader made.
use Rattle.snap_fields.proofs.Prelude.{◌≡◌, ℕ, ◌^◌, ◌<◌, pos, Bool, true, false, cond, nat_lt, List, Option, None, Some, refl, ap, ◌∙◌, lt-ltb, option_or, option_map, if◌then◌else◌, Plain, content_of, number_tree, Entries, entry, no_entries, pairs_made, Tree, i64, u64, u128, TreePairs, is_key, last_by, last_in, last_filled_in, tree_line, last_made, last_value, last_filled, line_value}
use Rattle.snap_content.specs.Plain as p

or_later : (more : Option Plain) (passes : Bool) (value : Plain)
    → option_or (option_map content_of more) (if passes then Some (content_of value) else None) ≡ option_map content_of (option_or more (if passes then Some value else None))
or_later (Some later) passes value = refl
or_later None true value = refl
or_later None false value = refl

pub by_made : (passes : Tree → Tree → Bool) (es : Entries) → last_by passes (pairs_made es) ≡ option_map content_of (last_made passes es)
by_made passes no_entries = refl
by_made passes (entry key value es) =
    ap (λ o. option_or o (if passes (content_of key) (content_of value) then Some (content_of value) else None)) (by_made passes es)
    ∙ or_later (last_made passes es) (passes (content_of key) (content_of value)) value

pub value-made : (name : List ℕ) (ps : TreePairs) (es : Entries) → ps ≡ pairs_made es → last_in name ps ≡ option_map content_of (last_value name es)
value-made name ps es made = ap (last_in name) made ∙ by_made (λ key value. is_key name key) es

pub filled-made : (name : List ℕ) (ps : TreePairs) (es : Entries) → ps ≡ pairs_made es → last_filled_in name ps ≡ option_map content_of (last_filled name es)
filled-made name ps es made = ap (last_filled_in name) made ∙ by_made _ es

-- each natural number that a reader makes is the line that it was made of, where it is below 2^32

natural : (small middle : Bool) (n : ℕ) → tree_line (cond small (i64 (pos n)) (cond middle (u64 n) (u128 n))) ≡ (if nat_lt n (2 ^ 32) then Some n else None)
natural true middle n = refl
natural false true n = refl
natural false false n = refl

pub line-number : (n : ℕ) → tree_line (number_tree (pos n)) ≡ (if nat_lt n (2 ^ 32) then Some n else None)
line-number n = natural (nat_lt n (2 ^ 63)) (nat_lt n (2 ^ 64)) n

pub short-line : (n : ℕ) → n < 2 ^ 32 → line_value (Some (p.int (pos n))) ≡ Some n
short-line n fits = line-number n ∙ ap (λ b. if b then Some n else None) (lt-ltb n (2 ^ 32) fits)
