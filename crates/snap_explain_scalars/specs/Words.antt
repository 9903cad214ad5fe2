-- Words that are texts of ours, and something else to others. Not told: `y` and `n`, which few take for truths.
use Rattle.std.specs.Prelude.{ℕ, List, [], ◌∷◌, Bool, false, ◌==◌, ◌||◌, Option, None, Some, if◌then◌else◌, codes}
use Rattle.std.specs.List.{list_any}
use Rattle.std.specs.Str.{bytes_eq}
use Rattle.snap_explain_scalars.specs.declared.otherwise.Otherwise.{Otherwise}
use Rattle.snap_explain_scalars.specs.declared.otherwise.Otherwise.TheVariants as o

-- truths of YAML 1.1
abbrev pub is_answer : List ℕ → Bool
is_answer w =
    bytes_eq w (codes "yes") || (bytes_eq w (codes "Yes") || (bytes_eq w (codes "YES") || (
    bytes_eq w (codes "no") || (bytes_eq w (codes "No") || bytes_eq w (codes "NO")))))

abbrev pub is_switch : List ℕ → Bool
is_switch w =
    bytes_eq w (codes "on") || (bytes_eq w (codes "On") || (bytes_eq w (codes "ON") || (
    bytes_eq w (codes "off") || (bytes_eq w (codes "Off") || bytes_eq w (codes "OFF")))))

-- truths of every other reader: ours knows `true` and `false` alone
abbrev pub is_true_or_false : List ℕ → Bool
is_true_or_false w = bytes_eq w (codes "True") || (bytes_eq w (codes "TRUE") || (bytes_eq w (codes "False") || bytes_eq w (codes "FALSE")))

-- null of every other reader: ours knows `null` and `~` alone
abbrev pub is_null : List ℕ → Bool
is_null w = bytes_eq w (codes "Null") || bytes_eq w (codes "NULL")

-- how others take such a word; `.NaN` is no number to them, and a text to ours, which knows `.nan` and `.NAN`
abbrev pub word_elsewhere : List ℕ → Option Otherwise
word_elsewhere w =
    if is_answer w || (is_switch w || is_true_or_false w) then Some o.Truth else (
    if is_null w then Some o.Null else (
    if bytes_eq w (codes ".NaN") then Some o.Number else (
    if bytes_eq w (codes "<<") then Some o.MergeKey else (
    if bytes_eq w (codes "=") then Some o.DefaultKey else None))))

-- one of their first characters
abbrev pub begins_word : List ℕ → Bool
begins_word [] = false
begins_word (c ∷ cs) = list_any (λ first. c == first) (codes "yYnNoOTF.<=")
