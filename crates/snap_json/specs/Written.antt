-- What is written of a JSON text: all of it, or what stands before the first refused key; and what a call that failed leaves.
use Rattle.std.specs.Prelude.{ℕ, ◌+◌, List, [], ◌++◌, ◌≡◌, Bool, true, false, Result, Ok, Err, codes}
use Rattle.std.specs.Fmt.{signed_decimal}
use Rattle.snap_content.specs.Tree.{Tree}
use Rattle.snap_content.specs.Plain.{Plain, null, bool, int, text, list, dict, Plains, no_items, item, Entries, no_entries, entry}
use Rattle.snap_print.specs.Spell.{spell_bool}
use Rattle.snap_json.specs.Strings.{json_string}
use Rattle.snap_json.specs.Layout.{opening, closing, comma, colon}
use Rattle.snap_json.specs.JsonPlain.{json_plain}
use Rattle.snap_json.specs.declared.format.Format.{Format}
use Rattle.snap_json.specs.declared.error.JsonError.{JsonError}
use Rattle.snap_json.specs.declared.error.JsonError.TheVariants.{JsonKey}

-- a text, whole or stopped by a refused key
pub data Written : Type 0 where
  whole : List ℕ → Written
  stopped : List ℕ → Written

abbrev pub characters : Written → List ℕ
characters (whole s) = s
characters (stopped s) = s

abbrev pub is_stopped : Written → Bool
is_stopped (whole s) = false
is_stopped (stopped s) = true

-- one after the other; nothing stands after a refused key
abbrev pub behind : Written → Written → Written
behind (whole s) (whole u) = whole (s ++ u)
behind (whole s) (stopped u) = stopped (s ++ u)
behind (stopped s) next = stopped s

abbrev pub key_written : Plain → Written
key_written (text s) = whole (json_string s)
key_written other = stopped []

-- a key up to its value, and with it
abbrev pub member_written : Format → Plain → Written
member_written layout key = behind (key_written key) (whole (colon layout))

abbrev pub entry_written : Format → Plain → Written → Written
entry_written layout key value = behind (member_written layout key) value

abbrev mutual
  pub written : Format → ℕ → Plain → Written
  written layout k null = whole (codes "null")
  written layout k (bool b) = whole (spell_bool b)
  written layout k (int z) = whole (signed_decimal z)
  written layout k (text s) = whole (json_string s)
  written layout k (list no_items) = whole (codes "[]")
  written layout k (list (item p ps)) =
      behind (whole (opening layout (k + 2) 91))
      (behind (written layout (k + 2) p) (behind (items_written layout (k + 2) ps) (whole (closing layout k 93))))
  written layout k (dict no_entries) = whole (codes "{}")
  written layout k (dict (entry key p es)) =
      behind (whole (opening layout (k + 2) 123))
      (behind (entry_written layout key (written layout (k + 2) p)) (behind (entries_written layout (k + 2) es) (whole (closing layout k 125))))

  pub items_written : Format → ℕ → Plains → Written
  items_written layout k no_items = whole []
  items_written layout k (item p ps) = behind (behind (whole (comma layout k)) (written layout k p)) (items_written layout k ps)

  pub entries_written : Format → ℕ → Entries → Written
  entries_written layout k no_entries = whole []
  entries_written layout k (entry key p es) =
      behind (behind (whole (comma layout k)) (entry_written layout key (written layout k p))) (entries_written layout k es)

-- what stands before the first key that JSON refuses; the whole text where it refuses none
abbrev pub before_first_refusal : Format → Tree → List ℕ
before_first_refusal layout tree = characters (written layout 0 (json_plain tree))

-- all was added
pub record IsAdded (old new : List ℕ) (all : Written) : Type 0 where
  pub added : List ℕ
  pub is_whole : all ≡ whole added
  pub is_new : new ≡ old ++ added

-- an error left a beginning of what stands before the first refused key, and all of that where it is a refused key itself
pub record IsStopped (error : JsonError) (old new : List ℕ) (all : Written) : Type 0 where
  pub added : List ℕ
  pub rest : List ℕ
  pub is_full : characters all ≡ added ++ rest
  pub is_new : new ≡ old ++ added
  pub at_key : error ≡ JsonKey → all ≡ stopped added

-- what a call left: all of it was added, or an error stopped it
abbrev pub Wrote : Result (Unit {0}) JsonError → List ℕ → List ℕ → Written → Type 0
Wrote (Ok _) old new all = IsAdded old new all
Wrote (Err error) old new all = IsStopped error old new all
