-- The keys of a request and of its redactions, and what stands at them.
use Rattle.std.specs.Prelude.{◌≡◌, ◌≤◌, ◌||◌, ℕ, Bool, true, false, not, List, [], ◌∷◌, Option, None, Some, is_some, codes, count_by}
use Rattle.std.specs.List.{list_any, list_all}
use Rattle.std.specs.Str.{bytes_eq}
use Rattle.snap_content.specs.Access.{resolved, bool_in, items_in}
use Rattle.snap_content.specs.Tree.{Tree, Trees, TreePairs, no_pairs, pair}
use Rattle.snap_fields.specs.Fields.{is_key, last_in, tree_text, tree_line}
use Rattle.snap_run_requests.specs.declared.key.Key.{Key}
use Rattle.snap_run_requests.specs.declared.key.Key.TheVariants.{Module, File, Line, Name, Function, Suffix, Expr, Value, Redactions, Sort, At, Put, Duplicates}

-- how a key is written
abbrev pub name_of : Key → List ℕ
name_of Module = codes "module"
name_of File = codes "file"
name_of Line = codes "line"
name_of Name = codes "name"
name_of Function = codes "function"
name_of Suffix = codes "suffix"
name_of Expr = codes "expr"
name_of Value = codes "value"
name_of Redactions = codes "redactions"
name_of Sort = codes "sort"
name_of At = codes "at"
name_of Put = codes "put"
name_of Duplicates = codes "duplicates"

-- the keys of pairs, in their order
abbrev pub keys_in : TreePairs → List Tree
keys_in no_pairs = []
keys_in (pair key value more) = key ∷ keys_in more

-- what stands at a key: the value of the last pair with it
abbrev pub value_at : Key → TreePairs → Option Tree
value_at key pairs = last_in (name_of key) pairs

-- how often a key stands there
abbrev pub times : Key → TreePairs → ℕ
times key pairs = count_by (is_key (name_of key)) (keys_in pairs)

-- the tree is written as one of these keys
abbrev pub is_one_of : List Key → Tree → Bool
is_one_of keys written = list_any (λ key. is_key (name_of key) written) keys

-- the pairs have no other keys than these, and none of them twice
pub record IsKeyed (keys : List Key) (pairs : TreePairs) : Type 0 where
  pub known : list_all (is_one_of keys) (keys_in pairs) ≡ true
  pub once : (key : Key) → times key pairs ≤ 1

-- a map with keys: which they are, which of them it needs by what stands at the others, and what may stand at each
pub record Table : Type 0 where
  pub keys : List Key
  pub needs : TreePairs → Key → Bool
  pub takes : Key → Tree → Bool

-- the truth value that a tree is
abbrev pub truth_of : Tree → Option Bool
truth_of t = bool_in (resolved t)

-- the items of the list that a tree is
abbrev pub list_of : Tree → Option Trees
list_of t = items_in (resolved t)

-- a name stands there
abbrev pub has_name : TreePairs → Bool
has_name pairs = is_some (value_at Name pairs)

-- an assertion needs a place, an expression and a value, and a function where it has no name
abbrev pub assertion_needs : TreePairs → Key → Bool
assertion_needs pairs Module = true
assertion_needs pairs File = true
assertion_needs pairs Line = true
assertion_needs pairs Function = not (has_name pairs)
assertion_needs pairs Expr = true
assertion_needs pairs Value = true
assertion_needs pairs _ = false

-- texts, but for a line's number below 2^32, any value, a list of redactions and a truth value
abbrev pub assertion_takes : Key → Tree → Bool
assertion_takes Module value = is_some (tree_text value)
assertion_takes File value = is_some (tree_text value)
assertion_takes Line value = is_some (tree_line value)
assertion_takes Name value = is_some (tree_text value)
assertion_takes Function value = is_some (tree_text value)
assertion_takes Suffix value = is_some (tree_text value)
assertion_takes Expr value = is_some (tree_text value)
assertion_takes Redactions value = is_some (list_of value)
assertion_takes Sort value = is_some (truth_of value)
assertion_takes _ value = true

-- the keys of an assertion
abbrev pub assertion_table : Table
assertion_table = record {
  keys = Module ∷ File ∷ Line ∷ Name ∷ Function ∷ Suffix ∷ Expr ∷ Value ∷ Redactions ∷ Sort ∷ [];
  needs = assertion_needs;
  takes = assertion_takes;
}

-- the words that open and close a block in which duplicates are allowed
abbrev pub is_block_word : Option (List ℕ) → Bool
is_block_word None = false
is_block_word (Some word) = bytes_eq word (codes "begin") || bytes_eq word (codes "end")

abbrev pub block_needs : TreePairs → Key → Bool
block_needs pairs Duplicates = true
block_needs pairs _ = false

abbrev pub block_takes : Key → Tree → Bool
block_takes Duplicates value = is_block_word (tree_text value)
block_takes _ value = true

-- the one key of a request for a block
abbrev pub block_table : Table
block_table = record { keys = Duplicates ∷ []; needs = block_needs; takes = block_takes }

-- the pairs ask for a block: that key stands there
abbrev pub asks_for_block : TreePairs → Bool
asks_for_block pairs = is_some (value_at Duplicates pairs)

-- a redaction needs a selector; what it puts is told by one of the other two keys
abbrev pub redaction_needs : TreePairs → Key → Bool
redaction_needs pairs At = true
redaction_needs pairs _ = false

abbrev pub redaction_takes : Key → Tree → Bool
redaction_takes At value = is_some (tree_text value)
redaction_takes Sort value = is_some (truth_of value)
redaction_takes _ value = true

-- the keys of a redaction
abbrev pub redaction_table : Table
redaction_table = record { keys = At ∷ Put ∷ Sort ∷ []; needs = redaction_needs; takes = redaction_takes }
