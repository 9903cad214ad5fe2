-- Why a tree is no request, and why a document is not read as one.
use Rattle.std.specs.Prelude.{◌≡◌, ◌≤◌, ℕ, Bool, true, false, List, [], ◌∷◌, Option, None, Some, is_some, option_and_then, unwrap_or, slice_get}
use Rattle.std.specs.Str.{IsUtf8, IsValidUpTo, chars}
use Rattle.snap_content.specs.Plain.{Plain, content_of}
use Rattle.snap_content.specs.Tree.{Tree, Trees, no_trees, tree, TreePairs, map}
use Rattle.snap_select.specs.Faults.{IsFault}
use Rattle.snap_select.specs.Refusal.{column_of, kind_of}
use Rattle.snap_select.specs.declared.fault.SelectorParseError.{SelectorParseError}
use Rattle.snap_parse_events.specs.Nodes.{Node}
use Rattle.snap_parse.specs.TextNodes.{AreNodesOf}
use Rattle.snap_emit.specs.Parsed.{MayBeReadAs, IsUnspelled}
use Rattle.snap_emit.specs.Readings.{IsReasonIn, IsReasonOf}
use Rattle.snap_emit.specs.declared.refusal.Refusal.{Refusal}
use Rattle.snap_fields.specs.Fields.{text_at, tree_text}
use Rattle.snap_assert_place.specs.Place.{names_file}
use Rattle.snap_run_requests.specs.Keys.{Table, assertion_table, block_table, redaction_table, asks_for_block, name_of, keys_in, value_at, times, is_one_of, truth_of, list_of}
use Rattle.snap_run_requests.specs.declared.key.Key.{Key}
use Rattle.snap_run_requests.specs.declared.key.Key.TheVariants.{File, Redactions, Sort, At, Put}
use Rattle.snap_run_requests.specs.declared.fault.KeyFault.{KeyFault}
use Rattle.snap_run_requests.specs.declared.fault.KeyFault.TheVariants.{Missing, Twice, Unknown, WrongKind}
use Rattle.snap_run_requests.specs.declared.fault.RedactionFault.{RedactionFault}
use Rattle.snap_run_requests.specs.declared.fault.RedactionFault.TheVariants as redaction
use Rattle.snap_run_requests.specs.declared.redaction_items.Stop.{Stop}
use Rattle.snap_run_requests.specs.declared.redaction_items.Stop.TheVariants as stop
use Rattle.snap_run_requests.specs.declared.fault.Reason.{Reason}
use Rattle.snap_run_requests.specs.declared.fault.Reason.TheVariants as reason
use Rattle.snap_run_requests.specs.declared.fault.RequestError.{RequestError}
use Rattle.snap_run_requests.specs.declared.fault.RequestError.TheVariants as end

-- the key at this place is none of these
pub record IsUnknownAt (keys : List Key) (pairs : TreePairs) (place : ℕ) : Type 0 where
  pub key : Tree
  pub there : slice_get (keys_in pairs) place ≡ Some key
  pub other : is_one_of keys key ≡ false

-- the value at the key is none that the table takes there
pub record IsWrongAt (table : Table) (pairs : TreePairs) (key : Key) : Type 0 where
  pub value : Tree
  pub there : value_at key pairs ≡ Some value
  pub wrong : table.takes key value ≡ false

-- what is wrong with the keys of pairs: a key that is needed is not there, one stands twice, one is none of the table's, or the
-- value at one is not of its kind
abbrev pub IsKeyFault : Table → TreePairs → KeyFault → Type 0
IsKeyFault table pairs (Missing key) = (table.needs pairs key ≡ true) × (value_at key pairs ≡ None)
IsKeyFault table pairs (Twice key) = 2 ≤ times key pairs
IsKeyFault table pairs (Unknown place) = IsUnknownAt table.keys pairs place
IsKeyFault table pairs (WrongKind key) = IsWrongAt table pairs key

-- the table needs a text at the key
pub record NeedsText (table : Table) (pairs : TreePairs) (key : Key) : Type 0 where
  pub needed : table.needs pairs key ≡ true
  pub takes : (value : Tree) → table.takes key value ≡ is_some (tree_text value)

-- the table takes nothing but texts at the key
pub record TakesText (table : Table) (key : Key) : Type 0 where
  pub refuses : (value : Tree) → is_some (tree_text value) ≡ false → table.takes key value ≡ false

abbrev pub is_map : Tree → Bool
is_map (map pairs) = true
is_map _ = false

-- the tree is a map of pairs of which it holds
pub record IsMapOf (t : Tree) (P : TreePairs → Type 0) : Type 0 where
  pub pairs : TreePairs
  pub is : t ≡ map pairs
  pub holds : P pairs

-- the text at `at` is no selector: this is its first fault
pub record HasNoSelector (pairs : TreePairs) (error : SelectorParseError) : Type 0 where
  pub at : List ℕ
  pub there : text_at (name_of At) pairs ≡ Some at
  pub fault : IsFault at (kind_of error) (column_of error)

-- whether `true` stands there
abbrev pub is_true : Option Tree → Bool
is_true None = false
is_true (Some value) = unwrap_or (truth_of value) false

-- neither `put` nor `sort: true` stands there
pub record HasNothingPut (pairs : TreePairs) : Type 0 where
  pub put : value_at Put pairs ≡ None
  pub sort : is_true (value_at Sort pairs) ≡ false

-- both `put` and `sort` stand there
pub record HasBoth (pairs : TreePairs) : Type 0 where
  pub put : is_some (value_at Put pairs) ≡ true
  pub sort : is_some (value_at Sort pairs) ≡ true

-- why a tree is no redaction
abbrev pub IsRedactionFault : Tree → RedactionFault → Type 0
IsRedactionFault t redaction.NoMap = is_map t ≡ false
IsRedactionFault t (redaction.Key fault) = IsMapOf t (λ pairs. IsKeyFault redaction_table pairs fault)
IsRedactionFault t (redaction.NoSelector error) = IsMapOf t (λ pairs. HasNoSelector pairs error)
IsRedactionFault t redaction.NothingPut = IsMapOf t HasNothingPut
IsRedactionFault t redaction.PutAndSort = IsMapOf t HasBoth

-- memory was short, or that is why the tree is no redaction
abbrev pub IsRedactionEnd : Tree → Stop → Type 0
IsRedactionEnd t (stop.Fault fault) = IsRedactionFault t fault
IsRedactionEnd t stop.OutOfMemory = Unit {0}

-- the same of the text of a selector
abbrev pub IsSelectorFault : List ℕ → RedactionFault → Type 0
IsSelectorFault text (redaction.NoSelector error) = IsFault text (kind_of error) (column_of error)
IsSelectorFault text _ = ⊥

abbrev pub IsSelectorEnd : List ℕ → Stop → Type 0
IsSelectorEnd text (stop.Fault fault) = IsSelectorFault text fault
IsSelectorEnd text stop.OutOfMemory = Unit {0}

-- the end of a list at whose item at this place its reader stopped
abbrev pub end_at : ℕ → Stop → RequestError
end_at place (stop.Fault fault) = end.NoRequest (reason.NoRedaction place fault)
end_at place stop.OutOfMemory = end.OutOfMemory

-- the path at `file` is none of a file
pub record HasNoFile (pairs : TreePairs) : Type 0 where
  pub file : List ℕ
  pub there : text_at (name_of File) pairs ≡ Some file
  pub other : names_file file ≡ false

-- trees as a list
abbrev pub trees_in : Trees → List Tree
trees_in no_trees = []
trees_in (tree t more) = t ∷ trees_in more

-- the item at this place is no redaction
pub record IsNoneAt (items : Trees) (place : ℕ) (fault : RedactionFault) : Type 0 where
  pub item : Tree
  pub there : slice_get (trees_in items) place ≡ Some item
  pub holds : IsRedactionFault item fault

-- the same of the list at `redactions`
pub record HasNoRedaction (pairs : TreePairs) (place : ℕ) (fault : RedactionFault) : Type 0 where
  pub items : Trees
  pub there : option_and_then list_of (value_at Redactions pairs) ≡ Some items
  pub none : IsNoneAt items place fault

-- this is wrong with the keys of pairs
pub record HasKeyFault (table : Table) (pairs : TreePairs) (fault : KeyFault) : Type 0 where
  pub holds : IsKeyFault table pairs fault

-- why pairs are no assertion
abbrev pub IsAssertionFault : TreePairs → Reason → Type 0
IsAssertionFault pairs (reason.Key fault) = HasKeyFault assertion_table pairs fault
IsAssertionFault pairs reason.NoFile = HasNoFile pairs
IsAssertionFault pairs (reason.NoRedaction place fault) = HasNoRedaction pairs place fault
IsAssertionFault pairs _ = ⊥

-- memory was short, or that is why pairs are no assertion
abbrev pub IsAssertionEnd : TreePairs → RequestError → Type 0
IsAssertionEnd pairs (end.NoRequest why) = IsAssertionFault pairs why
IsAssertionEnd pairs end.OutOfMemory = Unit {0}

-- why pairs are no request for a block
abbrev pub IsBlockFault : TreePairs → Reason → Type 0
IsBlockFault pairs (reason.Key fault) = HasKeyFault block_table pairs fault
IsBlockFault pairs _ = ⊥

-- why pairs are no request, by whether they ask for a block
abbrev pub IsPairsFault : Bool → TreePairs → Reason → Type 0
IsPairsFault true pairs why = IsBlockFault pairs why
IsPairsFault false pairs why = IsAssertionFault pairs why

-- why a tree is no request
abbrev pub IsTreeFault : Tree → Reason → Type 0
IsTreeFault t (reason.NotUtf8 place) = ⊥
IsTreeFault t (reason.NoTree refusal) = ⊥
IsTreeFault t reason.NoMap = is_map t ≡ false
IsTreeFault t why = IsMapOf t (λ pairs. IsPairsFault (asks_for_block pairs) pairs why)

-- memory was short, or that is why the tree is no request
abbrev pub IsTreeEnd : Tree → RequestError → Type 0
IsTreeEnd t (end.NoRequest why) = IsTreeFault t why
IsTreeEnd t end.OutOfMemory = Unit {0}

-- the same of the items of a list of redactions
abbrev pub IsItemsFault : Trees → Reason → Type 0
IsItemsFault items (reason.NoRedaction place fault) = IsNoneAt items place fault
IsItemsFault items _ = ⊥

abbrev pub IsItemsEnd : Trees → RequestError → Type 0
IsItemsEnd items (end.NoRequest why) = IsItemsFault items why
IsItemsEnd items end.OutOfMemory = Unit {0}

-- the document is a text that is read as no tree: for a reason that holds of what is in it, and no tree is spelled by it
pub record IsUnread (document : List ℕ) (refusal : Refusal) : Type 0 where
  pub utf8 : IsUtf8 document
  pub shown : IsReasonIn (chars document) refusal
  pub holds : (nodes : List Node) → AreNodesOf (chars document) nodes → IsReasonOf nodes refusal
  pub unspelled : IsUnspelled (chars document)

-- the document may be read as a tree of which it holds: where it is a text of a tree, only as that one
pub record MayBeRead (document : List ℕ) (P : Tree → Type 0) : Type 0 where
  pub utf8 : IsUtf8 document
  pub plain : Plain
  pub read : MayBeReadAs (chars document) plain
  pub holds : P (content_of plain)

-- why a document is not read as a request: a byte at this place is the first that is not of UTF-8, its text is no tree, or its
-- tree is no request
abbrev pub IsReason : List ℕ → Reason → Type 0
IsReason document (reason.NotUtf8 place) = (IsUtf8 document → ⊥) × IsValidUpTo document place
IsReason document (reason.NoTree refusal) = IsUnread document refusal
IsReason document why = MayBeRead document (λ t. IsTreeFault t why)

-- memory is short only where the document is a text
abbrev pub IsRefused : List ℕ → RequestError → Type 0
IsRefused document (end.NoRequest why) = IsReason document why
IsRefused document end.OutOfMemory = IsUtf8 document
