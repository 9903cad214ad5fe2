-- Requests, and the documents that spell them.
use Rattle.std.specs.Prelude.{◌≡◌, ◌||◌, ℕ, Bool, true, false, List, [], ◌∷◌, Option, None, Some, is_some, option_map, codes}
use Rattle.std.specs.Str.{IsUtf8, chars}
use Rattle.snap_content.specs.Plain.{Plain, content_of}
use Rattle.snap_content.specs.Tree.{Tree, Trees, no_trees, tree, TreePairs, map}
use Rattle.snap_select.specs.Grammar.{IsSelector}
use Rattle.snap_select.specs.InOrder.{in_order}
use Rattle.snap_select.specs.Parts.{Parts}
use Rattle.snap_print.specs.Readable.{IsWithin}
use Rattle.snap_emit.specs.Parsed.{MayBeReadAs}
use Rattle.snap_emit.specs.Spelled.{IsTextOf}
use Rattle.snap_fields.specs.Fields.{text_at, line_at, tree_text}
use Rattle.snap_assert_place.specs.Place.{names_file}
use Rattle.snap_assert_settings.specs.Replaced.{ReplacementView}
use Rattle.snap_run_requests.specs.Keys.{IsKeyed, assertion_table, block_table, redaction_table, asks_for_block, has_name, name_of, value_at, truth_of, list_of}
use Rattle.snap_run_requests.specs.declared.key.Key.TheVariants.{Module, File, Line, Name, Function, Suffix, Expr, Value, Redactions, Sort, At, Put, Duplicates}

-- an assertion: where it stands, its name where one is given, its function and suffix, its expression, the tree, what is
-- redacted, and whether it is sorted
pub record AssertionView : Type 0 where
  pub module_name : List ℕ
  pub file : List ℕ
  pub line : ℕ
  pub name : Option (List ℕ)
  pub function : List ℕ
  pub suffix : List ℕ
  pub expr : List ℕ
  pub value : Tree
  pub redactions : List ReplacementView
  pub sort : Bool

-- a request: an assertion, or that a block in which duplicates are allowed begins or ends
pub data RequestView : Type 0 where
  asserts : AssertionView → RequestView
  begins : RequestView
  ends : RequestView

-- what is put where `true` stands at `sort`: the value with its list in order
abbrev pub sorted_if : Option Bool → Option (Tree → Tree)
sorted_if (Some true) = Some in_order
sorted_if _ = None

-- what a redaction puts in place of a value: the tree at `put`, or, where `sort` is true, the value with its list in order
abbrev pub put_by : Option Tree → Option Tree → Option (Tree → Tree)
put_by (Some put) None = Some (λ _. put)
put_by None (Some sort) = sorted_if (truth_of sort)
put_by _ _ = None

-- the text at `at` is a selector of these parts
pub record SelectsAt (pairs : TreePairs) (parts : Parts) : Type 0 where
  pub at : List ℕ
  pub there : text_at (name_of At) pairs ≡ Some at
  pub selects : IsSelector at parts

-- the tree is a map with the keys of a redaction: its selector, and what is put in place of what that hits
pub record IsRedaction (t : Tree) (redaction : ReplacementView) : Type 0 where
  pub pairs : TreePairs
  pub is : t ≡ map pairs
  pub keyed : IsKeyed redaction_table.keys pairs
  pub selector : SelectsAt pairs redaction.parts
  pub puts : put_by (value_at Put pairs) (value_at Sort pairs) ≡ Some redaction.put

-- as many redactions as trees, each one that tree's
abbrev pub AreRedactions : Trees → List ReplacementView → Type 0
AreRedactions no_trees [] = Unit {0}
AreRedactions no_trees (r ∷ rs) = ⊥
AreRedactions (tree t ts) [] = ⊥
AreRedactions (tree t ts) (r ∷ rs) = IsRedaction t r × AreRedactions ts rs

-- what stands at `redactions` is the list of these
pub record IsListOf (value : Tree) (redactions : List ReplacementView) : Type 0 where
  pub items : Trees
  pub is : list_of value ≡ Some items
  pub each : AreRedactions items redactions

-- the redactions of a request: none where the key is not there
abbrev pub AreRedactionsAt : Option Tree → List ReplacementView → Type 0
AreRedactionsAt None redactions = redactions ≡ []
AreRedactionsAt (Some value) redactions = IsListOf value redactions

-- whether the maps of the value are sorted: not where the key is not there
abbrev pub sorted_by : Option Tree → Option Bool
sorted_by None = Some false
sorted_by (Some value) = truth_of value

-- the text at a key that may be missing
abbrev pub text_if : Option Tree → Option (Option (List ℕ))
text_if None = Some None
text_if (Some value) = option_map Some (tree_text value)

-- the same, where a text that is missing is empty
abbrev pub text_or_empty : Option Tree → Option (List ℕ)
text_or_empty None = Some []
text_or_empty (Some value) = tree_text value

-- the tree is a map with the keys of an assertion, at which its parts stand, a name or a function among them; its file is the
-- path of one
pub record IsAssertion (t : Tree) (assertion : AssertionView) : Type 0 where
  pub pairs : TreePairs
  pub is : t ≡ map pairs
  pub no_block : asks_for_block pairs ≡ false
  pub keyed : IsKeyed assertion_table.keys pairs
  pub module_name : text_at (name_of Module) pairs ≡ Some assertion.module_name
  pub file : text_at (name_of File) pairs ≡ Some assertion.file
  pub line : line_at (name_of Line) pairs ≡ Some assertion.line
  pub name : text_if (value_at Name pairs) ≡ Some assertion.name
  pub function : text_or_empty (value_at Function pairs) ≡ Some assertion.function
  pub called : has_name pairs || is_some (value_at Function pairs) ≡ true
  pub suffix : text_or_empty (value_at Suffix pairs) ≡ Some assertion.suffix
  pub expr : text_at (name_of Expr) pairs ≡ Some assertion.expr
  pub value : value_at Value pairs ≡ Some assertion.value
  pub redactions : AreRedactionsAt (value_at Redactions pairs) assertion.redactions
  pub sort : sorted_by (value_at Sort pairs) ≡ Some assertion.sort
  pub of_file : names_file assertion.file ≡ true

-- the tree is a map of one pair, at whose key this word stands
pub record IsBlock (t : Tree) (word : List ℕ) : Type 0 where
  pub pairs : TreePairs
  pub is : t ≡ map pairs
  pub keyed : IsKeyed block_table.keys pairs
  pub there : text_at (name_of Duplicates) pairs ≡ Some word

-- the tree is a request
abbrev pub IsRequest : Tree → RequestView → Type 0
IsRequest t (asserts assertion) = IsAssertion t assertion
IsRequest t begins = IsBlock t (codes "begin")
IsRequest t ends = IsBlock t (codes "end")

-- the document is a text of a request: it is printed of its tree, or spells it
pub record Spells (document : List ℕ) (request : RequestView) : Type 0 where
  pub utf8 : IsUtf8 document
  pub tree : Plain
  pub within : IsWithin tree
  pub text : IsTextOf (chars document) tree
  pub request_is : IsRequest (content_of tree) request

-- a document may be read as a tree that is this request: where it is a text of a tree, only as that one
pub record ReadsAs (document : List ℕ) (request : RequestView) : Type 0 where
  pub utf8 : IsUtf8 document
  pub tree : Plain
  pub read : MayBeReadAs (chars document) tree
  pub request_is : IsRequest (content_of tree) request

-- as many requests as documents, each read of its document
abbrev pub Reads : List (List ℕ) → List RequestView → Type 0
Reads [] [] = Unit {0}
Reads [] (r ∷ rs) = ⊥
Reads (d ∷ ds) [] = ⊥
Reads (d ∷ ds) (r ∷ rs) = ReadsAs d r × Reads ds rs
