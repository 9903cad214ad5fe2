-- What the documents of a text are read as.
use Rattle.std.specs.Prelude.{◌≡◌, ◌≢◌, ℕ, List, [], ◌∷◌, Bool, true, false, None, Some, option_map, Result, Ok, Err}
use Rattle.std.specs.List.{list_any}
use Rattle.snap_content.specs.Plain.{Plain, content_of}
use Rattle.snap_content.specs.View.{tree}
use Rattle.snap_content.specs.declared.content.Content.{Content}
use Rattle.snap_scan_tokens.specs.Place.{before_nul}
use Rattle.snap_scan_tokens.specs.declared.info.ScanError.TheVariants.{OutOfMemory}
use Rattle.snap_scan.specs.Sound.{IsFounded}
use Rattle.snap_parse_events.specs.Nodes.{Node, stream_events}
use Rattle.snap_parse_events.specs.Streams.{IsStream}
use Rattle.snap_parse_events.specs.declared.event.Event.{Event}
use Rattle.snap_parse_events.specs.declared.event.Event.TheVariants as e
use Rattle.snap_parse.specs.Aliases.{has_alias}
use Rattle.snap_parse.specs.Documents.{document_value, scalar_value}
use Rattle.snap_emit.specs.PlainRead.{plain_read, has_number_text, is_number_first}
use Rattle.snap_emit.specs.declared.loaded.Loaded.{Loaded}
use Rattle.snap_emit.specs.declared.refusal.Refusal.{Refusal}
use Rattle.snap_emit.specs.declared.refusal.Refusal.TheVariants.{NoYaml, NotOneDocument, Alias, NoTree, Number}
use Rattle.snap_emit.specs.declared.reading.Header.{Header}

-- an alias stands in the document
abbrev pub is_aliased : Node → Bool
is_aliased node = has_alias (stream_events (node ∷ []))

-- a number that is kept as its text, since it is no whole number of 128 bits, stands among the events: as a scalar that is read so
abbrev pub is_kept_number : Event → Bool
is_kept_number (e.Scalar text style id tag) = has_number_text (scalar_value text style tag)
is_kept_number _ = false

-- whether a number that is kept as its text is among these events
abbrev pub is_kept_among : List Event → Bool
is_kept_among events = list_any is_kept_number events

-- what was made of a document: its tree, if it is one, whether a number comes first that is no whole number of 128 bits, and
-- whether an alias stands in it
pub record IsLoadedOf (node : Node) (loaded : Loaded) : Type 0 where
  pub content : option_map tree loaded.content ≡ option_map content_of (plain_read (document_value node))
  pub number : loaded.has_number_text ≡ is_number_first (document_value node)
  pub alias : loaded.has_alias ≡ is_aliased node

-- one document is read as this tree: no alias stands in it, and no number that is kept as its text
pub record IsTreeOf (node : Node) (made : Content) : Type 0 where
  pub no_alias : is_aliased node ≡ false
  pub plain : Plain
  pub read : plain_read (document_value node) ≡ Some plain
  pub no_number : has_number_text (document_value node) ≡ false
  pub tree_is : tree made ≡ content_of plain

-- one document is read as this header: aliases in it are left out, and it is told whether a number is kept as its text
pub record IsHeaderTreeOf (node : Node) (header : Header) : Type 0 where
  pub plain : Plain
  pub read : plain_read (document_value node) ≡ Some plain
  pub number : header.number_as_text ≡ has_number_text (document_value node)
  pub tree_is : tree header.content ≡ content_of plain

-- what holds of a document that stands alone
pub record IsOnly (P : Node → Type 0) (nodes : List Node) : Type 0 where
  pub node : Node
  pub alone : nodes ≡ node ∷ []
  pub holds : P node

-- there is a stream of events, of one document, of which it holds
pub record IsOfStream (P : Node → Type 0) : Type 0 where
  pub node : Node
  pub stream : IsStream (stream_events (node ∷ []))
  pub holds : P node

-- the reason holds of the text's documents: there is not one, an alias stands in it, or the first of what is no tree in it is a
-- number that is no whole number of 128 bits, or something else
abbrev pub IsReasonOf : List Node → Refusal → Type 0
IsReasonOf nodes (NoYaml error) = ⊥
IsReasonOf nodes NotOneDocument = (node : Node) → nodes ≢ node ∷ []
IsReasonOf nodes Alias = IsOnly (λ node. is_aliased node ≡ true) nodes
IsReasonOf nodes NoTree =
    IsOnly (λ node. (is_aliased node ≡ false) × ((plain_read (document_value node) ≡ None) × (is_number_first (document_value node) ≡ false))) nodes
IsReasonOf nodes Number = IsOnly (λ node. (is_aliased node ≡ false) × (is_number_first (document_value node) ≡ true)) nodes

-- the same of a header, which has no other reasons
abbrev pub IsHeaderReasonOf : List Node → Refusal → Type 0
IsHeaderReasonOf nodes (NoYaml error) = ⊥
IsHeaderReasonOf nodes NotOneDocument = (node : Node) → nodes ≢ node ∷ []
IsHeaderReasonOf nodes Alias = ⊥
IsHeaderReasonOf nodes NoTree = IsOnly (λ node. plain_read (document_value node) ≡ None) nodes
IsHeaderReasonOf nodes Number = ⊥

-- a text that is no YAML is refused for what its scanner or its parser found in it
abbrev pub IsReasonIn : List ℕ → Refusal → Type 0
IsReasonIn text (NoYaml error) = (error ≢ OutOfMemory) × IsFounded (before_nul text) error
IsReasonIn text NotOneDocument = Unit {0}
IsReasonIn text Alias = Unit {0}
IsReasonIn text NoTree = Unit {0}
IsReasonIn text Number = Unit {0}

-- a text has not one document
abbrev pub IsNoDocument : List Node → Refusal → Type 0
IsNoDocument nodes (NoYaml error) = ⊥
IsNoDocument nodes NotOneDocument = (node : Node) → nodes ≢ node ∷ []
IsNoDocument nodes Alias = ⊥
IsNoDocument nodes NoTree = ⊥
IsNoDocument nodes Number = ⊥

abbrev pub IsLoadedIn : List Node → Result Loaded Refusal → Type 0
IsLoadedIn nodes (Ok loaded) = IsOnly (λ node. IsLoadedOf node loaded) nodes
IsLoadedIn nodes (Err why) = IsNoDocument nodes why

-- documents are read as a tree where there is one of them, and it is that tree's; else for a reason that holds
abbrev pub IsTreeIn : List Node → Result Content Refusal → Type 0
IsTreeIn nodes (Ok made) = IsOnly (λ node. IsTreeOf node made) nodes
IsTreeIn nodes (Err why) = IsReasonOf nodes why

-- the same of a header, which may hold aliases, and numbers that are kept as texts
abbrev pub IsHeaderIn : List Node → Result Header Refusal → Type 0
IsHeaderIn nodes (Ok header) = IsOnly (λ node. IsHeaderTreeOf node header) nodes
IsHeaderIn nodes (Err why) = IsHeaderReasonOf nodes why

-- the tree of what was loaded, or the first reason against it: an alias, a number, what is no tree
abbrev pub IsStrict : Loaded → Result Content Refusal → Type 0
IsStrict loaded (Ok made) = (loaded.has_alias ≡ false) × ((loaded.has_number_text ≡ false) × (loaded.content ≡ Some made))
IsStrict loaded (Err (NoYaml error)) = ⊥
IsStrict loaded (Err NotOneDocument) = ⊥
IsStrict loaded (Err Alias) = loaded.has_alias ≡ true
IsStrict loaded (Err NoTree) = (loaded.has_alias ≡ false) × ((loaded.has_number_text ≡ false) × (loaded.content ≡ None))
IsStrict loaded (Err Number) = (loaded.has_alias ≡ false) × (loaded.has_number_text ≡ true)

-- the header of what was loaded
abbrev pub IsLenient : Loaded → Result Header Refusal → Type 0
IsLenient loaded (Ok header) = (loaded.content ≡ Some header.content) × (loaded.has_number_text ≡ header.number_as_text)
IsLenient loaded (Err (NoYaml error)) = ⊥
IsLenient loaded (Err NotOneDocument) = ⊥
IsLenient loaded (Err Alias) = ⊥
IsLenient loaded (Err NoTree) = loaded.content ≡ None
IsLenient loaded (Err Number) = ⊥
