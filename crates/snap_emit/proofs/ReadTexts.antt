-- What the documents of a text are read as.
use Rattle.snap_emit.proofs.Prelude.{◌≡◌, ℕ, Bool, true, false, List, [], ◌∷◌, map, Option, Some, None, option_map, Result, Ok, Err, refl, sym, ap, subst, ◌∙◌, IfOk, IfErr, IfOk-weaker, IsOkAnd, Plain, plain, content_of, IsWithin, tree, Content, read_value, plain_read, has_number_text, is_number_first}
use Rattle.std.proofs.Common.{inl, inr}
use Rattle.std.specs.Prelude.{◌≢◌}
use Rattle.snap_scan_tokens.specs.Place.{before_nul}
use Rattle.snap_scan_tokens.specs.declared.info.ScanError.{ScanError}
use Rattle.snap_scan_tokens.specs.declared.info.ScanError.TheVariants as c
use Rattle.snap_scan.specs.Sound.{IsFounded}
use Rattle.snap_parse_events.specs.Nodes.{Node, stream_events}
use Rattle.snap_parse_events.specs.Streams.{IsStream}
use Rattle.snap_parse_laws.proofs.FreeLayouts.{free-is-laid}
use Rattle.snap_parse_laws.specs.FreeLayouts.{IsFree}
use Rattle.snap_parse_laws.specs.LayoutTexts.{document_text}
use Rattle.snap_parse_laws.specs.Layouts.{Document}
use Rattle.snap_parse_laws_json.specs.Bounded.{IsJsonOf}
use Rattle.snap_yaml.specs.Value.{Value}
use Rattle.snap_parse.specs.Aliases.{has_alias}
use Rattle.snap_parse.specs.Documents.{document_value}
use Rattle.snap_parse.specs.LaidValues.{layout_value}
use Rattle.snap_parse.specs.Loaded.{AreLoadedOf, AreValuesOf}
use Rattle.snap_parse.specs.TextNodes.{AreNodesOf}
use Rattle.snap_parse.proofs.OneText.{HasValue, printed-value, json-value, laid-one-value}
use Rattle.snap_emit.specs.LayoutTrees.{layout_plain, layout_keeps}
use Rattle.snap_emit.specs.Built.{IsOneOf, IsLoadedFrom, HasBuilt, HoldsLoaded}
use Rattle.snap_emit.specs.declared.builder.Builder.{Builder}
use Rattle.snap_parse.proofs.Folds.{stream-steps}
use Rattle.snap_parse.specs.Steps.{start, steps}
use Rattle.snap_parse_events.proofs.WholeStreams.{whole-streams}
use Rattle.snap_parse_events.specs.declared.event.Event.{Event}
use Rattle.snap_content.specs.declared.memory.OutOfMemory as m
use Rattle.snap_emit.specs.Parsed.{IsUnspelled, RefusalEnd, IsErrorOf, IsRefusalIn}
use Rattle.snap_emit.specs.Readings.{is_aliased, IsLoadedOf, IsLoadedIn, IsTreeOf, IsHeaderTreeOf, IsOnly, IsOfStream, IsReasonOf, IsHeaderReasonOf, IsReasonIn, IsNoDocument, IsTreeIn, IsHeaderIn, IsStrict, IsLenient}
use Rattle.snap_emit.specs.Spelled.{SpellsHeader, IsPrintedOf, IsTextOf, IsHeaderOf}
use Rattle.snap_content.specs.declared.error.Error.{Error}
use Rattle.snap_content.specs.declared.error.Error.TheVariants.{FailedParsingYaml, UnexpectedDataType, MissingField, FileIo, FloatText, JsonKey, NotText, NoFile, OutOfMemory}
use Rattle.snap_emit.specs.declared.loaded.Loaded.{Loaded}
use Rattle.snap_emit.specs.declared.reading.Header.{Header}
use Rattle.snap_emit.specs.declared.refusal.Refusal.{Refusal}
use Rattle.snap_emit.specs.declared.refusal.Refusal.TheVariants.{NoYaml, NotOneDocument, Alias, NoTree, Number}
use Rattle.snap_emit.proofs.FirstNumbers.{numbers-first}
use Rattle.snap_emit.proofs.LaidTrees.{Reads, layout-reads}
use Rattle.snap_emit.proofs.ReadBack.{read-back, no-number-text}
use Rattle.snap_emit.proofs.ShortNumbers.{document-within, made-within}

-- the text is one document without an alias, which is read as this tree
pub record Found (text : List ℕ) (t : Plain) (keeps : Bool) : Type 0 where
  pub node : Node
  pub nodes : AreNodesOf text (node ∷ [])
  pub no_alias : is_aliased node ≡ false
  pub plainly : plain_read (document_value node) ≡ Some t
  pub numbers : has_number_text (document_value node) ≡ keeps

found : (text : List ℕ) (value : Value) (t : Plain) (keeps : Bool) → HasValue text value → Reads value t keeps → Found text t keeps
found text value t keeps has reads = record {
  node = has.node;
  nodes = has.nodes;
  no_alias = has.no_alias;
  plainly = ap plain_read has.value_is ∙ reads.plainly;
  numbers = ap has_number_text has.value_is ∙ reads.numbers;
}

plain-reads : (t : Plain) → IsWithin t → Reads (read_value t) t false
plain-reads t within = record { plainly = read-back t within; numbers = no-number-text t within }

pub printed-found : (text : List ℕ) (t : Plain) → IsWithin t → IsPrintedOf text t → Found text t false
printed-found text t within is = found text (read_value t) t false (printed-value is.blocks t text within is.text_is) (plain-reads t within)

pub json-found : (text : List ℕ) (t : Plain) → IsWithin t → IsJsonOf t text → Found text t false
json-found text t within is = found text (read_value t) t false (json-value t text within is) (plain-reads t within)

pub laid-found : (text : List ℕ) (d : Document) → IsFree d → text ≡ document_text d → Found text (layout_plain d.tree) (layout_keeps d.tree)
laid-found text d free is =
    found text (layout_value d.tree) (layout_plain d.tree) (layout_keeps d.tree) (laid-one-value d text (free-is-laid d free) is) (layout-reads d.tree)

pub text-found : (text : List ℕ) (t : Plain) → IsWithin t → IsTextOf text t → Found text t false
text-found text t within (inl is) = printed-found text t within is
text-found text t within (inr s) =
    let P : Plain → Type 0 = λ x. Found text x (layout_keeps s.header.layout.tree) in
    let Q : Bool → Type 0 = λ b. Found text t b in
    subst Q s.no_number (subst P s.header.tree_is (laid-found text s.header.layout s.header.free s.header.text_is))

pub header-found : (text : List ℕ) (t : Plain) → IsWithin t → IsHeaderOf text t → (keeps : Bool) × Found text t keeps
header-found text t within (inl is) = (false, printed-found text t within is)
header-found text t within (inr s) =
    let P : Plain → Type 0 = λ x. Found text x (layout_keeps s.layout.tree) in
    (layout_keeps s.layout.tree, subst P s.tree_is (laid-found text s.layout s.free s.text_is))

clash : (b : Bool) → b ≡ true → b ≡ false → ⊥
clash b h k = let both = sym h ∙ k in cc

one-same : (a b : Node) → ◌≡◌ {A = List Node} (a ∷ []) (b ∷ []) → a ≡ b
one-same a b same = cc

some-same : (a b : Plain) → Some a ≡ Some b → a ≡ b
some-same a b same = cc

-- what a document is read as is what its text is known to be of
read-same : (n m : Node) (s t : Plain) → n ≡ m → plain_read (document_value m) ≡ Some s → plain_read (document_value n) ≡ Some t → s ≡ t
read-same n m s t same one other =
    let f : Node → Option Plain = λ x. plain_read (document_value x) in some-same s t (sym one ∙ ap f (sym same) ∙ other)

none-read : (n m : Node) (t : Plain) → n ≡ m → plain_read (document_value m) ≡ None → plain_read (document_value n) ≡ Some t → ⊥
none-read n m t same one other =
    let f : Node → Option Plain = λ x. plain_read (document_value x) in let both : None ≡ Some t = sym one ∙ ap f (sym same) ∙ other in cc

-- so a reading of its documents returns that tree
pub tree-in : (text : List ℕ) (t : Plain) (r : Result Content Refusal) (f : Found text t false) → IsTreeIn (f.node ∷ []) r → IsOkAnd r (λ made. tree made ≡ content_of t)
tree-in text t (Ok made) f h =
    let same = one-same f.node h.node h.alone in h.holds.tree_is ∙ ap content_of (read-same f.node h.node h.holds.plain t same h.holds.read f.plainly)
tree-in text t (Err (NoYaml fault)) f h = absurd h
tree-in text t (Err NotOneDocument) f h = absurd (h f.node refl)
tree-in text t (Err Alias) f h = absurd (clash (is_aliased f.node) (ap is_aliased (one-same f.node h.node h.alone) ∙ h.holds) f.no_alias)
tree-in text t (Err NoTree) f h = absurd (none-read f.node h.node t (one-same f.node h.node h.alone) h.holds.1.0 f.plainly)
tree-in text t (Err Number) f h =
    let first : Node → Bool = λ x. is_number_first (document_value x) in
    absurd (clash (first f.node) (ap first (one-same f.node h.node h.alone) ∙ h.holds.1) (numbers-first (document_value f.node) t f.plainly ∙ f.numbers))

-- and the same of a header
pub header-in : (text : List ℕ) (t : Plain) (keeps : Bool) (r : Result Header Refusal) (f : Found text t keeps) → IsHeaderIn (f.node ∷ []) r
    → IsOkAnd r (λ header. (tree header.content ≡ content_of t) × (header.number_as_text ≡ keeps))
header-in text t keeps (Ok header) f h =
    let same = one-same f.node h.node h.alone in
    let number : Node → Bool = λ x. has_number_text (document_value x) in
    (h.holds.tree_is ∙ ap content_of (read-same f.node h.node h.holds.plain t same h.holds.read f.plainly), h.holds.number ∙ ap number (sym same) ∙ f.numbers)
header-in text t keeps (Err (NoYaml fault)) f h = absurd h
header-in text t keeps (Err NotOneDocument) f h = absurd (h f.node refl)
header-in text t keeps (Err Alias) f h = absurd h
header-in text t keeps (Err NoTree) f h = absurd (none-read f.node h.node t (one-same f.node h.node h.alone) h.holds f.plainly)
header-in text t keeps (Err Number) f h = absurd h

-- one document of several is none, and one alone is that of the values
one-in : (nodes : List Node) (values : List Value) (aliased : Bool) (loaded : Loaded) → AreValuesOf nodes values aliased → IsOneOf values aliased loaded
    → IsOnly (λ node. IsLoadedOf node loaded) nodes
one-in [] values aliased loaded h is = let none : [] ≡ is.value ∷ [] = sym h.are ∙ is.alone in absurd (cc)
one-in (n ∷ []) values aliased loaded h is =
    let first : document_value n ∷ [] ≡ is.value ∷ [] = sym h.are ∙ is.alone in
    let same : is.value ≡ document_value n = cc in
    record {
      node = n;
      alone = refl;
      holds = record {
        content = is.content ∙ ap (λ x. option_map content_of (plain_read x)) same;
        number = is.number ∙ ap is_number_first same;
        alias = is.alias ∙ h.told;
      };
    }
one-in (n ∷ m ∷ ns) values aliased loaded h is =
    let more : document_value n ∷ document_value m ∷ map document_value ns ≡ is.value ∷ [] = sym h.are ∙ is.alone in absurd (cc)

-- what was loaded is the one document's, or there is not one
pub loaded-in : (nodes : List Node) (values : List Value) (aliased : Bool) (r : Result Loaded Refusal) → AreValuesOf nodes values aliased
    → IsLoadedFrom values aliased r → IsLoadedIn nodes r
loaded-in nodes values aliased (Ok loaded) h is = one-in nodes values aliased loaded h is
loaded-in nodes values aliased (Err (NoYaml fault)) h is = is
loaded-in nodes values aliased (Err NotOneDocument) h is = λ node same. is (document_value node) (h.are ∙ ap (map document_value) same)
loaded-in nodes values aliased (Err Alias) h is = is
loaded-in nodes values aliased (Err NoTree) h is = is
loaded-in nodes values aliased (Err Number) h is = is

-- the same of a whole stream of events
pub loaded-of-stream : (values : List Value) (aliased : Bool) (r : Result Loaded Refusal) → AreLoadedOf values aliased → IsLoadedFrom values aliased r
    → IfOk r (λ loaded. IsOfStream (λ node. IsLoadedOf node loaded))
loaded-of-stream values aliased (Err why) h is = tt
loaded-of-stream values aliased (Ok loaded) h is =
    let nodes : List Node = h.loaded.nodes in
    let values_are : AreValuesOf nodes values aliased = record { are = h.loaded.are; told = h.told ∙ ap has_alias h.loaded.of_nodes } in
    let one = one-in nodes values aliased loaded values_are is in
    record { node = one.node; stream = subst IsStream (h.loaded.of_nodes ∙ ap stream_events one.alone) h.loaded.stream; holds = one.holds }

-- a builder that got the events of these documents, and one that got a whole stream
pub built-in : (b : Builder) (r : Result (Result Loaded Refusal) m.OutOfMemory) (nodes : List Node) → HasBuilt b (stream_events nodes)
    → IfOk r (λ read. HoldsLoaded b read) → IfOk r (λ read. IsLoadedIn nodes read)
built-in b r nodes told h =
    let events = stream_events nodes in
    IfOk-weaker r (λ read. HoldsLoaded b read) (λ read. IsLoadedIn nodes read)
    (λ read holds. loaded-in nodes (steps events start).documents (has_alias events) read (record { are = stream-steps nodes; told = refl }) (holds events told)) h

pub built-of-stream : (b : Builder) (r : Result (Result Loaded Refusal) m.OutOfMemory) (events : List Event) → IsStream events → HasBuilt b events
    → IfOk r (λ read. HoldsLoaded b read) → IfOk r (λ read. IfOk read (λ loaded. IsOfStream (λ node. IsLoadedOf node loaded)))
built-of-stream b r events stream told h =
    let d = whole-streams events stream in
    let f : List Event → List Value = λ es. (steps es start).documents in
    IfOk-weaker r (λ read. HoldsLoaded b read) (λ read. IfOk read (λ loaded. IsOfStream (λ node. IsLoadedOf node loaded)))
    (λ read holds. loaded-of-stream (steps events start).documents (has_alias events) read
    (record { loaded = record { events = events; stream = stream; nodes = d.0; of_nodes = d.1; are = ap f d.1 ∙ stream-steps d.0 }; told = refl })
    (holds events told)) h

loaded-cause : (text : List ℕ) (values : List Value) (aliased : Bool) (r : Result Loaded Refusal) → IsLoadedFrom values aliased r
    → IfErr r (λ why. IsReasonIn text why)
loaded-cause text values aliased (Ok loaded) is = tt
loaded-cause text values aliased (Err (NoYaml fault)) is = absurd is
loaded-cause text values aliased (Err NotOneDocument) is = tt
loaded-cause text values aliased (Err Alias) is = tt
loaded-cause text values aliased (Err NoTree) is = tt
loaded-cause text values aliased (Err Number) is = tt

pub built-cause : (text : List ℕ) (b : Builder) (r : Result (Result Loaded Refusal) m.OutOfMemory) (events : List Event) → HasBuilt b events
    → IfOk r (λ read. HoldsLoaded b read) → IfOk r (λ read. IfErr read (λ why. IsReasonIn text why))
built-cause text b r events told h =
    IfOk-weaker r (λ read. HoldsLoaded b read) (λ read. IfErr read (λ why. IsReasonIn text why))
    (λ read holds. loaded-cause text (steps events start).documents (has_alias events) read (holds events told)) h

-- what was loaded is a tree
record ReadAs (o : Option Plain) (made : Content) : Type 0 where
  plain : Plain
  is : o ≡ Some plain
  tree_is : tree made ≡ content_of plain

read-as : (o : Option Plain) (made : Content) → Some (tree made) ≡ option_map content_of o → ReadAs o made
read-as None made is = absurd (cc)
read-as (Some p) made is = record { plain = p; is = refl; tree_is = cc }

read-of : (node : Node) (loaded : Loaded) (made : Content) → IsLoadedOf node loaded → loaded.content ≡ Some made → ReadAs (plain_read (document_value node)) made
read-of node loaded made h is = read-as (plain_read (document_value node)) made (ap (option_map tree) (sym is) ∙ h.content)

none-of : (o : Option Plain) → None ≡ option_map content_of o → o ≡ None
none-of None is = refl
none-of (Some p) is = absurd (cc)

unread : (node : Node) (loaded : Loaded) → IsLoadedOf node loaded → loaded.content ≡ None → plain_read (document_value node) ≡ None
unread node loaded h is = none-of (plain_read (document_value node)) (ap (option_map tree) (sym is) ∙ h.content)

strict-tree : (node : Node) (loaded : Loaded) (made : Content) → IsLoadedOf node loaded → IsStrict loaded (Ok made) → IsTreeOf node made
strict-tree node loaded made h k =
    let r = read-of node loaded made h k.1.1 in
    record {
      no_alias = sym h.alias ∙ k.0;
      plain = r.plain;
      read = r.is;
      no_number = sym (numbers-first (document_value node) r.plain r.is) ∙ sym h.number ∙ k.1.0;
      tree_is = r.tree_is;
    }

pub strict-in : (nodes : List Node) (loaded : Loaded) (r : Result Content Refusal) → IsOnly (λ node. IsLoadedOf node loaded) nodes → IsStrict loaded r → IsTreeIn nodes r
strict-in nodes loaded (Ok made) h k = record { node = h.node; alone = h.alone; holds = strict-tree h.node loaded made h.holds k }
strict-in nodes loaded (Err (NoYaml fault)) h k = absurd k
strict-in nodes loaded (Err NotOneDocument) h k = absurd k
strict-in nodes loaded (Err Alias) h k = record { node = h.node; alone = h.alone; holds = sym h.holds.alias ∙ k }
strict-in nodes loaded (Err NoTree) h k = record {
  node = h.node;
  alone = h.alone;
  holds = (sym h.holds.alias ∙ k.0, (unread h.node loaded h.holds k.1.1, sym h.holds.number ∙ k.1.0));
}
strict-in nodes loaded (Err Number) h k = record { node = h.node; alone = h.alone; holds = (sym h.holds.alias ∙ k.0, sym h.holds.number ∙ k.1) }

pub strict-of-stream : (loaded : Loaded) (r : Result Content Refusal) → IsOfStream (λ node. IsLoadedOf node loaded) → IsStrict loaded r
    → IfOk r (λ made. IsOfStream (λ node. IsTreeOf node made))
strict-of-stream loaded (Ok made) h k = record { node = h.node; stream = h.stream; holds = strict-tree h.node loaded made h.holds k }
strict-of-stream loaded (Err why) h k = tt

pub strict-cause : (text : List ℕ) (loaded : Loaded) (r : Result Content Refusal) → IsStrict loaded r → IfErr r (λ why. IsReasonIn text why)
strict-cause text loaded (Ok made) k = tt
strict-cause text loaded (Err (NoYaml fault)) k = absurd k
strict-cause text loaded (Err NotOneDocument) k = tt
strict-cause text loaded (Err Alias) k = tt
strict-cause text loaded (Err NoTree) k = tt
strict-cause text loaded (Err Number) k = tt

lenient-tree : (node : Node) (loaded : Loaded) (header : Header) → IsLoadedOf node loaded → IsLenient loaded (Ok header) → IsHeaderTreeOf node header
lenient-tree node loaded header h k =
    let r = read-of node loaded header.content h k.0 in
    record {
      plain = r.plain;
      read = r.is;
      number = sym k.1 ∙ h.number ∙ numbers-first (document_value node) r.plain r.is;
      tree_is = r.tree_is;
    }

pub lenient-in : (nodes : List Node) (loaded : Loaded) (r : Result Header Refusal) → IsOnly (λ node. IsLoadedOf node loaded) nodes → IsLenient loaded r → IsHeaderIn nodes r
lenient-in nodes loaded (Ok header) h k = record { node = h.node; alone = h.alone; holds = lenient-tree h.node loaded header h.holds k }
lenient-in nodes loaded (Err (NoYaml fault)) h k = absurd k
lenient-in nodes loaded (Err NotOneDocument) h k = absurd k
lenient-in nodes loaded (Err Alias) h k = absurd k
lenient-in nodes loaded (Err NoTree) h k = record { node = h.node; alone = h.alone; holds = unread h.node loaded h.holds k }
lenient-in nodes loaded (Err Number) h k = absurd k

pub lenient-of-stream : (loaded : Loaded) (r : Result Header Refusal) → IsOfStream (λ node. IsLoadedOf node loaded) → IsLenient loaded r
    → IfOk r (λ header. IsOfStream (λ node. IsHeaderTreeOf node header))
lenient-of-stream loaded (Ok header) h k = record { node = h.node; stream = h.stream; holds = lenient-tree h.node loaded header h.holds k }
lenient-of-stream loaded (Err why) h k = tt

pub lenient-cause : (text : List ℕ) (loaded : Loaded) (r : Result Header Refusal) → IsLenient loaded r → IfErr r (λ why. IsReasonIn text why)
lenient-cause text loaded (Ok header) k = tt
lenient-cause text loaded (Err (NoYaml fault)) k = absurd k
lenient-cause text loaded (Err NotOneDocument) k = tt
lenient-cause text loaded (Err Alias) k = tt
lenient-cause text loaded (Err NoTree) k = tt
lenient-cause text loaded (Err Number) k = tt

-- a text that is no YAML
pub no-yaml-cause : (text : List ℕ) (error : ScanError) (why : Refusal) → why ≡ NoYaml error → error ≢ c.OutOfMemory → IsFounded (before_nul text) error → IsReasonIn text why
no-yaml-cause text error why is told founded = let P : Refusal → Type 0 = λ x. IsReasonIn text x in subst P (sym is) (told, founded)

-- where there is not one document, neither of them has another reason
pub no-tree-in : (nodes : List Node) (why : Refusal) → IsNoDocument nodes why → IsReasonOf nodes why
no-tree-in nodes (NoYaml fault) h = h
no-tree-in nodes NotOneDocument h = h
no-tree-in nodes Alias h = absurd h
no-tree-in nodes NoTree h = absurd h
no-tree-in nodes Number h = absurd h

pub no-header-in : (nodes : List Node) (why : Refusal) → IsNoDocument nodes why → IsHeaderReasonOf nodes why
no-header-in nodes (NoYaml fault) h = h
no-header-in nodes NotOneDocument h = h
no-header-in nodes Alias h = absurd h
no-header-in nodes NoTree h = absurd h
no-header-in nodes Number h = absurd h

-- the error of a refusal
pub refusal-end : (text path : List ℕ) (why : Refusal) (error : Error) → IsErrorOf text path why error → IsUnspelled text → RefusalEnd text path error
refusal-end text path why (FailedParsingYaml named) h u = (h.0, u)
refusal-end text path why UnexpectedDataType h u = absurd h
refusal-end text path why MissingField h u = absurd h
refusal-end text path why (FileIo named) h u = absurd h
refusal-end text path why (FloatText named) h u = ((h.0, h.1.1), u)
refusal-end text path why JsonKey h u = absurd h
refusal-end text path why (NotText named) h u = absurd h
refusal-end text path why (NoFile named) h u = absurd h
refusal-end text path why OutOfMemory h u = tt

pub refusal-in : (nodes : List Node) (text path : List ℕ) (why : Refusal) (error : Error) → IsReasonOf nodes why → IsErrorOf text path why error → IsRefusalIn nodes text path error
refusal-in nodes text path why (FailedParsingYaml named) h k = record { why = why; holds = h; is = k }
refusal-in nodes text path why UnexpectedDataType h k = absurd k
refusal-in nodes text path why MissingField h k = absurd k
refusal-in nodes text path why (FileIo named) h k = absurd k
refusal-in nodes text path why (FloatText named) h k = record { why = why; holds = h; is = k }
refusal-in nodes text path why JsonKey h k = absurd k
refusal-in nodes text path why (NotText named) h k = absurd k
refusal-in nodes text path why (NoFile named) h k = absurd k
refusal-in nodes text path why OutOfMemory h k = tt

-- the numbers of a tree that is spelled or read have 128 bits
pub spelled-within : (text : List ℕ) (t : Plain) → SpellsHeader text t → IsWithin t
spelled-within text t s =
    let f = laid-found text s.layout s.free s.text_is in
    subst IsWithin s.tree_is (document-within f.node (layout_plain s.layout.tree) f.plainly)

pub tree-within : (made : Content) → IsOfStream (λ node. IsTreeOf node made) → IsWithin (plain (tree made))
tree-within made h = made-within h.node h.holds.plain made h.holds.read h.holds.tree_is

pub header-within : (header : Header) → IsOfStream (λ node. IsHeaderTreeOf node header) → IsWithin (plain (tree header.content))
header-within header h = made-within h.node h.holds.plain header.content h.holds.read h.holds.tree_is
