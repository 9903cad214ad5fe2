-- What is loaded of a whole stream.
use Rattle.snap_parse.proofs.Prelude.{◌≡◌, false, List, [], ◌∷◌, ◌++◌, map, sym, ap, ◌∙◌, subst, Blocks, document_of, Plain, document_tokens, plain-source, json_node, Owes, start_scan, before_nul, TokenType, node_of, Event, Node, stream_events, ℕ, Result, IfOk, Value, steps, start, AreLoadedOf, AreValuesOf, AreNodesOf, scan_error}
use Rattle.snap_parse_laws_json.specs.Bounded.{IsJsonOf}
use Rattle.snap_parse_laws_json.specs.Tokens.{json_stream_tokens}
use Rattle.snap_parse_laws_json.proofs.Events.{json-events}
use Rattle.snap_parse_laws_json.proofs.Texts.{text-source}
use Rattle.snap_parse_laws.specs.LayoutTokens.{layout_tokens}
use Rattle.snap_parse_laws.specs.Layouts.{Document}
use Rattle.snap_parse_laws.specs.LayoutTexts.{document_text}
use Rattle.snap_parse_laws.specs.LayoutRules.{IsDocument}
use Rattle.snap_parse_laws.specs.Tokens.{document_with}
use Rattle.snap_parse_laws.specs.Endings.{ends_in_block}
use Rattle.snap_parse_laws.proofs.Documents.{laid-source, dumped-source}
use Rattle.snap_parse.specs.LaidEvents.{layout_tree}
use Rattle.snap_parse.specs.TreeNodes.{tree_node}
use Rattle.snap_parse.proofs.LaidRuns.{laid-events}
use Rattle.snap_parse.proofs.PrintedRuns.{printed-events}
use Rattle.snap_parse_events.specs.Streams.{IsStream}
use Rattle.snap_parse_events.proofs.WholeStreams.{whole-streams}
use Rattle.std.proofs.lemmas.Result.{IfOk-weaker}
use Rattle.snap_scan_tokens.specs.declared.info.ScanError.{ScanError}
use Rattle.snap_scan_tokens.specs.declared.info.ScanError.TheVariants as c
use Rattle.snap_parse_events.specs.declared.error.LoadError.{LoadError}
use Rattle.snap_parse_events.specs.declared.error.LoadError.TheVariants as l
use Rattle.snap_parse_events.specs.Errors.{IsLoadFounded}
use Rattle.snap_scan.specs.Sound.{IsFounded}
use Rattle.snap_yaml.specs.View.{value_of, array_list}
use Rattle.snap_parse.specs.declared.loader.Documents.{Documents}
use Rattle.snap_parse.specs.declared.loader.Loader.{Loader}
use Rattle.snap_parse.specs.Loader.{HasLoaded, HoldsDocuments}
use Rattle.snap_parse.proofs.Folds.{stream-steps}

-- the documents of a loader that got a whole stream
pub made : (l : Loader) (r : Result Documents ScanError) (events : List Event) → IsStream events → HasLoaded l events → IfOk r (λ d. HoldsDocuments l d)
    → IfOk r (λ d. AreLoadedOf (map value_of (array_list d.values)) d.has_alias)
made l r events stream told h =
    let d = whole-streams events stream in
    let f : List Event → List Value = λ es. (steps es start).documents in
    IfOk-weaker r (λ x. HoldsDocuments l x) (λ x. AreLoadedOf (map value_of (array_list x.values)) x.has_alias)
    (λ x holds. let k = holds events told in record {
      loaded = record { events = events; stream = stream; nodes = d.0; of_nodes = d.1; are = k.0 ∙ ap f d.1 ∙ stream-steps d.0 };
      told = k.1;
    }) h

-- the documents of a loader that got the events of these nodes
pub made-nodes : (l : Loader) (r : Result Documents ScanError) (nodes : List Node) → HasLoaded l (stream_events nodes) → IfOk r (λ d. HoldsDocuments l d)
    → IfOk r (λ d. AreValuesOf nodes (map value_of (array_list d.values)) d.has_alias)
made-nodes l r nodes told h =
    IfOk-weaker r (λ x. HoldsDocuments l x) (λ x. AreValuesOf nodes (map value_of (array_list x.values)) x.has_alias)
    (λ x holds. let k = holds (stream_events nodes) told in record { are = k.0 ∙ stream-steps nodes; told = k.1 }) h

pub founded : (source : List ℕ) (e : LoadError) → IsLoadFounded source e → IsFounded source (scan_error e)
founded source (l.Scan (c.Syntax mark info)) h = h
founded source (l.Scan c.OutOfMemory) h = tt
founded source l.InsideDocument h = tt
founded source l.OutOfMemory h = tt

-- a printed text is one document
pub printed-nodes : (source : List ℕ) (w : Blocks) (p : Plain) → source ≡ document_of w p → AreNodesOf source (node_of w p ∷ [])
printed-nodes source w p is =
    let P : List ℕ → Type 0 = λ v. Owes (start_scan (before_nul v)).state (document_tokens w p) in
    record { tokens = document_tokens w p; owes = subst P (sym is) (plain-source w p); yields = printed-events w p }

-- the same of such a text without its last line's end
pub dumped-nodes : (source : List ℕ) (w : Blocks) (p : Plain) → ends_in_block w p ≡ false → source ++ 10 ∷ [] ≡ document_of w p → AreNodesOf source (node_of w p ∷ [])
dumped-nodes source w p free is = record { tokens = document_tokens w p; owes = dumped-source w p source free is; yields = printed-events w p }

-- the same of the JSON text of a bounded tree
pub json-nodes : (source : List ℕ) (p : Plain) → IsJsonOf p source → AreNodesOf source (json_node p ∷ [])
json-nodes source p is =
    let P : List ℕ → Type 0 = λ v. Owes (start_scan (before_nul v)).state (json_stream_tokens p) in
    record { tokens = json_stream_tokens p; owes = subst P (sym is.2) (text-source p is.0 is.1); yields = json-events p is.0 }

-- the same of a text in a layout
pub laid-nodes : (source : List ℕ) (d : Document) → IsDocument d → source ≡ document_text d → AreNodesOf source (tree_node (layout_tree d.tree) ∷ [])
laid-nodes source d fits is =
    let tokens : List TokenType = document_with (layout_tokens d.tree) in
    let P : List ℕ → Type 0 = λ v. Owes (start_scan (before_nul v)).state tokens in
    record { tokens = tokens; owes = subst P (sym is) (laid-source d fits); yields = laid-events d.tree }
