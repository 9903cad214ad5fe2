-- A text has one document, whether it is printed of a tree or lies in a layout.
use Rattle.snap_parse.proofs.Prelude.{◌≡◌, ℕ, List, [], ◌∷◌, ◌++◌, map, true, false, Some, sym, ap, ◌∙◌, refl, subst, Blocks, document_of, Plain, fetched, Steps, none_more, one_more, type_of, Owes, start_scan, before_nul, TokenType, Event, Node, stream_events, Spot, start_spot, Parsed, parse_step, stage_step, Yields, finished, then_one, Value, document_value, node_of, json_node, read_value, IsWithin, steps, start, AreNodesOf, has_alias}
use Rattle.snap_parse_laws_json.specs.Bounded.{IsJsonOf}
use Rattle.snap_parse_laws.specs.LayoutRules.{IsDocument}
use Rattle.snap_parse_laws.specs.LayoutTexts.{document_text}
use Rattle.snap_parse_laws.specs.Layouts.{Document}
use Rattle.snap_parse_laws.specs.Endings.{ends_in_block}
use Rattle.snap_scan.specs.State.{State}
use Rattle.snap_parse_events.specs.declared.state.Stage.TheVariants as g
use Rattle.snap_parse.specs.LaidEvents.{layout_tree}
use Rattle.snap_parse.specs.LaidValues.{layout_value}
use Rattle.snap_parse.specs.TreeNodes.{tree_node}
use Rattle.snap_parse.proofs.Folds.{stream-steps}
use Rattle.snap_parse.proofs.JsonValues.{json-read}
use Rattle.snap_parse.proofs.LaidValues.{laid-value}
use Rattle.snap_parse.proofs.Loading.{printed-nodes, dumped-nodes, json-nodes, laid-nodes}
use Rattle.snap_parse.proofs.NoAliases.{printed-free, json-free, tree-free}
use Rattle.snap_parse.proofs.PrintedValues.{document-read}

-- fetches lead from a state to one end
stopped : (s u : State) → s.ended ≡ true → Steps s u → s ≡ u
stopped _ _ last (none_more s) = refl
stopped _ _ last (one_more s t u open_ found rest) = absurd (cc)

behind : (s t u : State) → s.ended ≡ false → fetched s ≡ Some t → u.ended ≡ true → Steps s u → Steps t u
behind _ t _ open_ found last (none_more s) = absurd (cc)
behind _ t _ open_ found last (one_more s v u again other rest) =
    let P : State → Type 0 = λ x. Steps x u in
    let same : v ≡ t = cc in
    subst P same rest

one-end : (s t u : State) → Steps s t → t.ended ≡ true → Steps s u → u.ended ≡ true → t ≡ u
one-end _ _ u (none_more s) left more right = stopped s u left more
one-end _ _ u (one_more s v t open_ found rest) left more right = one-end v t u rest left (behind s v u open_ found right more) right

-- so the tokens that are owed are the same
owed-same : (s : State) (xs ys : List TokenType) → Owes s xs → Owes s ys → xs ≡ ys
owed-same s xs ys h k = sym h.given ∙ ap (λ e. map type_of e.held) (one-end s h.end k.end h.steps h.ended k.steps k.ended) ∙ k.given

-- nothing is parsed after the stream's end
never : (p : Spot) (ts : List TokenType) (r : Parsed) → p.stage ≡ g.Ended → parse_step p ts ≡ Some r → ⊥
never p ts r at step = let none = ap (λ v. stage_step v p.outer ts) at in cc

-- and the events that these tokens yield are the same
yielded-none : (p : Spot) (ts : List TokenType) (es : List Event) → p.stage ≡ g.Ended → Yields p ts es → [] ≡ es
yielded-none p ts _ at (finished _ _ h) = refl
yielded-none p ts _ at (then_one _ _ r es step more) = absurd (never p ts r at step)

record First (r : Parsed) (es : List Event) : Type 0 where
  rest : List Event
  is : es ≡ r.event ∷ rest
  more : Yields r.spot r.rest rest

first-yielded : (p : Spot) (ts : List TokenType) (r : Parsed) (es : List Event) → parse_step p ts ≡ Some r → Yields p ts es → First r es
first-yielded p ts r _ step (finished _ _ h) = absurd (never p ts r h step)
first-yielded p ts r _ step (then_one _ _ q es other more) =
    let same : q ≡ r = cc in
    let P : Parsed → Type 0 = λ x. Yields x.spot x.rest es in
    record { rest = es; is = ap (λ x. x.event ∷ es) same; more = subst P same more }

yielded-same : (p : Spot) (ts : List TokenType) (xs ys : List Event) → Yields p ts xs → Yields p ts ys → xs ≡ ys
yielded-same p ts _ ys (finished _ _ h) k = yielded-none p ts ys h k
yielded-same p ts _ ys (then_one _ _ r es step more) k =
    let other = first-yielded p ts r ys step k in
    ap (λ x. r.event ∷ x) (yielded-same r.spot r.rest es other.rest more other.more) ∙ sym other.is

one-value : (x y : Value) → ◌≡◌ {A = List Value} (x ∷ []) (y ∷ []) → x ≡ y
one-value x y same = cc

-- the text is one document, which has this value, and no alias stands in it
pub record HasValue (text : List ℕ) (value : Value) : Type 0 where
  pub node : Node
  pub nodes : AreNodesOf text (node ∷ [])
  pub value_is : document_value node ≡ value
  pub no_alias : has_alias (stream_events (node ∷ [])) ≡ false

-- whether texts are written as literal blocks doesn't matter
pub printed-value : (w : Blocks) (p : Plain) (text : List ℕ) → IsWithin p → text ≡ document_of w p → HasValue text (read_value p)
printed-value w p text within is = record { node = node_of w p; nodes = printed-nodes text w p is; value_is = document-read w p within; no_alias = printed-free w p }

-- the same without its last line's end, where no block ends the text
pub dumped-value : (w : Blocks) (p : Plain) (text : List ℕ) → IsWithin p → ends_in_block w p ≡ false → text ++ 10 ∷ [] ≡ document_of w p → HasValue text (read_value p)
dumped-value w p text within free is = record { node = node_of w p; nodes = dumped-nodes text w p free is; value_is = document-read w p within; no_alias = printed-free w p }

pub json-value : (p : Plain) (text : List ℕ) → IsWithin p → IsJsonOf p text → HasValue text (read_value p)
json-value p text within is = record { node = json_node p; nodes = json-nodes text p is; value_is = json-read p within; no_alias = json-free p }

pub laid-one-value : (d : Document) (text : List ℕ) → IsDocument d → text ≡ document_text d → HasValue text (layout_value d.tree)
laid-one-value d text fits is = record {
  node = tree_node (layout_tree d.tree);
  nodes = laid-nodes text d fits is;
  value_is = laid-value d.tree;
  no_alias = tree-free (layout_tree d.tree);
}

pub values-same : (text : List ℕ) (a b : Value) → HasValue text a → HasValue text b → a ≡ b
values-same text a b one other =
    let x : Node = one.node in
    let y : Node = other.node in
    let tokens = owed-same (start_scan (before_nul text)).state one.nodes.tokens other.nodes.tokens one.nodes.owes other.nodes.owes in
    let Q : List TokenType → Type 0 = λ v. Yields start_spot v (stream_events (y ∷ [])) in
    let events = yielded-same start_spot one.nodes.tokens (stream_events (x ∷ [])) (stream_events (y ∷ [])) one.nodes.yields (subst Q (sym tokens) other.nodes.yields) in
    let f : List Event → List Value = λ es. (steps es start).documents in
    sym one.value_is ∙ one-value (document_value x) (document_value y) (sym (stream-steps (x ∷ [])) ∙ ap f events ∙ stream-steps (y ∷ [])) ∙ other.value_is
