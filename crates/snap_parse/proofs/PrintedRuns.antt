-- The tokens of a printed tree yield the events of one document of its node.
use Rattle.snap_parse.proofs.Prelude.{◌≡◌, ℕ, Bool, true, false, Option, None, Some, List, [], ◌∷◌, ◌++◌, refl, sym, ◌∙◌, ap, subst, append_assoc, if◌then◌else◌, needs_quotes, TokenType, Event, node_onto, nodes_onto, pairs_onto, stream_events, start_spot, Node, Blocks, before_more, before_items, before_entries, as_block, child_tree, child_node, tree_of, trees_of, entries_of, node_of, nodes_of, pairs_of, Yields}
use Rattle.snap_content.specs.Plain as p
use Rattle.snap_scan_tokens.specs.declared.token.TokenType.TheVariants as k
use Rattle.snap_scan_tokens.specs.declared.token.TEncoding.TheVariants.{Utf8}
use Rattle.snap_scan_tokens.specs.declared.token.TScalarStyle.TheVariants as style
use Rattle.snap_parse_events.specs.declared.event.Event.TheVariants as e
use Rattle.snap_parse_laws.specs.Tokens as o
use Rattle.snap_parse_events.specs.TokenTrees.{Tree, IsFit, AreFit, FitEntries, tokens_onto, items_onto, entries_onto, events_onto, item_events_onto, entry_events_onto, document_tokens}
use Rattle.snap_parse_events.proofs.TreeRuns.{document}

-- items and values
abbrev tree_in : Blocks → p.Plain → Tree
tree_in w x = child_tree (as_block w x) (tree_of w x)

abbrev node_in : Blocks → p.Plain → Node
node_in w x = child_node (as_block w x) (node_of w x)

abbrev tokens_in : Blocks → p.Plain → List TokenType
tokens_in w x = o.child_tokens (as_block w x) (o.node_tokens w x)

child-fit : (s : Option (List ℕ)) (t : Tree) (b i : Bool) → IsFit b i t → IsFit b i (child_tree s t)
child-fit None t b i h = h
child-fit (Some s) t b i h = tt

mutual
  fit : (w : Blocks) (x : p.Plain) (b i : Bool) → b ≡ true → IsFit b i (tree_of w x)
  fit w p.null b i h = tt
  fit w (p.bool c) b i h = tt
  fit w (p.int z) b i h = tt
  fit w (p.text s) b i h = tt
  fit w (p.list p.no_items) b i h = tt
  fit w (p.list (p.item x xs)) b i h =
      let u : Blocks = before_items w xs in (h, (child-fit (as_block u x) (tree_of u x) true false (fit u x true false refl), fit-items w xs))
  fit w (p.dict p.no_entries) b i h = tt
  fit w (p.dict (p.entry q v es)) b i h =
      let u : Blocks = before_entries w es in
      (h, (fit (before_more w) q true true refl, child-fit (as_block u v) (tree_of u v) true true (fit u v true true refl), fit-entries w es))

  fit-items : (w : Blocks) (xs : p.Plains) → AreFit true (trees_of w xs)
  fit-items w p.no_items = tt
  fit-items w (p.item x xs) = let u : Blocks = before_items w xs in (child-fit (as_block u x) (tree_of u x) true false (fit u x true false refl), fit-items w xs)

  fit-entries : (w : Blocks) (es : p.Entries) → FitEntries true true (entries_of w es)
  fit-entries w p.no_entries = tt
  fit-entries w (p.entry q v es) =
      let u : Blocks = before_entries w es in (fit (before_more w) q true true refl, child-fit (as_block u v) (tree_of u v) true true (fit u v true true refl), fit-entries w es)

in-list : (x y : List Event) → x ≡ y → e.SequenceStart 0 ∷ x ≡ e.SequenceStart 0 ∷ y
in-list x y h = let f : List Event → List Event = λ v. e.SequenceStart 0 ∷ v in ap f h

in-dict : (x y : List Event) → x ≡ y → e.MappingStart 0 ∷ x ≡ e.MappingStart 0 ∷ y
in-dict x y h = let f : List Event → List Event = λ v. e.MappingStart 0 ∷ v in ap f h

child-events : (s : Option (List ℕ)) (t : Tree) (n : Node) (es : List Event) → events_onto t es ≡ node_onto n es → events_onto (child_tree s t) es ≡ node_onto (child_node s n) es
child-events None t n es h = h
child-events (Some s) t n es h = refl

mutual
  events : (w : Blocks) (x : p.Plain) (es : List Event) → events_onto (tree_of w x) es ≡ node_onto (node_of w x) es
  events w p.null es = refl
  events w (p.bool c) es = refl
  events w (p.int z) es = refl
  events w (p.text s) es = refl
  events w (p.list p.no_items) es = refl
  events w (p.list (p.item x xs)) es =
      let u : Blocks = before_items w xs in
      let f : List Event → List Event = λ v. e.SequenceStart 0 ∷ events_onto (tree_in u x) v in
      let rest : List Event = nodes_onto (nodes_of w xs) (e.SequenceEnd ∷ es) in
      ap f (item-events w xs (e.SequenceEnd ∷ es)) ∙ in-list _ _ (child-events (as_block u x) (tree_of u x) (node_of u x) rest (events u x rest))
  events w (p.dict p.no_entries) es = refl
  events w (p.dict (p.entry q v fs)) es =
      let u : Blocks = before_entries w fs in
      let m : Blocks = before_more w in
      let f : List Event → List Event = λ z. e.MappingStart 0 ∷ events_onto (tree_of m q) (events_onto (tree_in u v) z) in
      let g : List Event → List Event = λ z. e.MappingStart 0 ∷ events_onto (tree_of m q) z in
      let rest : List Event = pairs_onto (pairs_of w fs) (e.MappingEnd ∷ es) in
      let value = child-events (as_block u v) (tree_of u v) (node_of u v) rest (events u v rest) in
      ap f (entry-events w fs (e.MappingEnd ∷ es)) ∙ ap g value ∙ in-dict _ _ (events m q (node_onto (node_in u v) rest))

  item-events : (w : Blocks) (xs : p.Plains) (es : List Event) → item_events_onto (trees_of w xs) es ≡ nodes_onto (nodes_of w xs) es
  item-events w p.no_items es = refl
  item-events w (p.item x xs) es =
      let u : Blocks = before_items w xs in
      let f : List Event → List Event = λ v. events_onto (tree_in u x) v in
      let rest : List Event = nodes_onto (nodes_of w xs) es in
      ap f (item-events w xs es) ∙ child-events (as_block u x) (tree_of u x) (node_of u x) rest (events u x rest)

  entry-events : (w : Blocks) (fs : p.Entries) (es : List Event) → entry_events_onto (entries_of w fs) es ≡ pairs_onto (pairs_of w fs) es
  entry-events w p.no_entries es = refl
  entry-events w (p.entry q v fs) es =
      let u : Blocks = before_entries w fs in
      let m : Blocks = before_more w in
      let f : List Event → List Event = λ z. events_onto (tree_of m q) (events_onto (tree_in u v) z) in
      let g : List Event → List Event = λ z. events_onto (tree_of m q) z in
      let rest : List Event = pairs_onto (pairs_of w fs) es in
      let value = child-events (as_block u v) (tree_of u v) (node_of u v) rest (events u v rest) in
      ap f (entry-events w fs es) ∙ ap g value ∙ events m q (node_onto (node_in u v) rest)

token-if : (b : Bool) (s : List ℕ) (rest : List TokenType)
    → (if b then k.Scalar style.DoubleQuoted s else k.Scalar style.Plain s) ∷ rest ≡ k.Scalar (if b then style.DoubleQuoted else style.Plain) s ∷ rest
token-if true s rest = refl
token-if false s rest = refl

child-tokens : (s : Option (List ℕ)) (t : Tree) (ts rest : List TokenType) → ts ++ rest ≡ tokens_onto t rest → o.child_tokens s ts ++ rest ≡ tokens_onto (child_tree s t) rest
child-tokens None t ts rest h = h
child-tokens (Some s) t ts rest h = refl

mutual
  tokens : (w : Blocks) (x : p.Plain) (rest : List TokenType) → o.node_tokens w x ++ rest ≡ tokens_onto (tree_of w x) rest
  tokens w p.null rest = refl
  tokens w (p.bool c) rest = refl
  tokens w (p.int z) rest = refl
  tokens w (p.text s) rest = token-if (needs_quotes s) s rest
  tokens w (p.list p.no_items) rest = refl
  tokens w (p.list (p.item x xs)) rest =
      let u : Blocks = before_items w xs in
      let own : List TokenType = tokens_in u x in
      let f : List TokenType → List TokenType = λ v. k.BlockSequenceStart ∷ k.BlockEntry ∷ v in
      let g : List TokenType → List TokenType = λ v. k.BlockSequenceStart ∷ k.BlockEntry ∷ (own ++ v) in
      let next : List TokenType = items_onto (trees_of w xs) (k.BlockEnd ∷ rest) in
      let split : own ++ o.item_tokens w xs ++ k.BlockEnd ∷ [] ++ rest ≡ own ++ (o.item_tokens w xs ++ (k.BlockEnd ∷ rest)) = simp append_assoc in
      ap f split ∙ ap g (items w xs (k.BlockEnd ∷ rest)) ∙ ap f (child-tokens (as_block u x) (tree_of u x) (o.node_tokens u x) next (tokens u x next))
  tokens w (p.dict p.no_entries) rest = refl
  tokens w (p.dict (p.entry q v es)) rest =
      let u : Blocks = before_entries w es in
      let m : Blocks = before_more w in
      let key : List TokenType = o.node_tokens m q in
      let own : List TokenType = tokens_in u v in
      let f : List TokenType → List TokenType = λ z. k.BlockMappingStart ∷ k.Key ∷ z in
      let g : List TokenType → List TokenType = λ z. k.BlockMappingStart ∷ k.Key ∷ (key ++ (k.Value ∷ (own ++ z))) in
      let h : List TokenType → List TokenType = λ z. k.BlockMappingStart ∷ k.Key ∷ (key ++ (k.Value ∷ z)) in
      let next : List TokenType = entries_onto (entries_of w es) (k.BlockEnd ∷ rest) in
      let split : key ++ (k.Value ∷ own) ++ o.entry_tokens w es ++ k.BlockEnd ∷ [] ++ rest ≡ key ++ (k.Value ∷ (own ++ (o.entry_tokens w es ++ (k.BlockEnd ∷ rest)))) = simp append_assoc in
      let value = child-tokens (as_block u v) (tree_of u v) (o.node_tokens u v) next (tokens u v next) in
      ap f split ∙ ap g (entries w es (k.BlockEnd ∷ rest)) ∙ ap h value ∙ ap f (tokens m q (k.Value ∷ tokens_onto (tree_in u v) next))

  items : (w : Blocks) (xs : p.Plains) (rest : List TokenType) → o.item_tokens w xs ++ rest ≡ items_onto (trees_of w xs) rest
  items w p.no_items rest = refl
  items w (p.item x xs) rest =
      let u : Blocks = before_items w xs in
      let own : List TokenType = tokens_in u x in
      let f : List TokenType → List TokenType = λ v. k.BlockEntry ∷ v in
      let g : List TokenType → List TokenType = λ v. k.BlockEntry ∷ (own ++ v) in
      let next : List TokenType = items_onto (trees_of w xs) rest in
      let split : own ++ o.item_tokens w xs ++ rest ≡ own ++ (o.item_tokens w xs ++ rest) = simp append_assoc in
      ap f split ∙ ap g (items w xs rest) ∙ ap f (child-tokens (as_block u x) (tree_of u x) (o.node_tokens u x) next (tokens u x next))

  entries : (w : Blocks) (es : p.Entries) (rest : List TokenType) → o.entry_tokens w es ++ rest ≡ entries_onto (entries_of w es) rest
  entries w p.no_entries rest = refl
  entries w (p.entry q v es) rest =
      let u : Blocks = before_entries w es in
      let m : Blocks = before_more w in
      let key : List TokenType = o.node_tokens m q in
      let own : List TokenType = tokens_in u v in
      let f : List TokenType → List TokenType = λ z. k.Key ∷ z in
      let g : List TokenType → List TokenType = λ z. k.Key ∷ (key ++ (k.Value ∷ (own ++ z))) in
      let h : List TokenType → List TokenType = λ z. k.Key ∷ (key ++ (k.Value ∷ z)) in
      let next : List TokenType = entries_onto (entries_of w es) rest in
      let split : key ++ (k.Value ∷ own) ++ o.entry_tokens w es ++ rest ≡ key ++ (k.Value ∷ (own ++ (o.entry_tokens w es ++ rest))) = simp append_assoc in
      let value = child-tokens (as_block u v) (tree_of u v) (o.node_tokens u v) next (tokens u v next) in
      ap f split ∙ ap g (entries w es rest) ∙ ap h value ∙ ap f (tokens m q (k.Value ∷ tokens_onto (tree_in u v) next))

in-stream : (x y : List Event) → x ≡ y → e.StreamStart ∷ e.DocumentStart ∷ x ≡ e.StreamStart ∷ e.DocumentStart ∷ y
in-stream x y h = let f : List Event → List Event = λ v. e.StreamStart ∷ e.DocumentStart ∷ v in ap f h

-- the tokens of a printed document yield the events of one document
pub printed-events : (w : Blocks) (x : p.Plain) → Yields start_spot (o.document_tokens w x) (stream_events (node_of w x ∷ []))
printed-events w x =
    let same : o.document_tokens w x ≡ document_tokens (tree_of w x) =
    let f : List TokenType → List TokenType = λ v. k.StreamStart Utf8 ∷ k.DocumentStart ∷ v in ap f (tokens w x (k.StreamEnd ∷ [])) in
    let P : List TokenType → Type 0 = λ v. Yields start_spot v (stream_events (node_of w x ∷ [])) in
    let Q : List Event → Type 0 = λ v. Yields start_spot (document_tokens (tree_of w x)) v in
    subst P (sym same) (subst Q (in-stream _ _ (events w x (e.DocumentEnd ∷ e.StreamEnd ∷ []))) (document (tree_of w x) (fit w x true false refl)))
