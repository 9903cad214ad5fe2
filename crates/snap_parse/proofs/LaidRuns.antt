-- The tokens of a layout are those of its tree of tokens, which yield the events of its node.
use Rattle.snap_parse.proofs.Prelude.{◌≡◌, Bool, true, false, List, [], ◌∷◌, ◌++◌, refl, sym, ◌∙◌, ap, subst, append_assoc, TokenType, stream_events, start_spot, Yields}
use Rattle.snap_scan_tokens.specs.declared.token.TokenType.TheVariants as k
use Rattle.snap_scan_tokens.specs.declared.token.TEncoding.TheVariants.{Utf8}
use Rattle.snap_parse_laws.specs.Forms.{square, curly}
use Rattle.snap_parse_laws.specs.Layouts as w
use Rattle.snap_parse_laws.specs.LayoutTokens as o
use Rattle.snap_parse_laws.specs.Tokens.{document_with}
use Rattle.snap_parse_events.specs.TokenTrees.{IsFit, AreFit, FitEntries, Entries, no_entries, tokens_onto, items_onto, entries_onto}
use Rattle.snap_parse.specs.LaidEvents.{scalar_tree, leaf_tree, collection_tree, item_tree, items_trees, value_tree, level_tree, entry_trees, entries_trees, layout_tree}
use Rattle.snap_parse.specs.TreeNodes.{tree_node}
use Rattle.snap_parse.proofs.TreeNodes.{tree-events}

scalar-fits : (s : w.Scalar) (b i : Bool) → IsFit b i (scalar_tree s)
scalar-fits (w.bare u) b i = tt
scalar-fits (w.quote s) b i = tt

leaf-fits : (v : w.Leaf) (b i : Bool) → IsFit b i (leaf_tree v)
leaf-fits (w.word s r) b i = scalar-fits s b i
leaf-fits (w.empty square r) b i = tt
leaf-fits (w.empty curly r) b i = tt
leaf-fits (w.block u count more) b i = tt

mutual
  collection-fits : (t : w.Collection) (i : Bool) → IsFit true i (collection_tree t)
  collection-fits (w.list ts) i = (refl, items-fit ts)
  collection-fits (w.dict es) i = (refl, entries-fit es)

  item-fits : (t : w.Item) (i : Bool) → IsFit true i (item_tree t)
  item-fits (w.piece n v) i = leaf-fits v true i
  item-fits (w.beside n t) i = collection-fits t i
  item-fits (w.below g n t) i = collection-fits t i

  items-fit : (ts : w.Items) → AreFit true (items_trees ts)
  items-fit (w.last t) = (item-fits t false, tt)
  items-fit (w.item t ts) = (item-fits t false, items-fit ts)

  value-fits : (v : w.Value) → IsFit true true (value_tree v)
  value-fits (w.piece_of n v) = leaf-fits v true true
  value-fits (w.below_key g n t) = collection-fits t true
  value-fits (w.level g ts) = level-fits ts

  level-fits : (ts : w.Items) → IsFit true true (level_tree ts)
  level-fits (w.last t) = (refl, item-fits t false, tt)
  level-fits (w.item t ts) = (refl, item-fits t false, items-fit ts)

  entry-fits : (e : w.Entry) (rest : Entries) → FitEntries true true rest → FitEntries true true (entry_trees e rest)
  entry-fits (w.simple s v) rest are = (scalar-fits s true true, value-fits v, are)
  entry-fits (w.complex q v) rest are = (item-fits q true, item-fits v true, are)

  entries-fit : (es : w.Entries) → FitEntries true true (entries_trees es)
  entries-fit (w.only e) = entry-fits e no_entries tt
  entries-fit (w.pair e es) = entry-fits e (entries_trees es) (entries-fit es)

scalar-tokens : (s : w.Scalar) (rest : List TokenType) → tokens_onto (scalar_tree s) rest ≡ o.scalar_token s ∷ rest
scalar-tokens (w.bare u) rest = refl
scalar-tokens (w.quote s) rest = refl

leaf-tokens : (v : w.Leaf) (rest : List TokenType) → tokens_onto (leaf_tree v) rest ≡ o.leaf_tokens v ++ rest
leaf-tokens (w.word s r) rest = scalar-tokens s rest
leaf-tokens (w.empty square r) rest = refl
leaf-tokens (w.empty curly r) rest = refl
leaf-tokens (w.block u count more) rest = refl

mutual
  collection-tokens : (t : w.Collection) (rest : List TokenType) → tokens_onto (collection_tree t) rest ≡ o.collection_tokens t ++ rest
  collection-tokens (w.list ts) rest =
      let f : List TokenType → List TokenType = λ x. k.BlockSequenceStart ∷ x in
      let g : List TokenType → List TokenType = λ x. k.BlockSequenceStart ∷ k.BlockEntry ∷ x in
      ap f (items-tokens ts (k.BlockEnd ∷ rest)) ∙ ap g (sym (append_assoc (o.items_tokens ts) (k.BlockEnd ∷ []) rest))
  collection-tokens (w.dict es) rest =
      let f : List TokenType → List TokenType = λ x. k.BlockMappingStart ∷ x in
      ap f (entries-tokens es (k.BlockEnd ∷ rest) ∙ sym (append_assoc (o.entries_tokens es) (k.BlockEnd ∷ []) rest))

  item-tokens : (t : w.Item) (rest : List TokenType) → tokens_onto (item_tree t) rest ≡ o.item_tokens t ++ rest
  item-tokens (w.piece n v) rest = leaf-tokens v rest
  item-tokens (w.beside n t) rest = collection-tokens t rest
  item-tokens (w.below g n t) rest = collection-tokens t rest

  items-tokens : (ts : w.Items) (rest : List TokenType) → items_onto (items_trees ts) rest ≡ k.BlockEntry ∷ (o.items_tokens ts ++ rest)
  items-tokens (w.last t) rest = let f : List TokenType → List TokenType = λ x. k.BlockEntry ∷ x in ap f (item-tokens t rest)
  items-tokens (w.item t ts) rest =
      let f : List TokenType → List TokenType = λ x. k.BlockEntry ∷ tokens_onto (item_tree t) x in
      let g : List TokenType → List TokenType = λ x. k.BlockEntry ∷ x in
      ap f (items-tokens ts rest) ∙ ap g (item-tokens t (k.BlockEntry ∷ (o.items_tokens ts ++ rest)) ∙ sym (append_assoc (o.item_tokens t) (k.BlockEntry ∷ o.items_tokens ts) rest))

  value-tokens : (v : w.Value) (rest : List TokenType) → tokens_onto (value_tree v) rest ≡ o.value_tokens v ++ rest
  value-tokens (w.piece_of n v) rest = leaf-tokens v rest
  value-tokens (w.below_key g n t) rest = collection-tokens t rest
  value-tokens (w.level g ts) rest = level-tokens ts rest

  level-tokens : (ts : w.Items) (rest : List TokenType) → tokens_onto (level_tree ts) rest ≡ k.BlockEntry ∷ (o.items_tokens ts ++ rest)
  level-tokens (w.last t) rest = let f : List TokenType → List TokenType = λ x. k.BlockEntry ∷ x in ap f (item-tokens t rest)
  level-tokens (w.item t ts) rest =
      let f : List TokenType → List TokenType = λ x. k.BlockEntry ∷ tokens_onto (item_tree t) x in
      let g : List TokenType → List TokenType = λ x. k.BlockEntry ∷ x in
      ap f (items-tokens ts rest) ∙ ap g (item-tokens t (k.BlockEntry ∷ (o.items_tokens ts ++ rest)) ∙ sym (append_assoc (o.item_tokens t) (k.BlockEntry ∷ o.items_tokens ts) rest))

  entry-tokens : (e : w.Entry) (fs : Entries) (rest : List TokenType) → entries_onto (entry_trees e fs) rest ≡ o.entry_tokens e ++ entries_onto fs rest
  entry-tokens (w.simple s v) fs rest =
      let next : List TokenType = entries_onto fs rest in
      let f : List TokenType → List TokenType = λ x. k.Key ∷ tokens_onto (scalar_tree s) (k.Value ∷ x) in
      let g : List TokenType → List TokenType = λ x. k.Key ∷ x in
      ap f (value-tokens v next) ∙ ap g (scalar-tokens s (k.Value ∷ (o.value_tokens v ++ next)))
  entry-tokens (w.complex q v) fs rest =
      let next : List TokenType = entries_onto fs rest in
      let f : List TokenType → List TokenType = λ x. k.Key ∷ tokens_onto (item_tree q) (k.Value ∷ x) in
      let g : List TokenType → List TokenType = λ x. k.Key ∷ x in
      ap f (item-tokens v next) ∙ ap g (item-tokens q (k.Value ∷ (o.item_tokens v ++ next)) ∙ sym (append_assoc (o.item_tokens q) (k.Value ∷ o.item_tokens v) next))

  entries-tokens : (es : w.Entries) (rest : List TokenType) → entries_onto (entries_trees es) rest ≡ o.entries_tokens es ++ rest
  entries-tokens (w.only e) rest = entry-tokens e no_entries rest
  entries-tokens (w.pair e es) rest =
      let f : List TokenType → List TokenType = λ x. o.entry_tokens e ++ x in
      entry-tokens e (entries_trees es) rest ∙ ap f (entries-tokens es rest) ∙ sym (append_assoc (o.entry_tokens e) (o.entries_tokens es) rest)

layout-tokens : (t : w.Layout) (rest : List TokenType) → tokens_onto (layout_tree t) rest ≡ o.layout_tokens t ++ rest
layout-tokens (w.leaf v) rest = leaf-tokens v rest
layout-tokens (w.collection t) rest = collection-tokens t rest

layout-fits : (t : w.Layout) → IsFit true false (layout_tree t)
layout-fits (w.leaf v) = leaf-fits v true false
layout-fits (w.collection t) = collection-fits t false

-- the tokens of a document in a layout yield the events of one document
pub laid-events : (t : w.Layout) → Yields start_spot (document_with (o.layout_tokens t)) (stream_events (tree_node (layout_tree t) ∷ []))
laid-events t =
    let f : List TokenType → List TokenType = λ v. k.StreamStart Utf8 ∷ k.DocumentStart ∷ v in
    let P : List TokenType → Type 0 = λ v. Yields start_spot v (stream_events (tree_node (layout_tree t) ∷ [])) in
    subst P (ap f (layout-tokens t (k.StreamEnd ∷ []))) (tree-events (layout_tree t) (layout-fits t))
