-- A sorted tree is sorted to itself.
use Rattle.snap_content.proofs.Prelude.{◌≡◌, List, [], ◌∷◌, sym, ap, ◌∙◌, subst, All-nil, All-cons, All-head, All-tail, All-permutation, All, Entry, InKeyOrder, Sorted, ItemsRearranged, PairsRearranged, FieldsRearranged}
use Rattle.snap_content.specs.Tree as t
use Rattle.snap_content.proofs.OneOrder.{order_settles}

abbrev Settled : t.Tree → Type 0
Settled x = (again : t.Tree) → Sorted x again → again ≡ x

abbrev EntrySettled : Entry → Type 0
EntrySettled e = Settled e.0 × Settled e.1

-- sorting settled entries' own maps changes no entry
entries_again : (es fs : List Entry) → All EntrySettled es → PairsRearranged InKeyOrder (t.pairs_of es) fs → fs ≡ es
entries_again [] fs settled r = r
entries_again (e ∷ es) fs settled r =
    let first : EntrySettled e = All-head EntrySettled e es settled in
    r.3 ∙ ap (λ k. (k, r.1) ∷ r.2) (first.0 r.0 r.4) ∙ ap (λ v. (e.0, v) ∷ r.2) (first.1 r.1 r.5)
    ∙ ap (λ gs. e ∷ gs) (entries_again es r.2 (All-tail EntrySettled e es settled) r.6)

map_settles : (inside new : List Entry) (x again : t.Tree) → All EntrySettled inside → InKeyOrder inside new → x ≡ t.map (t.pairs_of new) → Sorted x again → again ≡ x
map_settles inside new x again settled order is s =
    let r : Sorted (t.map (t.pairs_of new)) again = subst (λ z. Sorted z again) is s in
    let same : r.0 ≡ new = entries_again new r.0 (All-permutation EntrySettled inside new order.same_entries settled) r.3 in
    r.2 ∙ ap (λ es. t.map (t.pairs_of es)) (order_settles inside new r.1 order (subst (λ es. InKeyOrder es r.1) same r.4)) ∙ sym is

mutual
  pub settles : (x y : t.Tree) → Sorted x y → Settled y
  settles (t.some inner) y s again q =
      let r : Sorted (t.some s.0) again = subst (λ z. Sorted z again) s.1 q in r.1 ∙ ap t.some (settles inner s.0 s.2 r.0 r.2) ∙ sym s.1
  settles (t.newtype_struct name inner) y s again q =
      let r : Sorted (t.newtype_struct name s.0) again = subst (λ z. Sorted z again) s.1 q in
      r.1 ∙ ap (t.newtype_struct name) (settles inner s.0 s.2 r.0 r.2) ∙ sym s.1
  settles (t.newtype_variant name index variant inner) y s again q =
      let r : Sorted (t.newtype_variant name index variant s.0) again = subst (λ z. Sorted z again) s.1 q in
      r.1 ∙ ap (t.newtype_variant name index variant) (settles inner s.0 s.2 r.0 r.2) ∙ sym s.1
  settles (t.seq items) y s again q =
      let r : Sorted (t.seq s.0) again = subst (λ z. Sorted z again) s.1 q in r.1 ∙ ap t.seq (items_settle items s.0 s.2 r.0 r.2) ∙ sym s.1
  settles (t.tuple items) y s again q =
      let r : Sorted (t.tuple s.0) again = subst (λ z. Sorted z again) s.1 q in r.1 ∙ ap t.tuple (items_settle items s.0 s.2 r.0 r.2) ∙ sym s.1
  settles (t.tuple_struct name items) y s again q =
      let r : Sorted (t.tuple_struct name s.0) again = subst (λ z. Sorted z again) s.1 q in
      r.1 ∙ ap (t.tuple_struct name) (items_settle items s.0 s.2 r.0 r.2) ∙ sym s.1
  settles (t.tuple_variant name index variant items) y s again q =
      let r : Sorted (t.tuple_variant name index variant s.0) again = subst (λ z. Sorted z again) s.1 q in
      r.1 ∙ ap (t.tuple_variant name index variant) (items_settle items s.0 s.2 r.0 r.2) ∙ sym s.1
  settles (t.map pairs) y s again q = map_settles s.0 s.1 y again (entries_settle pairs s.0 s.3) s.4 s.2 q
  settles (t.struct name fs) y s again q =
      let r : Sorted (t.struct name s.0) again = subst (λ z. Sorted z again) s.1 q in
      r.1 ∙ ap (t.struct name) (fields_settle fs s.0 s.2 r.0 r.2) ∙ sym s.1
  settles (t.struct_variant name index variant fs) y s again q =
      let r : Sorted (t.struct_variant name index variant s.0) again = subst (λ z. Sorted z again) s.1 q in
      r.1 ∙ ap (t.struct_variant name index variant) (fields_settle fs s.0 s.2 r.0 r.2) ∙ sym s.1
  settles leaf y s again q = let r : Sorted leaf again = subst (λ z. Sorted z again) s q in r ∙ sym s

  items_settle : (xs ys : t.Trees) → ItemsRearranged InKeyOrder xs ys → (zs : t.Trees) → ItemsRearranged InKeyOrder ys zs → zs ≡ ys
  items_settle t.no_trees ys s zs q = let r : ItemsRearranged InKeyOrder t.no_trees zs = subst (λ z. ItemsRearranged InKeyOrder z zs) s q in r ∙ sym s
  items_settle (t.tree first rest) ys s zs q =
      let r : ItemsRearranged InKeyOrder (t.tree s.0 s.1) zs = subst (λ z. ItemsRearranged InKeyOrder z zs) s.2 q in
      r.2 ∙ ap (λ z. t.tree z r.1) (settles first s.0 s.3 r.0 r.3) ∙ ap (t.tree s.0) (items_settle rest s.1 s.4 r.1 r.4) ∙ sym s.2

  entries_settle : (ps : t.TreePairs) (es : List Entry) → PairsRearranged InKeyOrder ps es → All EntrySettled es
  entries_settle t.no_pairs es s = subst (All EntrySettled) (sym s) (All-nil EntrySettled)
  entries_settle (t.pair key value rest) es s =
      subst (All EntrySettled) (sym s.3)
      (All-cons EntrySettled (s.0, s.1) s.2 (settles key s.0 s.4, settles value s.1 s.5) (entries_settle rest s.2 s.6))

  fields_settle : (fs gs : t.TreeFields) → FieldsRearranged InKeyOrder fs gs → (hs : t.TreeFields) → FieldsRearranged InKeyOrder gs hs → hs ≡ gs
  fields_settle t.no_fields gs s hs q = let r : FieldsRearranged InKeyOrder t.no_fields hs = subst (λ z. FieldsRearranged InKeyOrder z hs) s q in r ∙ sym s
  fields_settle (t.field name value rest) gs s hs q =
      let r : FieldsRearranged InKeyOrder (t.field name s.0 s.1) hs = subst (λ z. FieldsRearranged InKeyOrder z hs) s.2 q in
      r.2 ∙ ap (λ z. t.field name z r.1) (settles value s.0 s.3 r.0 r.3) ∙ ap (t.field name s.0) (fields_settle rest s.1 s.4 r.1 r.4) ∙ sym s.2
