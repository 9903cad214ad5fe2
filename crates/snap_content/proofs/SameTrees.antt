-- Trees that the order does not tell apart are equal.
use Rattle.snap_content.proofs.Prelude.{◌≡◌, ℕ, ℤ, List, [], ◌∷◌, Bool, true, false, refl, sym, ap, ◌∙◌, Ordering, Less, Equal, Greater, ordering_then, nat_cmp, int_cmp, bool_cmp, is_eq, ranked, int_ranked, text_cmp, tree_cmp, trees_cmp, pairs_cmp, fields_cmp}
use mathlib.Core.Bool.{true≢false}
use Rattle.snap_content.specs.Tree as t

pub both : (a b : Ordering) → ordering_then a b ≡ Equal → (a ≡ Equal) × (b ≡ Equal)
both Less b h = absurd (true≢false (sym (ap is_eq h)))
both Equal b h = (refl, h)
both Greater b h = absurd (true≢false (sym (ap is_eq h)))

same_number : (n m : ℕ) → nat_cmp n m ≡ Equal → n ≡ m
same_number n m h = ranked n m Equal (sym h)

same_signed : (y z : ℤ) → int_cmp y z ≡ Equal → y ≡ z
same_signed y z h = int_ranked y z Equal (sym h)

pub same_truth : (b c : Bool) → bool_cmp b c ≡ Equal → b ≡ c
same_truth false false h = refl
same_truth true true h = refl
same_truth false true h = absurd (true≢false (sym (ap is_eq h)))
same_truth true false h = absurd (true≢false (sym (ap is_eq h)))

pub same_text : (s u : List ℕ) → text_cmp s u ≡ Equal → s ≡ u
same_text [] [] h = refl
same_text [] (d ∷ ds) h = absurd (true≢false (sym (ap is_eq h)))
same_text (c ∷ cs) [] h = absurd (true≢false (sym (ap is_eq h)))
same_text (c ∷ cs) (d ∷ ds) h =
    let p = both (nat_cmp c d) (text_cmp cs ds) h in ap (λ x. x ∷ cs) (same_number c d p.0) ∙ ap (λ xs. d ∷ xs) (same_text cs ds p.1)

mutual
  pub same_tree : (a b : t.Tree) → tree_cmp a b ≡ Equal → a ≡ b
  same_tree (t.bool b) (t.bool b') h = ap t.bool (same_truth b b' h)
  same_tree (t.u8 n) (t.u8 n') h = ap t.u8 (same_number n n' h)
  same_tree (t.u16 n) (t.u16 n') h = ap t.u16 (same_number n n' h)
  same_tree (t.u32 n) (t.u32 n') h = ap t.u32 (same_number n n' h)
  same_tree (t.u64 n) (t.u64 n') h = ap t.u64 (same_number n n' h)
  same_tree (t.u128 n) (t.u128 n') h = ap t.u128 (same_number n n' h)
  same_tree (t.i8 z) (t.i8 z') h = ap t.i8 (same_signed z z' h)
  same_tree (t.i16 z) (t.i16 z') h = ap t.i16 (same_signed z z' h)
  same_tree (t.i32 z) (t.i32 z') h = ap t.i32 (same_signed z z' h)
  same_tree (t.i64 z) (t.i64 z') h = ap t.i64 (same_signed z z' h)
  same_tree (t.i128 z) (t.i128 z') h = ap t.i128 (same_signed z z' h)
  same_tree (t.char n) (t.char n') h = ap t.char (same_number n n' h)
  same_tree (t.string s) (t.string s') h = ap t.string (same_text s s' h)
  same_tree (t.bytes s) (t.bytes s') h = ap t.bytes (same_text s s' h)
  same_tree t.none t.none h = refl
  same_tree (t.some x) (t.some x') h = ap t.some (same_tree x x' h)
  same_tree t.unit t.unit h = refl
  same_tree (t.unit_struct s) (t.unit_struct s') h = ap t.unit_struct (same_text s s' h)
  same_tree (t.unit_variant s1 n s2) (t.unit_variant s1' n' s2') h =
      let p = both _ _ h in let q = both _ _ p.1 in ap (λ y. t.unit_variant y n s2) (same_text s1 s1' p.0) ∙ ap (λ y. t.unit_variant s1' y s2) (same_number n n' q.0) ∙ ap (λ y. t.unit_variant s1' n' y) (same_text s2 s2' q.1)
  same_tree (t.newtype_struct s x) (t.newtype_struct s' x') h =
      let p = both _ _ h in ap (λ y. t.newtype_struct y x) (same_text s s' p.0) ∙ ap (λ y. t.newtype_struct s' y) (same_tree x x' p.1)
  same_tree (t.newtype_variant s1 n s2 x) (t.newtype_variant s1' n' s2' x') h =
      let p = both _ _ h in let q = both _ _ p.1 in let w = both _ _ q.1 in ap (λ y. t.newtype_variant y n s2 x) (same_text s1 s1' p.0) ∙ ap (λ y. t.newtype_variant s1' y s2 x) (same_number n n' q.0) ∙ ap (λ y. t.newtype_variant s1' n' y x) (same_text s2 s2' w.0) ∙ ap (λ y. t.newtype_variant s1' n' s2' y) (same_tree x x' w.1)
  same_tree (t.seq xs) (t.seq xs') h = ap t.seq (same_items xs xs' h)
  same_tree (t.tuple xs) (t.tuple xs') h = ap t.tuple (same_items xs xs' h)
  same_tree (t.tuple_struct s xs) (t.tuple_struct s' xs') h =
      let p = both _ _ h in ap (λ y. t.tuple_struct y xs) (same_text s s' p.0) ∙ ap (λ y. t.tuple_struct s' y) (same_items xs xs' p.1)
  same_tree (t.tuple_variant s1 n s2 xs) (t.tuple_variant s1' n' s2' xs') h =
      let p = both _ _ h in let q = both _ _ p.1 in let w = both _ _ q.1 in ap (λ y. t.tuple_variant y n s2 xs) (same_text s1 s1' p.0) ∙ ap (λ y. t.tuple_variant s1' y s2 xs) (same_number n n' q.0) ∙ ap (λ y. t.tuple_variant s1' n' y xs) (same_text s2 s2' w.0) ∙ ap (λ y. t.tuple_variant s1' n' s2' y) (same_items xs xs' w.1)
  same_tree (t.map ps) (t.map ps') h = ap t.map (same_pairs ps ps' h)
  same_tree (t.struct s fs) (t.struct s' fs') h =
      let p = both _ _ h in ap (λ y. t.struct y fs) (same_text s s' p.0) ∙ ap (λ y. t.struct s' y) (same_fields fs fs' p.1)
  same_tree (t.struct_variant s1 n s2 fs) (t.struct_variant s1' n' s2' fs') h =
      let p = both _ _ h in let q = both _ _ p.1 in let w = both _ _ q.1 in ap (λ y. t.struct_variant y n s2 fs) (same_text s1 s1' p.0) ∙ ap (λ y. t.struct_variant s1' y s2 fs) (same_number n n' q.0) ∙ ap (λ y. t.struct_variant s1' n' y fs) (same_text s2 s2' w.0) ∙ ap (λ y. t.struct_variant s1' n' s2' y) (same_fields fs fs' w.1)
  same_tree a b h = absurd (true≢false (sym (ap is_eq h)))

  same_items : (xs ys : t.Trees) → trees_cmp xs ys ≡ Equal → xs ≡ ys
  same_items t.no_trees t.no_trees h = refl
  same_items t.no_trees (t.tree y ys) h = absurd (true≢false (sym (ap is_eq h)))
  same_items (t.tree x xs) t.no_trees h = absurd (true≢false (sym (ap is_eq h)))
  same_items (t.tree x xs) (t.tree y ys) h =
      let p = both _ _ h in ap (λ z. t.tree z xs) (same_tree x y p.0) ∙ ap (t.tree y) (same_items xs ys p.1)

  same_pairs : (ps qs : t.TreePairs) → pairs_cmp ps qs ≡ Equal → ps ≡ qs
  same_pairs t.no_pairs t.no_pairs h = refl
  same_pairs t.no_pairs (t.pair l w qs) h = absurd (true≢false (sym (ap is_eq h)))
  same_pairs (t.pair k v ps) t.no_pairs h = absurd (true≢false (sym (ap is_eq h)))
  same_pairs (t.pair k v ps) (t.pair l w qs) h =
      let p = both _ _ h in let q = both _ _ p.0 in
      ap (λ z. t.pair z v ps) (same_tree k l q.0) ∙ ap (λ z. t.pair l z ps) (same_tree v w q.1) ∙ ap (t.pair l w) (same_pairs ps qs p.1)

  same_fields : (fs gs : t.TreeFields) → fields_cmp fs gs ≡ Equal → fs ≡ gs
  same_fields t.no_fields t.no_fields h = refl
  same_fields t.no_fields (t.field u w gs) h = absurd (true≢false (sym (ap is_eq h)))
  same_fields (t.field s v fs) t.no_fields h = absurd (true≢false (sym (ap is_eq h)))
  same_fields (t.field s v fs) (t.field u w gs) h =
      let p = both _ _ h in let q = both _ _ p.0 in
      ap (λ z. t.field z v fs) (same_text s u q.0) ∙ ap (λ z. t.field u z fs) (same_tree v w q.1) ∙ ap (t.field u w) (same_fields fs gs p.1)
