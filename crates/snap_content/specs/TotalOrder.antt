-- The order of trees is total: it is that of their parts, written one after the other.
use Rattle.std.proofs.Common.{◌≡◌, ℕ, ℤ, pos, List, [], ◌∷◌, Bool, true, false, refl, sym, ap, ◌∙◌}
use Rattle.std.specs.declared.cmp.Ordering.{Ordering}
use Rattle.std.specs.declared.cmp.Ordering.TheVariants.{Less, Equal, Greater}
use Rattle.std.specs.Ordering.{ordering_then, ordering_reverse, nat_cmp, int_cmp, bool_cmp, then_cmp, on}
use Rattle.std.specs.Cmp.{IsTotalOrder}
use Rattle.std.specs.Cmp.Lexicographic.{slice_cmp}
use Rattle.std.proofs.lemmas.Cmp.{lists_total, then_total, on_total, nat_cmp_total, int_cmp_total}
use Rattle.snap_content.specs.Tree as t
use Rattle.snap_content.specs.Orders.{text_cmp, tree_cmp, trees_cmp, pairs_cmp, fields_cmp}

-- a part: a number, or one with a sign
abbrev Part : Type 0
Part = ℕ × ℤ

abbrev part_cmp : Part → Part → Ordering
part_cmp = then_cmp (on (λ p. p.0) nat_cmp) (on (λ p. p.1) int_cmp)

part_total : IsTotalOrder part_cmp
part_total = then_total (on_total (λ p. p.0) nat_cmp_total) (on_total (λ p. p.1) int_cmp_total)

abbrev parts_cmp : List Part → List Part → Ordering
parts_cmp = slice_cmp part_cmp

-- what stands before the parts r; a list has 1 before each element, and 0 at its end
abbrev number : ℕ → List Part → List Part
number n r = (n, pos 0) ∷ r

abbrev signed : ℤ → List Part → List Part
signed z r = (0, z) ∷ r

abbrev truth : Bool → List Part → List Part
truth false r = number 0 r
truth true r = number 1 r

abbrev text : List ℕ → List Part → List Part
text [] r = number 0 r
text (c ∷ cs) r = number 1 (number c (text cs r))

abbrev mutual
  code : t.Tree → List Part → List Part
  code (t.bool b) r = number 0 (truth b r)
  code (t.u8 n) r = number 1 (number n r)
  code (t.u16 n) r = number 2 (number n r)
  code (t.u32 n) r = number 3 (number n r)
  code (t.u64 n) r = number 4 (number n r)
  code (t.u128 n) r = number 5 (number n r)
  code (t.i8 z) r = number 6 (signed z r)
  code (t.i16 z) r = number 7 (signed z r)
  code (t.i32 z) r = number 8 (signed z r)
  code (t.i64 z) r = number 9 (signed z r)
  code (t.i128 z) r = number 10 (signed z r)
  code (t.char n) r = number 11 (number n r)
  code (t.string s) r = number 12 (text s r)
  code (t.bytes s) r = number 13 (text s r)
  code t.none r = number 14 r
  code (t.some x) r = number 15 (code x r)
  code t.unit r = number 16 r
  code (t.unit_struct s) r = number 17 (text s r)
  code (t.unit_variant s1 n s2) r = number 18 (text s1 (number n (text s2 r)))
  code (t.newtype_struct s x) r = number 19 (text s (code x r))
  code (t.newtype_variant s1 n s2 x) r = number 20 (text s1 (number n (text s2 (code x r))))
  code (t.seq xs) r = number 21 (items xs r)
  code (t.tuple xs) r = number 22 (items xs r)
  code (t.tuple_struct s xs) r = number 23 (text s (items xs r))
  code (t.tuple_variant s1 n s2 xs) r = number 24 (text s1 (number n (text s2 (items xs r))))
  code (t.map ps) r = number 25 (pairs ps r)
  code (t.struct s fs) r = number 26 (text s (fields fs r))
  code (t.struct_variant s1 n s2 fs) r = number 27 (text s1 (number n (text s2 (fields fs r))))

  items : t.Trees → List Part → List Part
  items t.no_trees r = number 0 r
  items (t.tree x xs) r = number 1 (code x (items xs r))

  pairs : t.TreePairs → List Part → List Part
  pairs t.no_pairs r = number 0 r
  pairs (t.pair k v ps) r = number 1 (code k (code v (pairs ps r)))

  fields : t.TreeFields → List Part → List Part
  fields t.no_fields r = number 0 r
  fields (t.field s v fs) r = number 1 (text s (code v (fields fs r)))

pub then_equal : (o : Ordering) → ordering_then o Equal ≡ o
then_equal Less = refl
then_equal Equal = refl
then_equal Greater = refl

regrouped : (a b c : Ordering) → ordering_then a (ordering_then b c) ≡ ordering_then (ordering_then a b) c
regrouped Less b c = refl
regrouped Equal b c = refl
regrouped Greater b c = refl

-- one part, and then another
in_turn : (x y z a b : Ordering) → x ≡ ordering_then a y → y ≡ ordering_then b z → x ≡ ordering_then (ordering_then a b) z
in_turn x y z a b first next = first ∙ ap (ordering_then a) next ∙ regrouped a b z

number_first : (n m : ℕ) (r q : List Part) → parts_cmp (number n r) (number m q) ≡ ordering_then (nat_cmp n m) (parts_cmp r q)
number_first n m r q = ap (λ o. ordering_then o (parts_cmp r q)) (then_equal (nat_cmp n m))

signed_first : (y z : ℤ) (r q : List Part) → parts_cmp (signed y r) (signed z q) ≡ ordering_then (int_cmp y z) (parts_cmp r q)
signed_first y z r q = refl

truth_first : (b c : Bool) (r q : List Part) → parts_cmp (truth b r) (truth c q) ≡ ordering_then (bool_cmp b c) (parts_cmp r q)
truth_first false false r q = refl
truth_first false true r q = refl
truth_first true false r q = refl
truth_first true true r q = refl

text_first : (s s' : List ℕ) (r q : List Part) → parts_cmp (text s r) (text s' q) ≡ ordering_then (text_cmp s s') (parts_cmp r q)
text_first [] [] r q = refl
text_first [] (d ∷ ds) r q = refl
text_first (c ∷ cs) [] r q = refl
text_first (c ∷ cs) (d ∷ ds) r q = in_turn _ _ _ _ _ (number_first c d (text cs r) (text ds q)) (text_first cs ds r q)

mutual
  code_first : (a b : t.Tree) (r q : List Part) → parts_cmp (code a r) (code b q) ≡ ordering_then (tree_cmp a b) (parts_cmp r q)
  code_first (t.bool b) (t.bool b') r q = truth_first b b' r q
  code_first (t.u8 n) (t.u8 n') r q = number_first n n' r q
  code_first (t.u16 n) (t.u16 n') r q = number_first n n' r q
  code_first (t.u32 n) (t.u32 n') r q = number_first n n' r q
  code_first (t.u64 n) (t.u64 n') r q = number_first n n' r q
  code_first (t.u128 n) (t.u128 n') r q = number_first n n' r q
  code_first (t.i8 z) (t.i8 z') r q = signed_first z z' r q
  code_first (t.i16 z) (t.i16 z') r q = signed_first z z' r q
  code_first (t.i32 z) (t.i32 z') r q = signed_first z z' r q
  code_first (t.i64 z) (t.i64 z') r q = signed_first z z' r q
  code_first (t.i128 z) (t.i128 z') r q = signed_first z z' r q
  code_first (t.char n) (t.char n') r q = number_first n n' r q
  code_first (t.string s) (t.string s') r q = text_first s s' r q
  code_first (t.bytes s) (t.bytes s') r q = text_first s s' r q
  code_first t.none t.none r q = refl
  code_first (t.some x) (t.some x') r q = code_first x x' r q
  code_first t.unit t.unit r q = refl
  code_first (t.unit_struct s) (t.unit_struct s') r q = text_first s s' r q
  code_first (t.unit_variant s1 n s2) (t.unit_variant s1' n' s2') r q = in_turn _ _ _ _ _ (text_first s1 s1' (number n (text s2 r)) (number n' (text s2' q))) (in_turn _ _ _ _ _ (number_first n n' (text s2 r) (text s2' q)) (text_first s2 s2' r q))
  code_first (t.newtype_struct s x) (t.newtype_struct s' x') r q = in_turn _ _ _ _ _ (text_first s s' (code x r) (code x' q)) (code_first x x' r q)
  code_first (t.newtype_variant s1 n s2 x) (t.newtype_variant s1' n' s2' x') r q = in_turn _ _ _ _ _ (text_first s1 s1' (number n (text s2 (code x r))) (number n' (text s2' (code x' q)))) (in_turn _ _ _ _ _ (number_first n n' (text s2 (code x r)) (text s2' (code x' q))) (in_turn _ _ _ _ _ (text_first s2 s2' (code x r) (code x' q)) (code_first x x' r q)))
  code_first (t.seq xs) (t.seq xs') r q = items_first xs xs' r q
  code_first (t.tuple xs) (t.tuple xs') r q = items_first xs xs' r q
  code_first (t.tuple_struct s xs) (t.tuple_struct s' xs') r q = in_turn _ _ _ _ _ (text_first s s' (items xs r) (items xs' q)) (items_first xs xs' r q)
  code_first (t.tuple_variant s1 n s2 xs) (t.tuple_variant s1' n' s2' xs') r q = in_turn _ _ _ _ _ (text_first s1 s1' (number n (text s2 (items xs r))) (number n' (text s2' (items xs' q)))) (in_turn _ _ _ _ _ (number_first n n' (text s2 (items xs r)) (text s2' (items xs' q))) (in_turn _ _ _ _ _ (text_first s2 s2' (items xs r) (items xs' q)) (items_first xs xs' r q)))
  code_first (t.map ps) (t.map ps') r q = pairs_first ps ps' r q
  code_first (t.struct s fs) (t.struct s' fs') r q = in_turn _ _ _ _ _ (text_first s s' (fields fs r) (fields fs' q)) (fields_first fs fs' r q)
  code_first (t.struct_variant s1 n s2 fs) (t.struct_variant s1' n' s2' fs') r q = in_turn _ _ _ _ _ (text_first s1 s1' (number n (text s2 (fields fs r))) (number n' (text s2' (fields fs' q)))) (in_turn _ _ _ _ _ (number_first n n' (text s2 (fields fs r)) (text s2' (fields fs' q))) (in_turn _ _ _ _ _ (text_first s2 s2' (fields fs r) (fields fs' q)) (fields_first fs fs' r q)))
  code_first a b r q = refl

  items_first : (xs ys : t.Trees) (r q : List Part) → parts_cmp (items xs r) (items ys q) ≡ ordering_then (trees_cmp xs ys) (parts_cmp r q)
  items_first t.no_trees t.no_trees r q = refl
  items_first t.no_trees (t.tree y ys) r q = refl
  items_first (t.tree x xs) t.no_trees r q = refl
  items_first (t.tree x xs) (t.tree y ys) r q = in_turn _ _ _ _ _ (code_first x y (items xs r) (items ys q)) (items_first xs ys r q)

  pairs_first : (ps qs : t.TreePairs) (r q : List Part) → parts_cmp (pairs ps r) (pairs qs q) ≡ ordering_then (pairs_cmp ps qs) (parts_cmp r q)
  pairs_first t.no_pairs t.no_pairs r q = refl
  pairs_first t.no_pairs (t.pair l w qs) r q = refl
  pairs_first (t.pair k v ps) t.no_pairs r q = refl
  pairs_first (t.pair k v ps) (t.pair l w qs) r q =
      in_turn _ _ _ _ _ (in_turn _ _ _ _ _ (code_first k l (code v (pairs ps r)) (code w (pairs qs q))) (code_first v w (pairs ps r) (pairs qs q))) (pairs_first ps qs r q)

  fields_first : (fs gs : t.TreeFields) (r q : List Part) → parts_cmp (fields fs r) (fields gs q) ≡ ordering_then (fields_cmp fs gs) (parts_cmp r q)
  fields_first t.no_fields t.no_fields r q = refl
  fields_first t.no_fields (t.field u w gs) r q = refl
  fields_first (t.field s v fs) t.no_fields r q = refl
  fields_first (t.field s v fs) (t.field u w gs) r q =
      in_turn _ _ _ _ _ (in_turn _ _ _ _ _ (text_first s u (code v (fields fs r)) (code w (fields gs q))) (code_first v w (fields fs r) (fields gs q))) (fields_first fs gs r q)

abbrev coded_cmp : t.Tree → t.Tree → Ordering
coded_cmp = on (λ a. code a []) parts_cmp

coded : (a b : t.Tree) → coded_cmp a b ≡ tree_cmp a b
coded a b = code_first a b [] [] ∙ then_equal (tree_cmp a b)

coded_total : IsTotalOrder coded_cmp
coded_total = on_total (λ a. code a []) (lists_total part_total)

-- an order that answers as a total one does is total
pub as_total : {K : Type 0} (R S : K → K → Ordering) → IsTotalOrder R → ((x y : K) → R x y ≡ S x y) → IsTotalOrder S
as_total R S o same = record {
  antisymm = λ x y. sym (same x y) ∙ o.antisymm x y ∙ ap ordering_reverse (same y x);
  trans = λ x y z h k. sym (same x z) ∙ o.trans x y z (same x y ∙ h) (same y z ∙ k);
  congr = λ x y z h. sym (same x z) ∙ o.congr x y z (same x y ∙ h) ∙ same y z;
}

pub tree_total : IsTotalOrder tree_cmp
tree_total = as_total coded_cmp tree_cmp coded_total coded

pub trees_total : IsTotalOrder trees_cmp
trees_total =
    as_total (on (λ xs. items xs []) parts_cmp) trees_cmp (on_total (λ xs. items xs []) (lists_total part_total))
    (λ xs ys. items_first xs ys [] [] ∙ then_equal (trees_cmp xs ys))
