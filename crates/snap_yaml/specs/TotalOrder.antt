-- The order of values is total: it is that of the trees which have their places and fields side by side.
use Rattle.std.proofs.Common.{◌≡◌, ℕ, refl, sym, ap, ◌∙◌}
use Rattle.std.specs.declared.cmp.Ordering.{Ordering}
use Rattle.std.specs.declared.cmp.Ordering.TheVariants.{Less, Equal, Greater}
use Rattle.std.specs.Ordering.{ordering_then, ordering_reverse, on}
use Rattle.std.specs.Cmp.{IsTotalOrder}
use Rattle.std.proofs.lemmas.Cmp.{on_total}
use Rattle.snap_content.specs.Tree as t
use Rattle.snap_content.specs.Orders as o
use Rattle.snap_content.specs.TotalOrder.{tree_total}
use Rattle.snap_yaml.specs.Value as v
use Rattle.snap_yaml.specs.Orders.{value_cmp, values_cmp, pairs_cmp}

-- a place, and what stands there
abbrev placed : ℕ → t.Tree → t.Tree
placed n x = t.seq (t.tree (t.u8 n) (t.tree x t.no_trees))

abbrev mutual
  coded : v.Value → t.Tree
  coded (v.real s) = placed 0 (t.string s)
  coded (v.integer z) = placed 1 (t.i64 z)
  coded (v.string s) = placed 2 (t.string s)
  coded (v.boolean b) = placed 3 (t.bool b)
  coded (v.array vs) = placed 4 (t.seq (coded_values vs))
  coded (v.hash ps) = placed 5 (t.map (coded_pairs ps))
  coded v.null = placed 6 t.unit
  coded v.bad_value = placed 7 t.unit

  coded_values : v.Values → t.Trees
  coded_values v.no_values = t.no_trees
  coded_values (v.value x xs) = t.tree (coded x) (coded_values xs)

  coded_pairs : v.ValuePairs → t.TreePairs
  coded_pairs v.no_pairs = t.no_pairs
  coded_pairs (v.pair k x ps) = t.pair (coded k) (coded x) (coded_pairs ps)

then_equal : (a : Ordering) → ordering_then a Equal ≡ a
then_equal Less = refl
then_equal Equal = refl
then_equal Greater = refl

-- two orders after one another, each answered as another one does
both : (a b c d : Ordering) → a ≡ c → b ≡ d → ordering_then a b ≡ ordering_then c d
both a b c d first next = ap (λ x. ordering_then x b) first ∙ ap (ordering_then c) next

mutual
  same_value : (x y : v.Value) → o.tree_cmp (coded x) (coded y) ≡ value_cmp x y
  same_value (v.real s) (v.real s') = then_equal (o.text_cmp s s')
  same_value (v.integer z) (v.integer z') = then_equal _
  same_value (v.string s) (v.string s') = then_equal (o.text_cmp s s')
  same_value (v.boolean b) (v.boolean b') = then_equal _
  same_value (v.array xs) (v.array ys) = then_equal (o.trees_cmp (coded_values xs) (coded_values ys)) ∙ same_values xs ys
  same_value (v.hash ps) (v.hash qs) = then_equal (o.pairs_cmp (coded_pairs ps) (coded_pairs qs)) ∙ same_pairs ps qs
  same_value v.null v.null = refl
  same_value v.bad_value v.bad_value = refl
  same_value x y = refl

  same_values : (xs ys : v.Values) → o.trees_cmp (coded_values xs) (coded_values ys) ≡ values_cmp xs ys
  same_values v.no_values v.no_values = refl
  same_values v.no_values (v.value y ys) = refl
  same_values (v.value x xs) v.no_values = refl
  same_values (v.value x xs) (v.value y ys) = both _ _ _ _ (same_value x y) (same_values xs ys)

  same_pairs : (ps qs : v.ValuePairs) → o.pairs_cmp (coded_pairs ps) (coded_pairs qs) ≡ pairs_cmp ps qs
  same_pairs v.no_pairs v.no_pairs = refl
  same_pairs v.no_pairs (v.pair l w qs) = refl
  same_pairs (v.pair k x ps) v.no_pairs = refl
  same_pairs (v.pair k x ps) (v.pair l w qs) = both _ _ _ _ (both _ _ _ _ (same_value k l) (same_value x w)) (same_pairs ps qs)

-- an order that answers as a total one does is total
as_total : {K : Type 0} (R S : K → K → Ordering) → IsTotalOrder R → ((x y : K) → R x y ≡ S x y) → IsTotalOrder S
as_total R S order same = record {
  antisymm = λ x y. sym (same x y) ∙ order.antisymm x y ∙ ap ordering_reverse (same y x);
  trans = λ x y z h k. sym (same x z) ∙ order.trans x y z (same x y ∙ h) (same y z ∙ k);
  congr = λ x y z h. sym (same x z) ∙ order.congr x y z (same x y ∙ h) ∙ same y z;
}

pub value_total : IsTotalOrder value_cmp
value_total = as_total (on coded o.tree_cmp) value_cmp (on_total coded tree_total) same_value
