-- Values that the order does not tell apart are equal.
use Rattle.snap_yaml.proofs.Prelude.{◌≡◌, ℕ, List, [], ◌∷◌, Bool, true, false, refl, sym, ap, ◌∙◌, Ordering, Less, Equal, Greater, ranked, int_ranked, value_cmp, values_cmp, pairs_cmp}
use Rattle.std.specs.Ordering.{ordering_then, nat_cmp, bool_cmp, is_eq}
use mathlib.Core.Bool.{true≢false}
use Rattle.snap_content.specs.Orders.{text_cmp}
use Rattle.snap_yaml.specs.Value as v
use Rattle.snap_content.proofs.SameTrees.{same_text, same_truth, both}

mutual
  pub same_value : (a b : v.Value) → value_cmp a b ≡ Equal → a ≡ b
  same_value (v.real s) (v.real s') h = ap v.real (same_text s s' h)
  same_value (v.integer z) (v.integer z') h = ap v.integer (int_ranked z z' Equal (sym h))
  same_value (v.string s) (v.string s') h = ap v.string (same_text s s' h)
  same_value (v.boolean b) (v.boolean b') h = ap v.boolean (same_truth b b' h)
  same_value (v.array xs) (v.array ys) h = ap v.array (same_values xs ys h)
  same_value (v.hash ps) (v.hash qs) h = ap v.hash (same_pairs ps qs h)
  same_value v.null v.null h = refl
  same_value v.bad_value v.bad_value h = refl
  same_value a b h = absurd (true≢false (sym (ap is_eq h)))

  same_values : (xs ys : v.Values) → values_cmp xs ys ≡ Equal → xs ≡ ys
  same_values v.no_values v.no_values h = refl
  same_values v.no_values (v.value y ys) h = absurd (true≢false (sym (ap is_eq h)))
  same_values (v.value x xs) v.no_values h = absurd (true≢false (sym (ap is_eq h)))
  same_values (v.value x xs) (v.value y ys) h =
      let p = both _ _ h in ap (λ z. v.value z xs) (same_value x y p.0) ∙ ap (v.value y) (same_values xs ys p.1)

  same_pairs : (ps qs : v.ValuePairs) → pairs_cmp ps qs ≡ Equal → ps ≡ qs
  same_pairs v.no_pairs v.no_pairs h = refl
  same_pairs v.no_pairs (v.pair l w qs) h = absurd (true≢false (sym (ap is_eq h)))
  same_pairs (v.pair k x ps) v.no_pairs h = absurd (true≢false (sym (ap is_eq h)))
  same_pairs (v.pair k x ps) (v.pair l w qs) h =
      let p = both _ _ h in let q = both _ _ p.0 in
      ap (λ z. v.pair z x ps) (same_value k l q.0) ∙ ap (λ z. v.pair l z ps) (same_value x w q.1) ∙ ap (v.pair l w) (same_pairs ps qs p.1)
