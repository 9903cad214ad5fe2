-- The order of lists at their ends: the list that ends first comes first.
use Rattle.snap_yaml.proofs.Prelude.{◌≡◌, List, [], ◌∷◌, length, false, sym, ap, ◌∙◌, ◌==◌, Ordering, Less, array_values, hash_values, values_cmp, pairs_cmp}
use Rattle.snap_yaml.specs.declared.yaml.Yaml.{Yaml}

pub values_end : (xs ys : List Yaml) (r : Ordering) → xs ≡ [] → (length ys == 0) ≡ false → values_cmp (array_values xs) (array_values ys) ≡ r → Less ≡ r
values_end xs [] r ended more is = absurd (cc)
values_end xs (y ∷ ys) r ended more is = ap (λ zs. values_cmp (array_values zs) (array_values (y ∷ ys))) (sym ended) ∙ is

pub pairs_end : (xs ys : List (Yaml × Yaml)) (r : Ordering) → xs ≡ [] → (length ys == 0) ≡ false → pairs_cmp (hash_values xs) (hash_values ys) ≡ r → Less ≡ r
pairs_end xs [] r ended more is = absurd (cc)
pairs_end xs (y ∷ ys) r ended more is = ap (λ zs. pairs_cmp (hash_values zs) (hash_values (y ∷ ys))) (sym ended) ∙ is
