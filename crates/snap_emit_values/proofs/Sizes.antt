-- How much a walk over a shape has before it.
use Rattle.snap_emit_values.proofs.Prelude.{◌≡◌, ℕ, zero, suc, ◌+◌, ◌<◌, ◌≤◌, List, [], ◌∷◌, length, get_or, ap, arith}
use Rattle.snap_emit_values.specs.Shape as s

-- how many shapes are in a shape, with itself
abbrev mutual
  pub size : s.Shape → ℕ
  size (s.scalar x) = 1
  size (s.number z) = 1
  size (s.text x) = 1
  size (s.list ts) = suc (sizes ts)
  size (s.dict ps) = suc (pair_sizes ps)

  pub sizes : s.Shapes → ℕ
  sizes s.no_shapes = 0
  sizes (s.shape t ts) = size t + sizes ts

  pub pair_sizes : s.ShapePairs → ℕ
  pair_sizes s.no_pairs = 0
  pair_sizes (s.pair k v ps) = (size k + size v) + pair_sizes ps

abbrev pub both_sizes : s.Shape × s.Shape → ℕ
both_sizes p = size p.0 + size p.1

-- an item is no larger than its list
pub size-at : (ts : List s.Shape) (i : ℕ) (t : s.Shape) → i < length ts → t ≡ get_or ts i t → size t ≤ sizes (s.shapes_of ts)
size-at [] i t below is = absurd (omega (arith, below))
size-at (u ∷ ts) zero t below is = let same = ap size is in omega (arith, same)
size-at (u ∷ ts) (suc i) t below is = let inner = size-at ts i t (omega (arith, below)) is in omega (arith, inner)

pub pair_size-at : (ps : List (s.Shape × s.Shape)) (i : ℕ) (p : s.Shape × s.Shape) → i < length ps → p ≡ get_or ps i p
    → both_sizes p ≤ pair_sizes (s.shape_pairs_of ps)
pair_size-at [] i p below is = absurd (omega (arith, below))
pair_size-at (q ∷ ps) zero p below is = let same = ap both_sizes is in omega (arith, same)
pair_size-at (q ∷ ps) (suc i) p below is = let inner = pair_size-at ps i p (omega (arith, below)) is in omega (arith, inner)
