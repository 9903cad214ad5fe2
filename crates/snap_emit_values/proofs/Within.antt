-- Numbers of 128 bits: of a list, of a dict, and of a tree, from its shape.
use Rattle.snap_emit_values.proofs.Prelude.{◌≡◌, ℕ, suc, ◌+◌, ◌<◌, List, [], ◌∷◌, length, take, get_or, subst, arith, All, take_all}
use Rattle.std.proofs.lemmas.List.Elements.{All-more}
use Rattle.snap_content.specs.Plain as p
use Rattle.snap_print.specs.Readable.{IsWithin, AreWithin, AreEntriesWithin}
use Rattle.snap_emit_values.specs.FromContent.{IsShapeWithin, AreShapesWithin, ArePairsWithin, IsPairWithin}
use Rattle.snap_emit_values.specs.Shape as s

pub shapes_within : (ts : List s.Shape) → All IsShapeWithin ts → AreShapesWithin (s.shapes_of ts)
shapes_within [] h = tt
shapes_within (t ∷ ts) h = (h 0 t (omega arith), shapes_within ts (λ k d less. h (suc k) d (omega arith)))

pub pairs_within : (ps : List (s.Shape × s.Shape)) → All IsPairWithin ps → ArePairsWithin (s.shape_pairs_of ps)
pairs_within [] h = tt
pairs_within (q ∷ ps) h = ((h 0 q (omega arith)).0, ((h 0 q (omega arith)).1, pairs_within ps (λ k d less. h (suc k) d (omega arith))))

mutual
  pub plain-within : (t : p.Plain) → IsShapeWithin (s.plain_shape t) → IsWithin t
  plain-within p.null h = tt
  plain-within (p.bool b) h = tt
  plain-within (p.int z) h = h
  plain-within (p.text x) h = tt
  plain-within (p.list ts) h = plains-within ts h
  plain-within (p.dict es) h = entries-within es h

  plains-within : (ts : p.Plains) → AreShapesWithin (s.plain_shapes ts) → AreWithin ts
  plains-within p.no_items h = tt
  plains-within (p.item t ts) h = (plain-within t h.0, plains-within ts h.1)

  entries-within : (es : p.Entries) → ArePairsWithin (s.plain_pairs es) → AreEntriesWithin es
  entries-within p.no_entries h = tt
  entries-within (p.entry k v es) h = (plain-within k h.0, (plain-within v h.1.0, entries-within es h.1.1))

-- one more item
pub all_more : {X : Type 0} (P : X → Type 0) (xs : List X) (i : ℕ) (x : X) → i < length xs → x ≡ get_or xs i x → All P (take i xs) → P x
    → All P (take (i + 1) xs)
all_more P xs i x below at so_far h = All-more P xs i x below so_far (subst P at h)

-- the last item
pub all_last : {X : Type 0} (P : X → Type 0) (xs : List X) (i n : ℕ) (x : X) → i ≡ n → length xs ≡ suc n → x ≡ get_or xs n x → All P (take i xs)
    → P x → All P xs
all_last P xs i n x end long at so_far h =
    let all : take (n + 1) xs ≡ xs = take_all (n + 1) xs (omega (arith, long)) in
    let before : All P (take n xs) = subst (λ j. All P (take j xs)) end so_far in
    subst (λ ys. All P ys) all (all_more P xs n x (omega (arith, long)) at before h)
