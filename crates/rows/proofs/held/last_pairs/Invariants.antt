use Rattle.std.proofs.Common.{◌≡◌, ◌++◌, ◌∷◌, [], length, reverse, flat_map}
use Rattle.rows.proofs.held.last_pairs.Given as goal

abbrev pub invariant-loop-pair : goal.invariant-loop-pair
invariant-loop-pair g l = record {
  -- what was held is what is left and the pairs, the last one first
  last : l.fn.held.items ≡ l.held.items ++ flat_map (λ p. p.0 ∷ p.1 ∷ []) (reverse l.pairs.items);
  count : length l.pairs.items ≡ l._pair;
}
