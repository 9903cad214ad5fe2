-- The plain form of the tree that is made of a plain tree is that plain tree.
use Rattle.snap_content.proofs.Prelude.{◌≡◌, ℕ, ◌^◌, ℤ, pos, negsuc, Bool, true, false, cond, nat_lt, refl, ap, ◌∙◌}
use Rattle.snap_content.specs.Plain as p
use Rattle.snap_content.specs.Tree as t

natural : (small middle : Bool) (n : ℕ) → p.plain (cond small (t.i64 (pos n)) (cond middle (t.u64 n) (t.u128 n))) ≡ p.int (pos n)
natural true middle n = refl
natural false true n = refl
natural false false n = refl

negative : (small : Bool) (n : ℕ) → p.plain (cond small (t.i64 (negsuc n)) (t.i128 (negsuc n))) ≡ p.int (negsuc n)
negative true n = refl
negative false n = refl

number : (z : ℤ) → p.plain (p.number_tree z) ≡ p.int z
number (pos n) = natural (nat_lt n (2 ^ 63)) (nat_lt n (2 ^ 64)) n
number (negsuc n) = negative (nat_lt n (2 ^ 63)) n

mutual
  pub plain_made : (q : p.Plain) → p.plain (p.content_of q) ≡ q
  plain_made p.null = refl
  plain_made (p.bool b) = refl
  plain_made (p.int z) = number z
  plain_made (p.text s) = refl
  plain_made (p.list items) = ap p.list (plains_made items)
  plain_made (p.dict held) = ap p.dict (pairs_made held)

  plains_made : (qs : p.Plains) → p.plains (p.trees_made qs) ≡ qs
  plains_made p.no_items = refl
  plains_made (p.item q qs) = ap (λ x. p.item x (p.plains (p.trees_made qs))) (plain_made q) ∙ ap (p.item q) (plains_made qs)

  pairs_made : (es : p.Entries) → p.pair_entries (p.pairs_made es) ≡ es
  pairs_made p.no_entries = refl
  pairs_made (p.entry k v es) =
      ap (λ x. p.entry x (p.plain (p.content_of v)) (p.pair_entries (p.pairs_made es))) (plain_made k)
      ∙ ap (λ x. p.entry k x (p.pair_entries (p.pairs_made es))) (plain_made v) ∙ ap (p.entry k v) (pairs_made es)
