-- A map that a reader made is made of a plain map.
use Rattle.snap_content.proofs.Prelude.{◌≡◌, ℕ, ◌^◌, ℤ, pos, negsuc, Bool, true, false, cond, nat_lt, List, refl, ap, sym, ◌∙◌, tree, pair_list, pair_trees, Pairs, Content, Map}
use Rattle.snap_content.specs.Plain as p
use Rattle.snap_content.specs.Tree as t
use Rattle.snap_content.proofs.Views.{tree-Map}

pub record IsDict (plain : p.Plain) (pairs : List (Content × Content)) : Type 0 where
  pub held : p.Entries
  pub is : plain ≡ p.dict held
  pub made : pair_trees pairs ≡ p.pairs_made held

no_natural : (small middle : Bool) (n : ℕ) (ps : t.TreePairs) → t.map ps ≡ cond small (t.i64 (pos n)) (cond middle (t.u64 n) (t.u128 n)) → ⊥
no_natural true middle n ps e = cc
no_natural false true n ps e = cc
no_natural false false n ps e = cc

no_negative : (small : Bool) (n : ℕ) (ps : t.TreePairs) → t.map ps ≡ cond small (t.i64 (negsuc n)) (t.i128 (negsuc n)) → ⊥
no_negative true n ps e = cc
no_negative false n ps e = cc

no_number : (z : ℤ) (ps : t.TreePairs) → t.map ps ≡ p.number_tree z → ⊥
no_number (pos n) ps e = no_natural (nat_lt n (2 ^ 63)) (nat_lt n (2 ^ 64)) n ps e
no_number (negsuc n) ps e = no_negative (nat_lt n (2 ^ 63)) n ps e

dict_made : (plain : p.Plain) (pairs : List (Content × Content)) → t.map (pair_trees pairs) ≡ p.content_of plain → IsDict plain pairs
dict_made p.null pairs e = absurd (cc)
dict_made (p.bool b) pairs e = absurd (cc)
dict_made (p.int z) pairs e = absurd (no_number z (pair_trees pairs) e)
dict_made (p.text s) pairs e = absurd (cc)
dict_made (p.list items) pairs e = absurd (cc)
dict_made (p.dict held) pairs e = record { held = held; is = refl; made = cc }

pub dict_of : (content : Content) (pairs : Pairs) (plain : p.Plain) → content ≡ Map pairs → tree content ≡ p.content_of plain → IsDict plain (pair_list pairs)
dict_of content pairs plain is made = dict_made plain (pair_list pairs) (sym (tree-Map pairs) ∙ sym (ap tree is) ∙ made)
