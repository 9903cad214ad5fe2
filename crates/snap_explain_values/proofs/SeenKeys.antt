-- Keys that were seen, one pair after the other.
use Rattle.snap_explain_values.proofs.Prelude.{◌≡◌, ◌||◌, ◌<◌, ◌≤◌, ◌+◌, ℕ, Bool, true, false, cond, not, List, [], ◌∷◌, ◌++◌, length, take, drop, map, get_or, take_more, take_all, take-append-drop, map-append, refl, sym, ap, ◌∙◌, Bor, Content, tree, pair_trees, list_any, is_same, stands_in, has_twice, keys_in}
use Rattle.snap_explain_values.proofs.Tests.{any_push, neither}
use Rattle.snap_explain_values.proofs.SameTrees.{same_turned}
use Rattle.snap_explain_values.proofs.TwiceKeys.{twice_push, twice_beginning}
use Rattle.snap_content.specs.Tree as t

abbrev pub key_tree : Content × Content → t.Tree
key_tree p = tree p.0

-- the pair has a key as this one
abbrev pub same_as : Bor Content → Content × Content → Bool
same_as q p = is_same (tree q.now) (tree p.0)

abbrev pub is_one_of : Bor Content → List (Bor Content) → Bool
is_one_of q ks = list_any (λ k. is_same (tree q.now) (tree k.now)) ks

keys_of : (ps : List (Content × Content)) → keys_in (pair_trees ps) ≡ map key_tree ps
keys_of [] = refl
keys_of (p ∷ ps) = ap (λ ks. tree p.0 ∷ ks) (keys_of ps)

among_keys : (q : Bor Content) (ps : List (Content × Content)) → stands_in (tree q.now) (map key_tree ps) ≡ list_any (same_as q) ps
among_keys q [] = refl
among_keys q (p ∷ ps) = ap (λ b. same_as q p || b) (among_keys q ps)

either : (a b : Bool) → cond a true b ≡ (b || (a || false))
either true true = refl
either true false = refl
either false true = refl
either false false = refl

-- the key of a pair, lent
abbrev pub lent_key : Content × Content → Bor Content
lent_key p = record { ref_ptr = (0, 0); now = p.0 }

module _ (ps : List (Content × Content)) (i : ℕ) (p : Content × Content) (within : i < length ps) (is : p ≡ get_or ps i p) where
  pub seen_more : (old now : List (Bor Content)) → ((q : Bor Content) → is_one_of q old ≡ list_any (same_as q) (take i ps))
      → ((q : Bor Content) → is_one_of q now ≡ cond (is_same (tree p.0) (tree q.now)) true (is_one_of q old)) → (q : Bor Content) → is_one_of q now ≡ list_any (same_as q) (take (i + 1) ps)
  seen_more old now s u q =
      u q ∙ ap (λ b. cond b true (is_one_of q old)) (same_turned (tree p.0) (tree q.now))
      ∙ ap (λ b. cond (same_as q p) true b) (s q) ∙ either (same_as q p) (list_any (same_as q) (take i ps)) ∙ sym (any_push (same_as q) ps i p within is)

  -- one more key
  pushed : has_twice (map key_tree (take (i + 1) ps)) ≡ (list_any (same_as (lent_key p)) (take i ps) || has_twice (map key_tree (take i ps)))
  pushed =
      ap (λ l. has_twice (map key_tree l)) (take_more ps i p within ∙ ap (λ y. take i ps ++ y ∷ []) (sym is))
      ∙ ap has_twice (map-append key_tree (take i ps) (p ∷ []))
      ∙ twice_push (map key_tree (take i ps)) (tree p.0) ∙ ap (λ b. b || has_twice (map key_tree (take i ps))) (among_keys (lent_key p) (take i ps))

  pub once_more : (old : List (Bor Content)) → ((q : Bor Content) → is_one_of q old ≡ list_any (same_as q) (take i ps)) → is_one_of (lent_key p) old ≡ false
      → has_twice (map key_tree (take i ps)) ≡ false → has_twice (map key_tree (take (i + 1) ps)) ≡ false
  once_more old s new once = pushed ∙ neither (list_any (same_as (lent_key p)) (take i ps)) (has_twice (map key_tree (take i ps))) (sym (s (lent_key p)) ∙ new) once

  pub twice_here : (old : List (Bor Content)) → ((q : Bor Content) → is_one_of q old ≡ list_any (same_as q) (take i ps)) → is_one_of (lent_key p) old ≡ true
      → has_twice (keys_in (pair_trees ps)) ≡ true
  twice_here old s seen =
      ap has_twice (keys_of ps ∙ ap (map key_tree) (sym (take-append-drop (i + 1) ps)) ∙ map-append key_tree (take (i + 1) ps) (drop (i + 1) ps))
      ∙ twice_beginning (map key_tree (take (i + 1) ps)) (map key_tree (drop (i + 1) ps))
      (pushed ∙ ap (λ b. b || has_twice (map key_tree (take i ps))) (sym (s (lent_key p)) ∙ seen))

pub once_all : (ps : List (Content × Content)) (i : ℕ) → length ps ≤ i → has_twice (map key_tree (take i ps)) ≡ false → has_twice (keys_in (pair_trees ps)) ≡ false
once_all ps i h once = ap has_twice (keys_of ps ∙ ap (map key_tree) (sym (take_all i ps h))) ∙ once

-- what a set tells of a key that it was given
pub told_new : (new seen : Bool) → new ≡ not seen → new ≡ true → seen ≡ false
told_new new true e f = absurd (cc (sym e ∙ f))
told_new new false e f = refl

pub told_seen : (new seen : Bool) → new ≡ not seen → new ≡ false → seen ≡ true
told_seen new true e f = refl
told_seen new false e f = absurd (cc (sym e ∙ f))
