-- The keys of pairs, and how often each stands there.
use Rattle.snap_run_requests.proofs.Prelude.{◌≡◌, ℕ, arith, ◌<◌, ◌≤◌, ◌+◌, ◌&&◌, Bool, true, false, List, [], ◌∷◌, map, cond, take, take_all, Some, option_map, get_or, length, refl, ap, sym, ◌∙◌, slice_get, list_all, count_by, tree, pair_trees, Content}
use Rattle.std.proofs.lemmas.Option.{slice_get-get_or, slice_get-map}
use Rattle.std.proofs.lemmas.List.Folds.{list_all-map, list_all_more}
use Rattle.std.proofs.lemmas.List.Sums.{sum_by-cons}
use Rattle.snap_content.specs.Tree.{Tree}
use Rattle.snap_run_requests.specs.Keys.{keys_in, is_one_of}
use Rattle.snap_run_requests.specs.Faults.{IsUnknownAt}
use Rattle.snap_run_requests.specs.declared.key.Key.{Key}
use Rattle.snap_run_requests.specs.declared.key.Key.TheVariants.{Module, File, Line, Name, Function, Suffix, Expr, Value, Redactions, Sort, At, Put, Duplicates}

abbrev pub key_of : Content × Content → Tree
key_of q = tree q.0

keys_made : (qs : List (Content × Content)) → keys_in (pair_trees qs) ≡ map key_of qs
keys_made [] = refl
keys_made (q ∷ qs) = ap (λ ts. tree q.0 ∷ ts) (keys_made qs)

-- the counting of pairs by their keys is the counting of keys
pub counted : (test : Tree → Bool) (qs : List (Content × Content)) → count_by (λ q. test (tree q.0)) qs ≡ count_by test (keys_in (pair_trees qs))
counted test [] = refl
counted test (q ∷ qs) =
    sum_by-cons (λ x. cond (test (tree x.0)) 1 0) q qs ∙ ap (λ n. cond (test (tree q.0)) 1 0 + n) (counted test qs)
    ∙ sym (sum_by-cons (λ t. cond (test t) 1 0) (tree q.0) (keys_in (pair_trees qs)))

-- the pairs before this place have keys of these
abbrev pub are_so : List Key → List (Content × Content) → ℕ → Bool
are_so keys qs i = list_all (λ q. is_one_of keys (tree q.0)) (take i qs)

pub one_more : (keys : List Key) (qs : List (Content × Content)) (i : ℕ) (q : Content × Content) → i < length qs → q ≡ get_or qs i q → are_so keys qs i ≡ true
    → is_one_of keys (tree q.0) ≡ true → are_so keys qs (i + 1) ≡ true
one_more keys qs i q within is so_far here =
    list_all_more (λ x. is_one_of keys (tree x.0)) qs i q within ∙ ap (λ b. b && is_one_of keys (tree (get_or qs i q).0)) so_far
    ∙ ap (λ x. is_one_of keys (tree x.0)) (sym is) ∙ here

pub all_known : (keys : List Key) (qs : List (Content × Content)) (i : ℕ) → length qs ≤ i → are_so keys qs i ≡ true → list_all (is_one_of keys) (keys_in (pair_trees qs)) ≡ true
all_known keys qs i end so_far =
    ap (list_all (is_one_of keys)) (keys_made qs) ∙ list_all-map (is_one_of keys) key_of qs
    ∙ ap (list_all (λ q. is_one_of keys (tree q.0))) (sym (take_all i qs end)) ∙ so_far

pub unknown_at : (keys : List Key) (qs : List (Content × Content)) (i : ℕ) (q : Content × Content) → i < length qs → q ≡ get_or qs i q → is_one_of keys (tree q.0) ≡ false
    → IsUnknownAt keys (pair_trees qs) i
unknown_at keys qs i q within is other = record {
  key = tree q.0;
  there = ap (λ ts. slice_get ts i) (keys_made qs) ∙ slice_get-map key_of qs i ∙ ap (option_map key_of) (slice_get-get_or qs i q within) ∙ ap (λ x. Some (key_of x)) (sym is);
  other = other;
}

abbrev pub all_keys : List Key
all_keys = Module ∷ File ∷ Line ∷ Name ∷ Function ∷ Suffix ∷ Expr ∷ Value ∷ Redactions ∷ Sort ∷ At ∷ Put ∷ Duplicates ∷ []

-- what holds of each key of the list of all, holds of every key
pub of_each : (P : Key → Type 0) → ((k : ℕ) → k < 13 → P (get_or all_keys k Module)) → (key : Key) → P key
of_each P h Module = h 0 (omega arith)
of_each P h File = h 1 (omega arith)
of_each P h Line = h 2 (omega arith)
of_each P h Name = h 3 (omega arith)
of_each P h Function = h 4 (omega arith)
of_each P h Suffix = h 5 (omega arith)
of_each P h Expr = h 6 (omega arith)
of_each P h Value = h 7 (omega arith)
of_each P h Redactions = h 8 (omega arith)
of_each P h Sort = h 9 (omega arith)
of_each P h At = h 10 (omega arith)
of_each P h Put = h 11 (omega arith)
of_each P h Duplicates = h 12 (omega arith)
