-- A tree's entries, and the finite map that they stand for.
use Rattle.snap_io.proofs.Prelude.{◌≡◌, ℕ, ◌+◌, List, [], ◌∷◌, length, Option, None, Some, cond, refl, sym, ◌∙◌, ap, arith, is_some, AllByRecursion, IsStrictlySortedBy, nat_cmp, eq_by_cmp, is_eq, Less, slice_cmp, lookup, keys_of, is_at, nat_list_cmp_total, eq_by_cmp_equiv, sorted_head, sorted_tail, insert, remove, get, len, from_entries, find, get-from_entries, get-insert, get-remove, len-empty, len-insert, same_map, slice_cmp-IsAntisymmetric, nat_cmp-IsAntisymmetric, IsAntisymmetric, Files}

-- paths that tie are equal
pub same_key : IsAntisymmetric (slice_cmp nat_cmp)
same_key = slice_cmp-IsAntisymmetric nat_cmp-IsAntisymmetric

found : (q : List ℕ) (es : List (List ℕ × List ℕ)) → find (slice_cmp nat_cmp) q es ≡ lookup (is_at (slice_cmp nat_cmp q)) es
found q [] = refl
found q (e ∷ es) = ap (cond (eq_by_cmp (slice_cmp nat_cmp) q e.0) (Some e.1)) (found q es)

-- what a look-up finds among the entries
pub get-entries : (es : List (List ℕ × List ℕ)) (q : List ℕ) → get (from_entries {R = slice_cmp nat_cmp} es) q ≡ lookup (is_at (slice_cmp nat_cmp q)) es
get-entries es q = get-from_entries nat_list_cmp_total es q ∙ found q es

-- entries with v at k, and with each other path as before
pub inserted : (es fs : List (List ℕ × List ℕ)) (k v : List ℕ)
    → ((q : List ℕ) → lookup (is_at (slice_cmp nat_cmp q)) fs ≡ cond (is_at (slice_cmp nat_cmp k) q) (Some v) (lookup (is_at (slice_cmp nat_cmp q)) es))
    → from_entries {R = slice_cmp nat_cmp} fs ≡ insert (from_entries es) k v
inserted es fs k v each = same_map nat_list_cmp_total same_key _ _ (λ q.
    get-entries fs q ∙ each q
    ∙ ap (λ b. cond b (Some v) (lookup (is_at (slice_cmp nat_cmp q)) es)) ((eq_by_cmp_equiv nat_list_cmp_total).symm k q)
    ∙ ap (cond (eq_by_cmp (slice_cmp nat_cmp) q k) (Some v)) (sym (get-entries es q))
    ∙ sym (get-insert nat_list_cmp_total (from_entries es) k v q))

-- entries without k, and with each other path as before
pub removed : (es fs : List (List ℕ × List ℕ)) (k : List ℕ)
    → ((q : List ℕ) → lookup (is_at (slice_cmp nat_cmp q)) fs ≡ cond (is_at (slice_cmp nat_cmp k) q) None (lookup (is_at (slice_cmp nat_cmp q)) es))
    → from_entries {R = slice_cmp nat_cmp} fs ≡ remove (from_entries es) k
removed es fs k each = same_map nat_list_cmp_total same_key _ _ (λ q.
    get-entries fs q ∙ each q
    ∙ ap (λ b. cond b None (lookup (is_at (slice_cmp nat_cmp q)) es)) ((eq_by_cmp_equiv nat_list_cmp_total).symm k q)
    ∙ ap (cond (eq_by_cmp (slice_cmp nat_cmp) q k) None) (sym (get-entries es q))
    ∙ sym (get-remove nat_list_cmp_total (from_entries es) k q))

-- a path below all others isn't among them
none_below : (k : List ℕ) (es : List (List ℕ × List ℕ)) → AllByRecursion (λ y. slice_cmp nat_cmp k y ≡ Less) (keys_of es) → lookup (is_at (slice_cmp nat_cmp k)) es ≡ None
none_below k [] h = refl
none_below k (e ∷ es) h = ap (λ r. cond (is_eq r) (Some e.1) (lookup (is_at (slice_cmp nat_cmp k)) es)) h.0 ∙ none_below k es h.1

-- in order, each entry is a file
pub len-entries : (es : List (List ℕ × List ℕ)) → IsStrictlySortedBy (slice_cmp nat_cmp) (keys_of es) → len (from_entries {R = slice_cmp nat_cmp} es) ≡ length es
len-entries [] s = len-empty (slice_cmp nat_cmp) (List ℕ)
len-entries (e ∷ es) s =
    let m : Files = from_entries es in
    let none : get m e.0 ≡ None = get-entries es e.0 ∙ none_below e.0 es (sorted_head (slice_cmp nat_cmp) e.0 (keys_of es) s) in
    let rest : len m ≡ length es = len-entries es (sorted_tail (slice_cmp nat_cmp) e.0 (keys_of es) s) in
    len-insert nat_list_cmp_total m e.0 e.1 ∙ ap (λ (o : Option (List ℕ)). cond (is_some o) (len m) (len m + 1)) none ∙ (omega arith)
