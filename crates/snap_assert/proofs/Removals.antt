-- Files removed one by one, and all at once.
use Rattle.snap_assert.proofs.Prelude.{◌≡◌, ◌≢◌, ℕ, ◌+◌, ◌<◌, ◌≤◌, Bool, true, false, not, cond, ◌||◌, List, [], ◌∷◌, ◌++◌, length, take, get_or, Option, None, Some, refl, sym, ◌∙◌, ap, is_some, take_more, take_all, bytes_eq-Decides, bytes_eq, list_any, get, insert, remove, get-insert, get-remove, get-retain_keys, same_map, slice_cmp-IsAntisymmetric, nat_cmp-IsAntisymmetric, Files, remove_each, is_among, is_stray, cleared, AreStrays}
use Rattle.std.proofs.lemmas.Cmp.{nat_list_cmp_total}
use Rattle.std.proofs.lemmas.Map.Text.{is_eq-slice_cmp}

remove_each-push : (ps : List (List ℕ)) (p : List ℕ) (m : Files) → remove_each (ps ++ p ∷ []) m ≡ remove (remove_each ps m) p
remove_each-push [] p m = refl
remove_each-push (x ∷ ps) p m = remove_each-push ps p (remove m x)

pub one_more : (ps : List (List ℕ)) (i : ℕ) (p : List ℕ) (m : Files) → i < length ps → p ≡ get_or ps i p → remove_each (take (i + 1) ps) m ≡ remove (remove_each (take i ps) m) p
one_more ps i p m h is = ap (λ t. remove_each t m) (take_more ps i p h ∙ ap (λ x. take i ps ++ x ∷ []) (sym is)) ∙ remove_each-push (take i ps) p m

pub all_gone : (ps : List (List ℕ)) (i : ℕ) (m : Files) → length ps ≤ i → remove_each (take i ps) m ≡ remove_each ps m
all_gone ps i m h = ap (λ t. remove_each t m) (take_all i ps h)

pub differs : (q p : List ℕ) → bytes_eq q p ≡ false → q ≢ p
differs q p e same = let t = (bytes_eq-Decides q p).1 same in cc (t, e)

pub get-removed : (m : Files) (k q : List ℕ) → get (remove m k) q ≡ cond (bytes_eq q k) None (get m q)
get-removed m k q = get-remove nat_list_cmp_total m k q ∙ ap (λ b. cond b None (get m q)) (is_eq-slice_cmp q k)

pub get-remove_each : (ps : List (List ℕ)) (m : Files) (q : List ℕ) → get (remove_each ps m) q ≡ cond (list_any (bytes_eq q) ps) None (get m q)
get-remove_each [] m q = refl
get-remove_each (p ∷ ps) m q =
    get-remove_each ps (remove m p) q
    ∙ ap (cond (list_any (bytes_eq q) ps) None) (get-removed m p q)
    ∙ either (bytes_eq q p) (list_any (bytes_eq q) ps) (get m q)
  where
    either : (a b : Bool) (o : Option (List ℕ)) → cond b None (cond a None o) ≡ cond (a || b) None o
    either true true o = refl
    either true false o = refl
    either false true o = refl
    either false false o = refl

-- where the strays cover what is there, to leave them out is to leave out all that is stray
left_out : (among stray : Bool) (o : Option (List ℕ)) → (among ≡ true → stray ≡ true) → (stray ≡ true → is_some o ≡ true → among ≡ true) → cond among None o ≡ cond (not stray) o None
left_out true true o all covers = refl
left_out true false o all covers = let clash = all refl in cc clash
left_out false true None all covers = refl
left_out false true (Some v) all covers = let clash = covers refl refl in cc clash
left_out false false o all covers = refl

pub get-cleared : (path : List ℕ) (m : Files) (q : List ℕ) → get (cleared path m) q ≡ cond (not (is_stray path q)) (get m q) None
get-cleared path m q = get-retain_keys m (λ x. not (is_stray path x)) q (λ x e. ap (λ x. not (is_stray path x)) (sym (slice_cmp-IsAntisymmetric nat_cmp-IsAntisymmetric q x e)))

-- to remove each stray path is to keep the others
pub strays_gone : (path : List ℕ) (m : Files) (strays : List (List ℕ)) → AreStrays path m strays → remove_each strays m ≡ cleared path m
strays_gone path m strays s = same_map nat_list_cmp_total (slice_cmp-IsAntisymmetric nat_cmp-IsAntisymmetric) _ _ (λ q.
    get-remove_each strays m q ∙ left_out (is_among strays q) (is_stray path q) (get m q) (s.all q) (s.covers q) ∙ sym (get-cleared path m q))

pub insert_far : (m : Files) (k v q : List ℕ) → bytes_eq q k ≡ false → get (insert m k v) q ≡ get m q
insert_far m k v q h = get-insert nat_list_cmp_total m k v q ∙ ap (λ b. cond b (Some v) (get m q)) (is_eq-slice_cmp q k ∙ h)
