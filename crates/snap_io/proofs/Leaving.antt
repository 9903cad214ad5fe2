-- Files at the paths of no change are as before, wherever the changes stopped.
use Rattle.snap_io.proofs.Prelude.{◌≡◌, ◌≢◌, ℕ, Bool, true, false, cond, ◌||◌, List, [], ◌∷◌, ◌++◌, Option, None, Some, refl, sym, ap, ◌∙◌, inl, inr, nat_list_cmp_total, list_any-append, is_eq-slice_cmp, bytes_eq-Decides, get, insert, remove, get-insert, get-remove, list_any, unwrap_or, bytes_eq, or_left, or_right, Files, Change, writes, appends, removes, path_in, changed, all_changed, MayLeave, LeavesOthers, StandsAfter, IsInWork}

insert_far : (m : Files) (k v q : List ℕ) → bytes_eq q k ≡ false → get (insert m k v) q ≡ get m q
insert_far m k v q h = get-insert nat_list_cmp_total m k v q ∙ ap (λ b. cond b (Some v) (get m q)) (is_eq-slice_cmp q k ∙ h)

remove_far : (m : Files) (k q : List ℕ) → bytes_eq q k ≡ false → get (remove m k) q ≡ get m q
remove_far m k q h = get-remove nat_list_cmp_total m k q ∙ ap (λ b. cond b None (get m q)) (is_eq-slice_cmp q k ∙ h)

changed_far : (c : Change) (m : Files) (q : List ℕ) → bytes_eq q (path_in c) ≡ false → get (changed c m) q ≡ get m q
changed_far (writes path bytes) m q h = insert_far m path bytes q h
changed_far (appends path bytes) m q h = insert_far m path (unwrap_or (get m path) [] ++ bytes) q h
changed_far (removes path) m q h = remove_far m path q h

all_far : (cs : List Change) (m : Files) (q : List ℕ) → list_any (λ c. bytes_eq q (path_in c)) cs ≡ false → get (all_changed cs m) q ≡ get m q
all_far [] m q h = refl
all_far (c ∷ cs) m q h =
    all_far cs (changed c m) q (or_right (bytes_eq q (path_in c)) (list_any (λ x. bytes_eq q (path_in x)) cs) h)
    ∙ changed_far c m q (or_left (bytes_eq q (path_in c)) (list_any (λ x. bytes_eq q (path_in x)) cs) h)

differs : (q p : List ℕ) → bytes_eq q p ≡ false → q ≢ p
differs q p e same = let t = (bytes_eq-Decides q p).1 same in cc (t, e)

-- one change that is in work leaves the others
one_leaves : (c : Change) (m : Files) (now : Option Files) → MayLeave c m now → LeavesOthers (c ∷ []) m now
one_leaves (writes path bytes) m now s = record { files = s.files; told = s.told; others = λ q h. s.others q (differs q path (or_left (bytes_eq q path) false h)) }
one_leaves (appends path bytes) m now s = record { files = s.files; told = s.told; others = λ q h. s.others q (differs q path (or_left (bytes_eq q path) false h)) }
one_leaves (removes path) m now (inl told) = record { files = m; told = told; others = λ q h. refl }
one_leaves (removes path) m now (inr told) = record { files = remove m path; told = told; others = λ q h. remove_far m path q (or_left (bytes_eq q path) false h) }

work_leaves : (cs : List Change) (m : Files) (now : Option Files) → IsInWork cs m now → LeavesOthers cs m now
work_leaves [] m now told = record { files = m; told = told; others = λ q h. refl }
work_leaves (c ∷ cs) m now s =
    let one = one_leaves c m now s in
    record {
      files = one.files;
      told = one.told;
      others = λ q h. one.others q (ap (λ b. b || false) (or_left (bytes_eq q (path_in c)) (list_any (λ x. bytes_eq q (path_in x)) cs) h));
    }

pub leaves_others : (cs : List Change) (named : Option (List ℕ)) (m : Files) (now : Option Files) → StandsAfter cs named (Some m) now → LeavesOthers cs m now
leaves_others cs named m now s =
    let rest = work_leaves s.rest (all_changed s.done m) now (s.stands m refl) in
    record {
      files = rest.files;
      told = rest.told;
      others = λ q h.
          let both = sym (list_any-append (λ c. bytes_eq q (path_in c)) s.done s.rest) ∙ sym (ap (list_any (λ c. bytes_eq q (path_in c))) s.cut) ∙ h in
          rest.others q (or_right (list_any (λ c. bytes_eq q (path_in c)) s.done) (list_any (λ c. bytes_eq q (path_in c)) s.rest) both)
          ∙ all_far s.done m q (or_left (list_any (λ c. bytes_eq q (path_in c)) s.done) (list_any (λ c. bytes_eq q (path_in c)) s.rest) both);
    }
