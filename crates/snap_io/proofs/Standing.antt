-- What stands where a list of changes stopped, put together from its parts.
use Rattle.snap_io.proofs.Prelude.{◌≡◌, ℕ, ◌+◌, ◌<◌, ◌≤◌, List, [], ◌∷◌, ◌++◌, length, take, drop, get_or, map, Option, None, Some, refl, sym, ◌∙◌, ap, subst, inl, append_assoc, take_more, take-append-drop, take_all, map-append, Files, Change, writes, appends, removes, changed, all_changed, MayLeave, IsInWork, NamesNext, StandsAfter}

-- where one was not begun nothing is left of it
not_begun : (c : Change) (m : Files) (now : Option Files) → now ≡ Some m → MayLeave c m now
not_begun (writes path bytes) m now told = record { files = m; told = told; others = λ q other. refl }
not_begun (appends path bytes) m now told = record { files = m; told = told; others = λ q other. refl }
not_begun (removes path) m now told = inl told

none_begun : (cs : List Change) (m : Files) (now : Option Files) → now ≡ Some m → IsInWork cs m now
none_begun [] m now told = told
none_begun (c ∷ cs) m now told = not_begun c m now told

-- nothing was begun
pub nothing_begun : (cs : List Change) (f f' : Option Files) → f' ≡ f → StandsAfter cs None f f'
nothing_begun cs f f' same = record { done = []; rest = cs; cut = refl; names = tt; stands = λ m e. none_begun cs m f' (same ∙ e) }

all_changed-append : (a b : List Change) (m : Files) → all_changed (a ++ b) m ≡ all_changed b (all_changed a m)
all_changed-append [] b m = refl
all_changed-append (c ∷ a) b m = all_changed-append a b (changed c m)

still_in_work : (rest b : List Change) (m : Files) (now : Option Files) → IsInWork rest m now → IsInWork (rest ++ b) m now
still_in_work [] b m now e = none_begun b m now e
still_in_work (c ∷ rest) b m now h = h

still_named : (named : Option (List ℕ)) (rest b : List Change) → NamesNext named rest → NamesNext named (rest ++ b)
still_named None rest b h = tt
still_named (Some path) [] b h = absurd h
still_named (Some path) (c ∷ rest) b h = h

-- the work stopped in its first part
pub stands_first : (a b : List Change) (named : Option (List ℕ)) (f f' : Option Files) → StandsAfter a named f f' → StandsAfter (a ++ b) named f f'
stands_first a b named f f' s = record {
  done = s.done;
  rest = s.rest ++ b;
  cut = ap (λ t. t ++ b) s.cut ∙ append_assoc s.done s.rest b;
  names = still_named named s.rest b s.names;
  stands = λ m e. still_in_work s.rest b (all_changed s.done m) f' (s.stands m e);
}

-- the first part is done, and the work stopped in the second
pub stands_later : (a b : List Change) (named : Option (List ℕ)) (f f' f'' : Option Files) → ((m : Files) → f ≡ Some m → f' ≡ Some (all_changed a m))
    → StandsAfter b named f' f'' → StandsAfter (a ++ b) named f f''
stands_later a b named f f' f'' all s = record {
  done = a ++ s.done;
  rest = s.rest;
  cut = ap (λ t. a ++ t) s.cut ∙ sym (append_assoc a s.done s.rest);
  names = s.names;
  stands = λ m e. subst (λ t. IsInWork s.rest t f'') (sym (all_changed-append a s.done m)) (s.stands (all_changed a m) (all m e));
}

-- both parts are done
pub both_done : (a b : List Change) (f f' f'' : Option Files) → ((m : Files) → f ≡ Some m → f' ≡ Some (all_changed a m)) → ((m : Files) → f' ≡ Some m → f'' ≡ Some (all_changed b m))
    → (m : Files) → f ≡ Some m → f'' ≡ Some (all_changed (a ++ b) m)
both_done a b f f' f'' first later m e = later (all_changed a m) (first m e) ∙ ap Some (sym (all_changed-append a b m))

-- one change was in work when the store failed, or when memory was wanting
pub in_work : (c : Change) (named : Option (List ℕ)) (f f' : Option Files) → NamesNext named (c ∷ []) → ((m : Files) → f ≡ Some m → MayLeave c m f') → StandsAfter (c ∷ []) named f f'
in_work c named f f' names left = record { done = []; rest = c ∷ []; cut = refl; names = names; stands = left }

-- a list is what stands before a place of it, what stands there, and what stands behind
pub at_place : {A : Type 0} → (xs : List A) (i : ℕ) (x : A) → i < length xs → x ≡ get_or xs i x → xs ≡ take i xs ++ x ∷ drop (i + 1) xs
at_place xs i x h is =
    sym (take-append-drop (i + 1) xs)
    ∙ ap (λ t. t ++ drop (i + 1) xs) (take_more xs i x h ∙ ap (λ y. take i xs ++ y ∷ []) (sym is))
    ∙ append_assoc (take i xs) (x ∷ []) (drop (i + 1) xs)

-- one more was removed
pub one_gone : (ps : List (List ℕ)) (i : ℕ) (p : List ℕ) (m : Files) → i < length ps → p ≡ get_or ps i p
    → all_changed (map removes (take (i + 1) ps)) m ≡ changed (removes p) (all_changed (map removes (take i ps)) m)
one_gone ps i p m h is =
    ap (λ t. all_changed (map removes t) m) (take_more ps i p h ∙ ap (λ y. take i ps ++ y ∷ []) (sym is))
    ∙ ap (λ t. all_changed t m) (map-append removes (take i ps) (p ∷ []))
    ∙ all_changed-append (map removes (take i ps)) (removes p ∷ []) m

pub all_gone : (ps : List (List ℕ)) (i : ℕ) (m : Files) → length ps ≤ i → all_changed (map removes (take i ps)) m ≡ all_changed (map removes ps) m
all_gone ps i m h = ap (λ t. all_changed (map removes t) m) (take_all i ps h)

-- the removals stopped at this place
pub stopped_at : (ps : List (List ℕ)) (i : ℕ) (p : List ℕ) (named : Option (List ℕ)) (f f' f'' : Option Files) → i < length ps → p ≡ get_or ps i p
    → ((m : Files) → f ≡ Some m → f' ≡ Some (all_changed (map removes (take i ps)) m)) → StandsAfter (removes p ∷ []) named f' f'' → StandsAfter (map removes ps) named f f''
stopped_at ps i p named f f' f'' h is before s =
    let behind : List Change = map removes (drop (i + 1) ps) in
    let cut : map removes ps ≡ map removes (take i ps) ++ removes p ∷ behind = ap (map removes) (at_place ps i p h is) ∙ map-append removes (take i ps) (p ∷ drop (i + 1) ps) in
    subst (λ cs. StandsAfter cs named f f'') (sym cut)
    (stands_later (map removes (take i ps)) (removes p ∷ behind) named f f' f'' before (stands_first (removes p ∷ []) behind named f' f'' s))
