-- What is known of a store's folders goes on through listings, removals and writes.
use Rattle.snap_assert.proofs.Prelude.{◌≡◌, ◌+◌, ◌<◌, ◌≤◌, ◌||◌, ◌&&◌, ℕ, Bool, true, false, cond, List, [], ◌∷◌, ◌++◌, length, take, get_or, Option, None, Some, refl, sym, ap, ◌∙◌, subst, take_more, take_all, is_some, bytes_eq, bytes_eq-Decides, list_any, filter, get, insert, remove, get-insert, Files, parent_of, joined, is_stray, pending_path, cleared, remove_each, is_among, Asked, Meta, without_line, written, passed_files, step, AllStray, AreStrays, Covers, CoversAt, MayWait, WaitsStill, Update, InPlace, NewFile, NoUpdate}
use Rattle.std.specs.BTreeMap.{is_at}
use Rattle.std.specs.Cmp.Lexicographic.{slice_cmp}
use Rattle.std.specs.List.Sorted.{IsStrictlySortedBy}
use Rattle.std.specs.Ordering.{nat_cmp}
use Rattle.std.proofs.lemmas.Cmp.{nat_list_cmp_total}
use Rattle.std.proofs.lemmas.List.Folds.{list_any-append}
use Rattle.std.proofs.lemmas.List.Kept.{IsStrictlySortedBy-filter}
use Rattle.std.proofs.lemmas.Map.Text.{is_eq-slice_cmp}
use Rattle.snap_io.specs.Changes.{all_changed}
use Rattle.snap_io.specs.Listed.{AreNames}
use Rattle.snap_assert_place.specs.SnapshotPath.{IsFilePath}
use Rattle.snap_assert.specs.Session.{text_cmp}
use Rattle.snap_assert.specs.Steps.{saved_as}
use Rattle.snap_assert.specs.Subjects.{Subject, tree_with, text_as, payload_with, extension_in}
use Rattle.snap_assert.proofs.Removals.{get-removed, get-remove_each}
use Rattle.snap_assert.proofs.StrayPaths.{stray_named, filtered}

-- the library's test of a set of texts
pub among_keys : (q : List ℕ) (ks : List (List ℕ)) → list_any (is_at (slice_cmp nat_cmp q)) ks ≡ is_among ks q
among_keys q [] = refl
among_keys q (k ∷ ks) = ap (λ b. b || list_any (is_at (slice_cmp nat_cmp q)) ks) (is_eq-slice_cmp q k) ∙ ap (λ b. bytes_eq q k || b) (among_keys q ks)

-- one more key, or one fewer
pub updated : (old now : List (List ℕ)) (k : List ℕ) (there : Bool)
    → ((q : List ℕ) → list_any (is_at (slice_cmp nat_cmp q)) now ≡ cond (is_at (slice_cmp nat_cmp k) q) there (list_any (is_at (slice_cmp nat_cmp q)) old))
    → (q : List ℕ) → is_among now q ≡ cond (bytes_eq k q) there (is_among old q)
updated old now k there u q =
    sym (among_keys q now) ∙ u q ∙ ap (λ b. cond b there (list_any (is_at (slice_cmp nat_cmp q)) old)) (is_eq-slice_cmp k q)
    ∙ ap (cond (bytes_eq k q) there) (among_keys q old)

-- the same of the key by another name
pub inserted_as : (old now : List (List ℕ)) (k k' : List ℕ) → k ≡ k' → ((q : List ℕ) → is_among now q ≡ cond (bytes_eq k q) true (is_among old q)) → (q : List ℕ) → is_among now q ≡ cond (bytes_eq k' q) true (is_among old q)
inserted_as old now k k' is u q = u q ∙ ap (λ x. cond (bytes_eq x q) true (is_among old q)) is

same : (q : List ℕ) → bytes_eq q q ≡ true
same q = (bytes_eq-Decides q q).1 refl

pub inserted_still : (old now : List (List ℕ)) (k : List ℕ) → ((q : List ℕ) → is_among now q ≡ cond (bytes_eq k q) true (is_among old q)) → WaitsStill old now
inserted_still old now k u q h = u q ∙ either (bytes_eq k q) (is_among old q) h
  where
    either : (a b : Bool) → b ≡ true → cond a true b ≡ true
    either true b e = refl
    either false b e = e

pub inserted_itself : (old now : List (List ℕ)) (k : List ℕ) → ((q : List ℕ) → is_among now q ≡ cond (bytes_eq k q) true (is_among old q)) → is_among now k ≡ true
inserted_itself old now k u = u k ∙ ap (λ b. cond b true (is_among old k)) (same k)

one_more_among : (xs : List (List ℕ)) (i : ℕ) (x q : List ℕ) → i < length xs → x ≡ get_or xs i x → is_among (take (i + 1) xs) q ≡ (is_among (take i xs) q || (bytes_eq q x || false))
one_more_among xs i x q h is =
    ap (λ t. is_among t q) (take_more xs i x h ∙ ap (λ y. take i xs ++ y ∷ []) (sym is)) ∙ list_any-append (bytes_eq q) (take i xs) (x ∷ [])

-- the names of the listing so far wait where a payload may have left them
pub record IsKeeping (old now : List (List ℕ)) (folder : List ℕ) (names : List (List ℕ)) (i : ℕ) : Type 0 where
  pub still : WaitsStill old now
  pub waits : (file name : List ℕ) → is_among (take i names) name ≡ true → is_stray file name ≡ true → is_among now (joined folder name) ≡ true

pub keeping_begins : (old : List (List ℕ)) (folder : List ℕ) (names : List (List ℕ)) → IsKeeping old old folder names 0
keeping_begins old folder names = record { still = λ q h. h; waits = λ file name among stray. absurd (cc among) }

pub keeping_on : (old now next : List (List ℕ)) (folder : List ℕ) (names : List (List ℕ)) (i : ℕ) (n : List ℕ) → i < length names → n ≡ get_or names i n → IsKeeping old now folder names i → WaitsStill now next
    → ((file : List ℕ) → is_stray file n ≡ true → is_among next (joined folder n) ≡ true) → IsKeeping old next folder names (i + 1)
keeping_on old now next folder names i n h is k more new = record {
  still = λ q e. more q (k.still q e);
  waits = λ file name among stray. one_of file name (is_among (take i names) name) (bytes_eq name n) refl refl (sym (one_more_among names i n name h is) ∙ among) stray;
}
  where
    one_of : (file name : List ℕ) (a b : Bool) → is_among (take i names) name ≡ a → bytes_eq name n ≡ b → (a || (b || false)) ≡ true → is_stray file name ≡ true → is_among next (joined folder name) ≡ true
    one_of file name true b before at e stray = more (joined folder name) (k.waits file name before stray)
    one_of file name false true before at e stray =
        let it : name ≡ n = (bytes_eq-Decides name n).0 at in
        ap (λ x. is_among next (joined folder x)) it ∙ new file (ap (is_stray file) (sym it) ∙ stray)
    one_of file name false false before at e stray = absurd (cc e)

pub keeping_ends : (old now : List (List ℕ)) (folder : List ℕ) (names : List (List ℕ)) (i : ℕ) → length names ≤ i → IsKeeping old now folder names i
    → (file name : List ℕ) → is_among names name ≡ true → is_stray file name ≡ true → is_among now (joined folder name) ≡ true
keeping_ends old now folder names i over k file name among stray = k.waits file name (ap (λ xs. is_among xs name) (take_all i names over) ∙ among) stray

-- a folder that was listed is covered
pub folder_covered : (m : Files) (folder : List ℕ) (names folders folders' folders'' waiting waiting' : List (List ℕ)) → AreNames m folder names → Covers m folders waiting → folders' ≡ folders
    → ((q : List ℕ) → is_among folders'' q ≡ cond (bytes_eq folder q) true (is_among folders' q)) → WaitsStill waiting waiting'
    → ((file name : List ℕ) → is_among names name ≡ true → is_stray file name ≡ true → is_among waiting' (joined folder name) ≡ true) → Covers m folders'' waiting'
folder_covered m folder names folders folders' folders'' w w' l c kept more still waits =
    record { each = λ path q file listed stray there. by path q file (bytes_eq folder (parent_of path)) refl (sym (more (parent_of path)) ∙ listed) stray there }
  where
    by : (path q : List ℕ) → IsFilePath path → (b : Bool) → bytes_eq folder (parent_of path) ≡ b → cond b true (is_among folders' (parent_of path)) ≡ true → is_stray path q ≡ true → is_some (get m q) ≡ true → is_among w' q ≡ true
    by path q file true is listed stray there =
        let n = stray_named path q file stray in
        let at : folder ≡ parent_of path = (bytes_eq-Decides folder (parent_of path)).0 is in
        let here = subst (λ d. joined d n.name ≡ q) (sym at) n.is in
        ap (is_among w') (sym here)
        ∙ waits n.file n.name (l.each n.name n.is_name ∙ ap (λ t. is_some (get m t)) here ∙ there) n.left
    by path q file false is listed stray there = still q (c.each path q file (ap (λ fs. is_among fs (parent_of path)) (sym kept) ∙ listed) stray there)

-- the paths so far are forgotten, and no other
pub record IsForgetting (old now gone : List (List ℕ)) (i : ℕ) : Type 0 where
  pub still : (q : List ℕ) → is_among old q ≡ true → is_among (take i gone) q ≡ false → is_among now q ≡ true

pub forgetting_begins : (old gone : List (List ℕ)) → IsForgetting old old gone 0
forgetting_begins old gone = record { still = λ q h n. h }

neither : (a b : Bool) → (a || (b || false)) ≡ false → (a ≡ false) × (b ≡ false)
neither true b e = absurd (cc e)
neither false true e = absurd (cc e)
neither false false e = (refl, refl)

turned : (p q : List ℕ) → bytes_eq q p ≡ false → bytes_eq p q ≡ false
turned p q none = by (bytes_eq p q) refl
  where
    by : (b : Bool) → bytes_eq p q ≡ b → bytes_eq p q ≡ false
    by false e = e
    by true e = let t = (bytes_eq-Decides q p).1 (sym ((bytes_eq-Decides p q).0 e)) in cc (t, none)

pub forgetting_on : (old now next gone : List (List ℕ)) (i : ℕ) (p : List ℕ) → i < length gone → p ≡ get_or gone i p → IsForgetting old now gone i
    → ((q : List ℕ) → is_among next q ≡ cond (bytes_eq p q) false (is_among now q)) → IsForgetting old next gone (i + 1)
forgetting_on old now next gone i p h is f each = record {
  still = λ q e n.
      let t = neither (is_among (take i gone) q) (bytes_eq q p) (sym (one_more_among gone i p q h is) ∙ n) in
      each q ∙ ap (λ b. cond b false (is_among now q)) (turned p q t.1) ∙ f.still q e t.0;
}

pub forgetting_ends : (old now gone : List (List ℕ)) (i : ℕ) → length gone ≤ i → IsForgetting old now gone i → (q : List ℕ) → is_among old q ≡ true → is_among gone q ≡ false → is_among now q ≡ true
forgetting_ends old now gone i over f q h n = f.still q h (ap (λ xs. is_among xs q) (take_all i gone over) ∙ n)

pub all_kept : (path : List ℕ) (waiting strays : List (List ℕ)) → strays ≡ filter (is_stray path) waiting → AllStray path strays
all_kept path waiting strays is q h = first (is_stray path q) (is_among waiting q) (sym (ap (λ xs. is_among xs q) is ∙ filtered (is_stray path) q waiting) ∙ h)
  where
    first : (a b : Bool) → (a && b) ≡ true → a ≡ true
    first true b e = refl
    first false b e = e

-- the strays of the path, of all that waits
pub strays_kept : (path : List ℕ) (m : Files) (folders waiting strays : List (List ℕ)) → IsFilePath path → is_among folders (parent_of path) ≡ true → Covers m folders waiting
    → strays ≡ filter (is_stray path) waiting → IsStrictlySortedBy text_cmp waiting → AreStrays path m strays
strays_kept path m folders waiting strays file listed c is ordered = record {
  all = all_kept path waiting strays is;
  covers = λ q s there. ap (λ xs. is_among xs q) is ∙ filtered (is_stray path) q waiting ∙ both (is_stray path q) (is_among waiting q) s (c.each path q file listed s there);
  ascend = subst (λ xs. IsStrictlySortedBy text_cmp xs) (sym is) (IsStrictlySortedBy-filter text_cmp (is_stray path) waiting ordered);
}
  where
    both : (a b : Bool) → a ≡ true → b ≡ true → (a && b) ≡ true
    both true b e f = f
    both false b e f = e

-- what is there after removals was there, and is not among them
there_still : (gone : List (List ℕ)) (m : Files) (q : List ℕ) → is_some (get (remove_each gone m) q) ≡ true → (is_some (get m q) ≡ true) × (is_among gone q ≡ false)
there_still gone m q h = by (is_among gone q) (get m q) refl (sym (ap is_some (get-remove_each gone m q)) ∙ h)
  where
    by : (b : Bool) (o : Option (List ℕ)) → is_among gone q ≡ b → is_some (cond b None o) ≡ true → (is_some o ≡ true) × (is_among gone q ≡ false)
    by true o is e = absurd (cc e)
    by false o is e = (e, is)

-- removals keep what is covered, where no more is forgotten
pub covers_removed : (gone folders folders' waiting waiting' : List (List ℕ)) (m : Files) → Covers m folders waiting → folders' ≡ folders
    → ((q : List ℕ) → is_among waiting q ≡ true → is_among gone q ≡ false → is_among waiting' q ≡ true) → Covers (remove_each gone m) folders' waiting'
covers_removed gone folders folders' w w' m c same_folders kept = record {
  each = λ path q file listed stray there.
      let t = there_still gone m q there in
      kept q (c.each path q file (ap (λ fs. is_among fs (parent_of path)) (sym same_folders) ∙ listed) stray t.0) t.1;
}

pub covers_still : (m : Files) (folders folders' waiting waiting' : List (List ℕ)) → Covers m folders waiting → folders' ≡ folders → WaitsStill waiting waiting' → Covers m folders' waiting'
covers_still m folders folders' w w' c same_folders still = record {
  each = λ path q file listed stray there. still q (c.each path q file (ap (λ fs. is_among fs (parent_of path)) (sym same_folders) ∙ listed) stray there);
}

pub may_wait_still : (q : List ℕ) (waiting waiting' : List (List ℕ)) → MayWait waiting q → WaitsStill waiting waiting' → MayWait waiting' q
may_wait_still q w w' h still path file stray = still q (h path file stray)

-- a path that may wait is written
pub covers_written : (m : Files) (k v : List ℕ) (folders waiting : List (List ℕ)) → Covers m folders waiting → MayWait waiting k → Covers (insert m k v) folders waiting
covers_written m k v folders w c may =
    record { each = λ path q file listed stray there. by path q file listed stray (bytes_eq q k) refl (sym (ap is_some (get-insert nat_list_cmp_total m k v q ∙ ap (λ b. cond b (Some v) (get m q)) (is_eq-slice_cmp q k))) ∙ there) }
  where
    by : (path q : List ℕ) → IsFilePath path → is_among folders (parent_of path) ≡ true → is_stray path q ≡ true → (b : Bool) → bytes_eq q k ≡ b → is_some (cond b (Some v) (get m q)) ≡ true → is_among w q ≡ true
    by path q file listed stray true is there = let at : q ≡ k = (bytes_eq-Decides q k).0 is in ap (is_among w) at ∙ may path file (ap (is_stray path) (sym at) ∙ stray)
    by path q file listed stray false is there = c.each path q file listed stray there

-- a path is removed
pub covers_gone : (m : Files) (k : List ℕ) (folders waiting : List (List ℕ)) → Covers m folders waiting → Covers (remove m k) folders waiting
covers_gone m k folders w c =
    record { each = λ path q file listed stray there. c.each path q file listed stray (by (bytes_eq q k) (get m q) (sym (ap is_some (get-removed m k q)) ∙ there)) }
  where
    by : (b : Bool) (o : Option (List ℕ)) → is_some (cond b None o) ≡ true → is_some o ≡ true
    by true o e = absurd (cc e)
    by false o e = e

pub all_covered : (m : Files) → Covers m [] []
all_covered m = record { each = λ path q file listed stray there. absurd (cc listed) }

-- what a snapshot's removal and its writing leave covered
covers_saved : (path : List ℕ) (meta : Meta) (subject : Subject) (m : Files) (folders waiting : List (List ℕ)) → extension_in subject ≡ None → Covers m folders waiting → MayWait waiting path
    → Covers (all_changed (saved_as path meta subject) m) folders waiting
covers_saved path meta (tree_with b tree) m folders w none c may = covers_written m path _ folders w c may
covers_saved path meta (text_as raw) m folders w none c may = covers_written m path _ folders w c may
covers_saved path meta (payload_with extension bytes) m folders w none c may = absurd (cc none)

covers_writing : (mode : Update) (asked : Asked) (m : Files) (folders waiting : List (List ℕ)) → extension_in asked.subject ≡ None → Covers m folders waiting → MayWait waiting asked.path
    → MayWait waiting (pending_path asked.path) → Covers (written mode asked m) folders waiting
covers_writing InPlace asked m folders w none c approved pending = covers_saved asked.path (without_line asked.meta) asked.subject m folders w none c approved
covers_writing NewFile asked m folders w none c approved pending = covers_saved (pending_path asked.path) asked.meta asked.subject m folders w none c pending
covers_writing NoUpdate asked m folders w none c approved pending = c

-- that holds where no payload is written: its own path may be taken for one that another left
pub covers_step : (mode : Update) (force : Bool) (asked : Asked) (passed : Bool) (m : Files) (folders waiting : List (List ℕ)) → extension_in asked.subject ≡ None → CoversAt asked.path (cleared asked.path m) folders waiting
    → Covers (step mode force asked passed m) folders waiting
covers_step mode true asked true m folders w none k =
    covers_writing mode asked (passed_files asked.path m) folders w none (covers_gone (cleared asked.path m) (pending_path asked.path) folders w k.covered) k.approved k.pending
covers_step mode false asked true m folders w none k = covers_gone (cleared asked.path m) (pending_path asked.path) folders w k.covered
covers_step mode force asked false m folders w none k = covers_writing mode asked (cleared asked.path m) folders w none k.covered k.approved k.pending

-- once the strays are gone and forgotten, and both paths that may be written wait
pub covers_cleared : (path approved pending : List ℕ) (m : Files) (gone folders folders' folders'' folders''' waiting waiting' waiting'' waiting''' : List (List ℕ)) → approved ≡ path → pending ≡ pending_path path
    → Covers m folders waiting → folders' ≡ folders → ((q : List ℕ) → is_among waiting q ≡ true → is_among gone q ≡ false → is_among waiting' q ≡ true)
    → folders'' ≡ folders' → WaitsStill waiting' waiting'' → MayWait waiting'' approved
    → folders''' ≡ folders'' → WaitsStill waiting'' waiting''' → MayWait waiting''' pending → CoversAt path (remove_each gone m) folders''' waiting'''
covers_cleared path approved pending m gone fs fs' fs'' fs''' w w' w'' w''' here beside c same kept same' still may same'' still' may' = record {
  covered = covers_still (remove_each gone m) fs' fs''' w' w''' (covers_removed gone fs fs' w w' m c same kept) (same'' ∙ same') (λ q h. still' q (still q h));
  approved = subst (MayWait w''') here (may_wait_still approved w'' w''' may still');
  pending = subst (MayWait w''') beside may';
}
