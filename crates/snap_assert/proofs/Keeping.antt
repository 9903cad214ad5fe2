-- What one change of the files keeps, and what several keep.
use Rattle.snap_assert.proofs.Prelude.{◌≡◌, inl, inr, ◌<◌, ◌+◌, ℕ, Bool, true, false, not, cond, List, [], ◌∷◌, ◌++◌, length, take, drop, get_or, Option, None, Some, refl, sym, ◌∙◌, ap, subst, take_more, take-append-drop, get, remove, list_any, bytes_eq, or_left, some_same, Files, MayBeGone, Keeps, IsKeptOrGone, is_none, is_waiting, without_line, remove_each, is_among, Asked, is_stray, pending_path, cleared, written, passed_files, step, AllStray, Update, InPlace, NewFile, NoUpdate}
use Rattle.std.proofs.lemmas.List.Folds.{list_any-append}
use Rattle.snap_content.proofs.Booleans.{or_right}
use Rattle.snap_assert.specs.Kept.{is_written_with, may_change_with}
use Rattle.snap_assert.specs.Steps.{saved_as}
use Rattle.snap_assert.specs.Subjects.{extension_in, kind_for}
use Rattle.snap_assert.proofs.Removals.{differs, get-removed, get-remove_each, get-cleared}
use Rattle.snap_assert.proofs.Writing.{all_stand, kept_changes, in_place_not, pending_not}

pub kept_same : (w c : List ℕ → Bool) (m : Files) (now : Option Files) → now ≡ Some m → Keeps w c m now
kept_same w c m now told = record { files = m; told = told; unwritten = λ q h. inl refl; others = λ q h. refl }

pub gone_after : (x y z : Option (List ℕ)) → IsKeptOrGone x y → IsKeptOrGone y z → IsKeptOrGone x z
gone_after x y z (inl a) (inl b) = inl (b ∙ a)
gone_after x y z (inr a) (inl b) = inr (b ∙ a)
gone_after x y z a (inr b) = inr b

-- what each of two changes keeps both keep
pub kept_then : (w c : List ℕ → Bool) (m : Files) (between now : Option Files) → Keeps w c m between → ((n : Files) → between ≡ Some n → Keeps w c n now) → Keeps w c m now
kept_then w c m between now a further =
    let b = further a.files a.told in
    record {
      files = b.files;
      told = b.told;
      unwritten = λ q h. gone_after (get m q) (get a.files q) (get b.files q) (a.unwritten q h) (b.unwritten q h);
      others = λ q h. b.others q h ∙ a.others q h;
    }

pub kept_wider : (v d w c : List ℕ → Bool) (m : Files) (now : Option Files) → ((q : List ℕ) → w q ≡ false → v q ≡ false) → ((q : List ℕ) → c q ≡ false → d q ≡ false) → Keeps v d m now → Keeps w c m now
kept_wider v d w c m now written changed k = record {
  files = k.files;
  told = k.told;
  unwritten = λ q h. k.unwritten q (written q h);
  others = λ q h. k.others q (changed q h);
}

gone_if : (b : Bool) (x y : Option (List ℕ)) → y ≡ cond b None x → IsKeptOrGone x y
gone_if true x y e = inr e
gone_if false x y e = inl e

pub kept_gone : (path : List ℕ) (m : Files) (now : Option Files) → MayBeGone path m now → Keeps is_none (λ q. bytes_eq q path) m now
kept_gone path m now (inl told) = kept_same is_none (λ q. bytes_eq q path) m now told
kept_gone path m now (inr told) = record {
  files = remove m path;
  told = told;
  unwritten = λ q h. gone_if (bytes_eq q path) (get m q) _ (get-removed m path q);
  others = λ q h. get-removed m path q ∙ ap (λ b. cond b None (get m q)) h;
}

among_front : (ps : List (List ℕ)) (i : ℕ) (q : List ℕ) → is_among ps q ≡ false → list_any (bytes_eq q) (take i ps) ≡ false
among_front ps i q h = or_left _ _ (sym (list_any-append (bytes_eq q) (take i ps) (drop i ps)) ∙ ap (list_any (bytes_eq q)) (take-append-drop i ps) ∙ h)

pub kept_removed_each : (ps : List (List ℕ)) (i : ℕ) (m : Files) (now : Option Files) → now ≡ Some (remove_each (take i ps) m) → Keeps is_none (is_among ps) m now
kept_removed_each ps i m now told = record {
  files = remove_each (take i ps) m;
  told = told;
  unwritten = λ q h. gone_if (list_any (bytes_eq q) (take i ps)) (get m q) _ (get-remove_each (take i ps) m q);
  others = λ q h. get-remove_each (take i ps) m q ∙ ap (λ b. cond b None (get m q)) (among_front ps i q h);
}

-- the path at a place of the list is among its paths
not_at : (ps : List (List ℕ)) (i : ℕ) (p q : List ℕ) → i < length ps → p ≡ get_or ps i p → is_among ps q ≡ false → bytes_eq q p ≡ false
not_at ps i p q h is none =
    let more = take_more ps i p h ∙ ap (λ x. take i ps ++ x ∷ []) (sym is) in
    or_left _ _ (or_right (list_any (bytes_eq q) (take i ps)) _ (sym (list_any-append (bytes_eq q) (take i ps) (p ∷ [])) ∙ ap (list_any (bytes_eq q)) (sym more) ∙ among_front ps (i + 1) q none))

pub kept_one_more : (ps : List (List ℕ)) (i : ℕ) (p : List ℕ) (m : Files) (between now : Option Files) → i < length ps → p ≡ get_or ps i p → between ≡ Some (remove_each (take i ps) m)
    → ((n : Files) → between ≡ Some n → MayBeGone p n now) → Keeps is_none (is_among ps) m now
kept_one_more ps i p m between now h is told gone = kept_then is_none (is_among ps) m between now (kept_removed_each ps i m between told) (λ n e.
    kept_wider is_none (λ q. bytes_eq q p) is_none (is_among ps) n now (λ q none. none) (λ q none. not_at ps i p q h is none) (kept_gone p n now (gone n e)))

pub among_at : (ps : List (List ℕ)) (i : ℕ) (p : List ℕ) → i < length ps → p ≡ get_or ps i p → is_among ps p ≡ true
among_at ps i p h is = by_cases (is_among ps p) refl
  where
    by_cases : (b : Bool) → is_among ps p ≡ b → is_among ps p ≡ true
    by_cases true e = e
    by_cases false e = let t : bytes_eq p p ≡ false = not_at ps i p p h is e in absurd (differs p p t refl)

-- what waits
all_unwritten : (extension : Option (List ℕ)) (mode : Update) (path q : List ℕ) → is_written_with extension mode path q ≡ false → is_none q ≡ false
all_unwritten extension mode path q h = refl

waits_not : (extension : Option (List ℕ)) (mode : Update) (path q : List ℕ) → may_change_with extension mode path q ≡ false → is_waiting path q ≡ false
waits_not extension mode path q h = or_right (is_written_with extension mode path q) (is_waiting path q) h

pub kept_pending : (extension : Option (List ℕ)) (mode : Update) (path : List ℕ) (m : Files) (now : Option Files) → Keeps is_none (λ q. bytes_eq q (pending_path path)) m now
    → Keeps (is_written_with extension mode path) (may_change_with extension mode path) m now
kept_pending extension mode path m now k =
    kept_wider is_none (λ q. bytes_eq q (pending_path path)) (is_written_with extension mode path) (may_change_with extension mode path) m now (all_unwritten extension mode path)
    (λ q h. or_left (bytes_eq q (pending_path path)) (is_stray path q) (waits_not extension mode path q h)) k

stray_not : (path : List ℕ) (strays : List (List ℕ)) (q : List ℕ) → AllStray path strays → is_stray path q ≡ false → is_among strays q ≡ false
stray_not path strays q all h = by_cases (is_among strays q) refl
  where
    by_cases : (b : Bool) → is_among strays q ≡ b → is_among strays q ≡ false
    by_cases true e = let t = all q e in cc (t, h)
    by_cases false e = e

pub kept_strays : (extension : Option (List ℕ)) (mode : Update) (path : List ℕ) (strays : List (List ℕ)) (m : Files) (now : Option Files) → AllStray path strays → Keeps is_none (is_among strays) m now
    → Keeps (is_written_with extension mode path) (may_change_with extension mode path) m now
kept_strays extension mode path strays m now all k =
    kept_wider is_none (is_among strays) (is_written_with extension mode path) (may_change_with extension mode path) m now (all_unwritten extension mode path)
    (λ q h. stray_not path strays q all (or_right (bytes_eq q (pending_path path)) (is_stray path q) (waits_not extension mode path q h))) k

-- a step keeps what no assertion at its path may change
keeps_cleared : (extension : Option (List ℕ)) (mode : Update) (path : List ℕ) (m : Files) → Keeps (is_written_with extension mode path) (may_change_with extension mode path) m (Some (cleared path m))
keeps_cleared extension mode path m = record {
  files = cleared path m;
  told = refl;
  unwritten = λ q h. kept_if (is_stray path q) (get m q) _ (get-cleared path m q);
  others = λ q h. get-cleared path m q ∙ ap (λ b. cond (not b) (get m q) None) (or_right (bytes_eq q (pending_path path)) (is_stray path q) (waits_not extension mode path q h));
}
  where
    kept_if : (b : Bool) (x y : Option (List ℕ)) → y ≡ cond (not b) x None → IsKeptOrGone x y
    kept_if true x y e = inr e
    kept_if false x y e = inl e

keeps_writing : (mode : Update) (asked : Asked) (m : Files) → asked.meta.kind ≡ kind_for asked.subject
    → Keeps (is_written_with (extension_in asked.subject) mode asked.path) (may_change_with (extension_in asked.subject) mode asked.path) m (Some (written mode asked m))
keeps_writing InPlace asked m kinds =
    kept_changes (extension_in asked.subject) InPlace asked.path (saved_as asked.path (without_line asked.meta) asked.subject) None m (Some (written InPlace asked m))
    (in_place_not asked.path (without_line asked.meta) asked.subject kinds) (all_stand (saved_as asked.path (without_line asked.meta) asked.subject) m (Some (written InPlace asked m)) refl)
keeps_writing NewFile asked m kinds =
    kept_changes (extension_in asked.subject) NewFile asked.path (saved_as (pending_path asked.path) asked.meta asked.subject) None m (Some (written NewFile asked m))
    (pending_not asked.path asked.meta asked.subject kinds) (all_stand (saved_as (pending_path asked.path) asked.meta asked.subject) m (Some (written NewFile asked m)) refl)
keeps_writing NoUpdate asked m kinds = kept_same (is_written_with (extension_in asked.subject) NoUpdate asked.path) (may_change_with (extension_in asked.subject) NoUpdate asked.path) m _ refl

keeps_removal : (extension : Option (List ℕ)) (mode : Update) (path : List ℕ) (m : Files) → Keeps (is_written_with extension mode path) (may_change_with extension mode path) m (Some (remove m (pending_path path)))
keeps_removal extension mode path m = kept_pending extension mode path m _ (kept_gone (pending_path path) m _ (inr refl))

keeps_passed : (extension : Option (List ℕ)) (mode : Update) (path : List ℕ) (m : Files) → Keeps (is_written_with extension mode path) (may_change_with extension mode path) m (Some (passed_files path m))
keeps_passed extension mode path m =
    kept_then (is_written_with extension mode path) (may_change_with extension mode path) m (Some (cleared path m)) _ (keeps_cleared extension mode path m)
    (λ n e. subst (λ k. Keeps (is_written_with extension mode path) (may_change_with extension mode path) n (Some (remove k (pending_path path)))) (sym (some_same (cleared path m) n e)) (keeps_removal extension mode path n))

then_writes : (mode : Update) (asked : Asked) (m k : Files) → asked.meta.kind ≡ kind_for asked.subject
    → Keeps (is_written_with (extension_in asked.subject) mode asked.path) (may_change_with (extension_in asked.subject) mode asked.path) m (Some k)
    → Keeps (is_written_with (extension_in asked.subject) mode asked.path) (may_change_with (extension_in asked.subject) mode asked.path) m (Some (written mode asked k))
then_writes mode asked m k kinds h =
    let w = is_written_with (extension_in asked.subject) mode asked.path in
    let c = may_change_with (extension_in asked.subject) mode asked.path in
    kept_then w c m (Some k) _ h (λ n e. subst (λ x. Keeps w c n (Some (written mode asked x))) (sym (some_same k n e)) (keeps_writing mode asked n kinds))

keeps_step : (mode : Update) (force : Bool) (asked : Asked) (passed : Bool) (m : Files) → asked.meta.kind ≡ kind_for asked.subject
    → Keeps (is_written_with (extension_in asked.subject) mode asked.path) (may_change_with (extension_in asked.subject) mode asked.path) m (Some (step mode force asked passed m))
keeps_step mode true asked true m kinds = then_writes mode asked m (passed_files asked.path m) kinds (keeps_passed (extension_in asked.subject) mode asked.path m)
keeps_step mode false asked true m kinds = keeps_passed (extension_in asked.subject) mode asked.path m
keeps_step mode force asked false m kinds = then_writes mode asked m (cleared asked.path m) kinds (keeps_cleared (extension_in asked.subject) mode asked.path m)

pub step_keeps : (mode : Update) (force : Bool) (asked : Asked) (passed : Bool) (m : Files) (now : Option Files) → asked.meta.kind ≡ kind_for asked.subject → now ≡ Some (step mode force asked passed m)
    → Keeps (is_written_with (extension_in asked.subject) mode asked.path) (may_change_with (extension_in asked.subject) mode asked.path) m now
step_keeps mode force asked passed m now kinds e =
    subst (Keeps (is_written_with (extension_in asked.subject) mode asked.path) (may_change_with (extension_in asked.subject) mode asked.path) m) (sym e) (keeps_step mode force asked passed m kinds)
