-- What an assertion leaves: each step, and what it keeps.
use Rattle.snap_assert.proofs.Prelude.{◌≡◌, ◌⊎◌, inl, inr, ℕ, Bool, true, ◌||◌, List, Option, None, Some, Result, Ok, Err, refl, sym, ap, ◌∙◌, subst, bytes_eq-Decides, remove, bytes_eq, Files, MayBeGone, Keeps, KeptBy, IsTakenAlone, IsOwn, FaultIsOwn, FaultIsAt, NamesOwn, is_none, is_written, is_waiting, Asked, cleared, passed_files, is_stray, pending_path, AreStrays, AllStray, remove_each, is_among, FaultIsAmong, IsPrepared, Update, AssertError, Prepared, or_right}
use Rattle.std.specs.Result.{IsErrAnd}
use Rattle.snap_assert.specs.declared.error.AssertError.TheVariants as refusal
use Rattle.snap_assert.proofs.Keeping.{kept_same, kept_then, kept_gone, kept_pending, kept_strays}
use Rattle.snap_assert.specs.Subjects.{extension_in}
use Rattle.snap_assert.specs.Kept.{is_written_with, may_change_with, IsSidecarOf, KeptWith, FaultIsRead}
use Rattle.snap_assert.proofs.Removals.{strays_gone}

-- the files once the strays are gone
pub cleared_is : (asked : Asked) (m : Files) (strays : List (List ℕ)) (files files' : Option Files) → files ≡ Some m → AreStrays asked.path m strays
    → ((n : Files) → files ≡ Some n → files' ≡ Some (remove_each strays n)) → files' ≡ Some (cleared asked.path m)
cleared_is asked m strays files files' told s gone = gone m told ∙ ap Some (strays_gone asked.path m strays s)

-- the files once the pending snapshot is gone
pub passed_is : (asked : Asked) (m : Files) (prepared : Prepared) (files files' : Option Files) → IsPrepared asked prepared → files ≡ Some (cleared asked.path m)
    → ((n : Files) → files ≡ Some n → files' ≡ Some (remove n prepared.pending)) → files' ≡ Some (passed_files asked.path m)
passed_is asked m prepared files files' p told removed = removed (cleared asked.path m) told ∙ ap (λ q. Some (remove (cleared asked.path m) q)) p.pending

-- a wait that is removed, or was not
pub kept_approving : (mode : Update) (asked : Asked) (prepared : Prepared) (files files' : Option Files) → IsPrepared asked prepared
    → IsTakenAlone prepared.pending files files' → KeptWith (extension_in asked.subject) mode asked.path files files'
kept_approving mode asked prepared files files' p taken m told =
    let P : List ℕ → Type 0 = λ q. Keeps is_none (λ k. bytes_eq k q) m files' in
    kept_pending (extension_in asked.subject) mode asked.path m files' (subst P p.pending (taken m told))

pub kept_clearing : (mode : Update) (asked : Asked) (strays : List (List ℕ)) (files files' : Option Files) → AllStray asked.path strays
    → ((m : Files) → files ≡ Some m → Keeps is_none (is_among strays) m files') → KeptWith (extension_in asked.subject) mode asked.path files files'
kept_clearing mode asked strays files files' all gone m told = kept_strays (extension_in asked.subject) mode asked.path strays m files' all (gone m told)

pub kept_both : (extension : Option (List ℕ)) (mode : Update) (path : List ℕ) (files between files' : Option Files) → KeptWith extension mode path files between → KeptWith extension mode path between files'
    → KeptWith extension mode path files files'
kept_both extension mode path files between files' a b m told = kept_then (is_written_with extension mode path) (may_change_with extension mode path) m between files' (a m told) b

pub unwritten_with : (extension : Option (List ℕ)) (mode : Update) (path : List ℕ) (files files' : Option Files) → files' ≡ files → KeptWith extension mode path files files'
unwritten_with extension mode path files files' same m told = kept_same (is_written_with extension mode path) (may_change_with extension mode path) m files' (same ∙ told)

pub kept_unwritten : (mode : Update) (path : List ℕ) (files files' : Option Files) → files' ≡ files → KeptBy mode path files files'
kept_unwritten mode path files files' same = unwritten_with None mode path files files' same

is_itself : (q : List ℕ) → bytes_eq q q ≡ true
is_itself q = (bytes_eq-Decides q q).1 refl

or_first : (a b : Bool) → a ≡ true → (a || b) ≡ true
or_first a b h = ap (λ x. x || b) h

pub own_pending : (mode : Update) (path : List ℕ) → IsOwn mode path (pending_path path)
own_pending mode path = inr (inr (inl (or_right (is_written mode path (pending_path path)) (is_waiting path (pending_path path))
    (or_first (bytes_eq (pending_path path) (pending_path path)) (is_stray path (pending_path path)) (is_itself (pending_path path))))))

own_stray : (mode : Update) (path q : List ℕ) → is_stray path q ≡ true → IsOwn mode path q
own_stray mode path q h = inr (inr (inl (or_right (is_written mode path q) (is_waiting path q) (or_right (bytes_eq q (pending_path path)) (is_stray path q) h))))

-- a fault of a step names one of the assertion's own paths
pub own_strays : (mode : Update) (path : List ℕ) (strays : List (List ℕ)) (error : AssertError) → AllStray path strays → FaultIsAmong strays error → FaultIsOwn mode path error
own_strays mode path strays (refusal.FileIo named) all h = own_stray mode path named (all named h)
own_strays mode path strays refusal.OutOfMemory all h = tt
own_strays mode path strays refusal.NameClash all h = tt
own_strays mode path strays refusal.DoctestNeedsName all h = tt
own_strays mode path strays (refusal.DuplicateDiffers key kept new) all h = tt
own_strays mode path strays refusal.NamesExhausted all h = tt
own_strays mode path strays refusal.InlineDuplicate all h = tt
own_strays mode path strays refusal.BadExtension all h = tt
own_strays mode path strays refusal.JsonKey all h = tt

own_only : (mode : Update) (path q : List ℕ) (error : AssertError) → IsOwn mode path q → FaultIsAt q error → FaultIsOwn mode path error
own_only mode path q (refusal.FileIo named) own h = subst (IsOwn mode path) (sym h) own
own_only mode path q refusal.OutOfMemory own h = tt
own_only mode path q refusal.NameClash own h = tt
own_only mode path q refusal.DoctestNeedsName own h = tt
own_only mode path q (refusal.DuplicateDiffers key kept new) own h = tt
own_only mode path q refusal.NamesExhausted own h = tt
own_only mode path q refusal.InlineDuplicate own h = tt
own_only mode path q refusal.BadExtension own h = tt
own_only mode path q refusal.JsonKey own h = tt

pub own_path : (mode : Update) (path : List ℕ) (error : AssertError) → FaultIsAt path error → FaultIsOwn mode path error
own_path mode path error h = own_only mode path path error (inl refl) h

pub own_read_at : (mode : Update) (path named : List ℕ) → ((named ≡ path) ⊎ IsSidecarOf path named) → IsOwn mode path named
own_read_at mode path named (inl at) = inl at
own_read_at mode path named (inr beside) = inr (inr (inr (inl beside)))

-- and so do those beside it
pub own_pending_at : (mode : Update) (path named : List ℕ) → ((named ≡ pending_path path) ⊎ IsSidecarOf (pending_path path) named) → IsOwn mode path named
own_pending_at mode path named (inl at) = subst (IsOwn mode path) (sym at) (own_pending mode path)
own_pending_at mode path named (inr beside) = inr (inr (inr (inr beside)))

-- and so does one in reading the snapshot
pub own_read : (mode : Update) (path : List ℕ) (error : AssertError) → FaultIsRead path error → FaultIsOwn mode path error
own_read mode path (refusal.FileIo named) h = own_read_at mode path named h
own_read mode path refusal.OutOfMemory h = tt
own_read mode path refusal.NameClash h = tt
own_read mode path refusal.DoctestNeedsName h = tt
own_read mode path (refusal.DuplicateDiffers key kept new) h = tt
own_read mode path refusal.NamesExhausted h = tt
own_read mode path refusal.InlineDuplicate h = tt
own_read mode path refusal.BadExtension h = tt
own_read mode path refusal.JsonKey h = tt

pub own_wait : (mode : Update) (path pending : List ℕ) (error : AssertError) → pending ≡ pending_path path → FaultIsAt pending error → FaultIsOwn mode path error
own_wait mode path pending error is h = own_only mode path pending error (subst (IsOwn mode path) (sym is) (own_pending mode path)) h

-- the same of what a call answers
pub own_refused : {T : Type 0} → (mode : Update) (path : List ℕ) (result : Result T AssertError) (error : AssertError) → IsErrAnd result (λ e. e ≡ error) → FaultIsOwn mode path error → NamesOwn mode path result
own_refused mode path (Ok value) error is h = tt
own_refused mode path (Err other) error is h = subst (FaultIsOwn mode path) (sym is) h

-- what a removal leaves of the files
pub removed_alone : (path : List ℕ) (files files' : Option Files) → ((m : Files) → files ≡ Some m → files' ≡ Some (remove m path)) → IsTakenAlone path files files'
removed_alone path files files' removed m told = kept_gone path m files' (inr (removed m told))

pub gone_alone : (path : List ℕ) (files files' : Option Files) → ((m : Files) → files ≡ Some m → MayBeGone path m files') → IsTakenAlone path files files'
gone_alone path files files' gone m told = kept_gone path m files' (gone m told)

pub own_error_at : (mode : Update) (path path' : List ℕ) (error : AssertError) → path ≡ path' → FaultIsOwn mode path error → FaultIsOwn mode path' error
own_error_at mode path path' error is h = subst (λ q. FaultIsOwn mode q error) is h
