-- What is written of a snapshot, and what a write that stopped leaves.
use Rattle.snap_assert.proofs.Prelude.{◌≡◌, ◌⊎◌, inl, inr, ℕ, Bool, true, false, ◌||◌, List, [], ◌∷◌, ◌++◌, Option, None, Some, refl, sym, ap, ◌∙◌, subst, encode_utf8_all, bytes_eq, list_any, or_left, some_same, Files, Meta, header_tree, without_line, meta_in, contents_in, Keeps, is_waiting, Asked, written, pending_path, IsPrepared, Update, InPlace, NewFile, Prepared, SnapshotContents, Error, FailedParsingYaml, UnexpectedDataType, MissingField, FileIo, FloatText, JsonKey, NotText, NoFile, OutOfMemory, IsOwn, FaultIsOwn}
use Rattle.std.proofs.lemmas.List.{append-nil}
use Rattle.snap_io.specs.Changes.{Change, writes, path_in, all_changed}
use Rattle.snap_io.specs.StandsAfter.{StandsAfter, LeavesOthers, NamesNext}
use Rattle.snap_io.proofs.Leaving.{leaves_others}
use Rattle.snap_store.specs.Causes.{IsSaveError, named_by}
use Rattle.snap_store.specs.Image as image
use Rattle.snap_store.specs.Saving.{beside, payload_of, payload_under, saving, sidecar_path}
use Rattle.snap_store.specs.declared.contents.SnapshotContents.TheVariants as held
use Rattle.snap_assert.specs.Kept.{is_written_with, may_change_with, IsSidecarOf, KeptWith}
use Rattle.snap_assert.specs.Steps.{image_bytes, saved_as}
use Rattle.snap_assert.specs.Subjects.{Subject, tree_with, text_as, payload_with, contents_of, body_in, extension_in, kind_for}
use Rattle.snap_assert.specs.Unsaved.{unsaved}

-- what the store writes of contents that are held is what the step writes
saving_is : (path : List ℕ) (meta : Meta) (subject : Subject) (contents : SnapshotContents) → contents ≡ contents_of subject → image.body_in (contents_of subject) ≡ body_in subject
    → saving path meta contents ≡ saved_as path meta subject
saving_is path meta subject contents is body =
    ap (λ c. saving path meta c) is
    ∙ ap (λ b. writes path (encode_utf8_all (image.image_of (header_tree meta) b)) ∷ beside path (payload_of meta (contents_of subject))) body

pub approved_saving : (asked : Asked) (prepared : Prepared) → IsPrepared asked prepared
    → saving prepared.path (without_line (meta_in prepared.snapshot)) (contents_in prepared.snapshot) ≡ saved_as asked.path (without_line asked.meta) asked.subject
approved_saving asked prepared p =
    ap (λ q. saving q (without_line (meta_in prepared.snapshot)) (contents_in prepared.snapshot)) p.path
    ∙ ap (λ t. saving asked.path (without_line t) (contents_in prepared.snapshot)) p.metadata
    ∙ saving_is asked.path (without_line asked.meta) asked.subject (contents_in prepared.snapshot) p.contents p.body

pub pending_saving : (asked : Asked) (prepared : Prepared) → IsPrepared asked prepared
    → saving (pending_path prepared.path) (meta_in prepared.snapshot) (contents_in prepared.snapshot) ≡ saved_as (pending_path asked.path) asked.meta asked.subject
pending_saving asked prepared p =
    ap (λ q. saving (pending_path q) (meta_in prepared.snapshot) (contents_in prepared.snapshot)) p.path
    ∙ ap (λ t. saving (pending_path asked.path) t (contents_in prepared.snapshot)) p.metadata
    ∙ saving_is (pending_path asked.path) asked.meta asked.subject (contents_in prepared.snapshot) p.contents p.body

-- the new snapshot is saved as the step says
pub updated : (asked : Asked) (prepared : Prepared) (files files' : Option Files) → IsPrepared asked prepared
    → ((m : Files) → files ≡ Some m → files' ≡ Some (all_changed (saving prepared.path (without_line (meta_in prepared.snapshot)) (contents_in prepared.snapshot)) m))
    → (m : Files) → files ≡ Some m → files' ≡ Some (written InPlace asked m)
updated asked prepared files files' p saved m told = saved m told ∙ ap (λ cs. Some (all_changed cs m)) (approved_saving asked prepared p)

-- and as the pending snapshot, with the line of its assertion
pub postponed : (asked : Asked) (prepared : Prepared) (files files' : Option Files) → IsPrepared asked prepared
    → ((m : Files) → files ≡ Some m → files' ≡ Some (all_changed (saving (pending_path prepared.path) (meta_in prepared.snapshot) (contents_in prepared.snapshot)) m))
    → (m : Files) → files ≡ Some m → files' ≡ Some (written NewFile asked m)
postponed asked prepared files files' p saved m told = saved m told ∙ ap (λ cs. Some (all_changed cs m)) (pending_saving asked prepared p)

-- where all are done nothing is in work
pub all_stand : (cs : List Change) (m : Files) (now : Option Files) → now ≡ Some (all_changed cs m) → StandsAfter cs None (Some m) now
all_stand cs m now told = record {
  done = cs;
  rest = [];
  cut = sym (append-nil cs);
  names = tt;
  stands = λ n e. told ∙ ap (λ k. Some (all_changed cs k)) (some_same m n e);
}

-- changes at paths that the mode writes leave all others
pub kept_changes : (extension : Option (List ℕ)) (mode : Update) (path : List ℕ) (cs : List Change) (named : Option (List ℕ)) (m : Files) (now : Option Files)
    → ((q : List ℕ) → is_written_with extension mode path q ≡ false → list_any (λ c. bytes_eq q (path_in c)) cs ≡ false) → StandsAfter cs named (Some m) now
    → Keeps (is_written_with extension mode path) (may_change_with extension mode path) m now
kept_changes extension mode path cs named m now not s =
    let l : LeavesOthers cs m now = leaves_others cs named m now s in
    record {
      files = l.files;
      told = l.told;
      unwritten = λ q h. inl (l.others q (not q h));
      others = λ q h. l.others q (not q (or_left (is_written_with extension mode path q) (is_waiting path q) h));
    }

regrouped : (a b : Bool) → (a || b) ≡ false → (a || (b || false)) ≡ false
regrouped true b h = h
regrouped false true h = h
regrouped false false h = refl

-- the paths of what is written in place are those that the mode writes
pub in_place_not : (path : List ℕ) (meta : Meta) (subject : Subject) → meta.kind ≡ kind_for subject → (q : List ℕ) → is_written_with (extension_in subject) InPlace path q ≡ false
    → list_any (λ c. bytes_eq q (path_in c)) (saved_as path meta subject) ≡ false
in_place_not path meta (tree_with w tree) kinds q h = ap (λ b. b || false) h
in_place_not path meta (text_as raw) kinds q h = ap (λ b. b || false) h
in_place_not path meta (payload_with extension bytes) kinds q h =
    ap (λ k. list_any (λ c. bytes_eq q (path_in c)) (writes path (image_bytes meta (payload_with extension bytes)) ∷ beside path (payload_under (held.Binary (Some bytes)) k))) kinds
    ∙ regrouped (bytes_eq q path) (bytes_eq q (sidecar_path path extension)) h

beside_as : (extension : Option (List ℕ)) (path q : List ℕ) → is_written_with extension NewFile path q ≡ is_written_with extension InPlace (pending_path path) q
beside_as None path q = refl
beside_as (Some extension) path q = refl

-- and so beside it
pub pending_not : (path : List ℕ) (meta : Meta) (subject : Subject) → meta.kind ≡ kind_for subject → (q : List ℕ) → is_written_with (extension_in subject) NewFile path q ≡ false
    → list_any (λ c. bytes_eq q (path_in c)) (saved_as (pending_path path) meta subject) ≡ false
pending_not path meta subject kinds q h = in_place_not (pending_path path) meta subject kinds q (sym (beside_as (extension_in subject) path q) ∙ h)

-- what a save leaves, whether it came to its end or stopped
pub kept_updated : (asked : Asked) (prepared : Prepared) (files files' : Option Files) → IsPrepared asked prepared
    → ((m : Files) → files ≡ Some m → files' ≡ Some (all_changed (saving prepared.path (without_line (meta_in prepared.snapshot)) (contents_in prepared.snapshot)) m))
    → KeptWith (extension_in asked.subject) InPlace asked.path files files'
kept_updated asked prepared files files' p saved m told =
    kept_changes (extension_in asked.subject) InPlace asked.path (saved_as asked.path (without_line asked.meta) asked.subject) None m files' (in_place_not asked.path (without_line asked.meta) asked.subject p.kind) (all_stand (saved_as asked.path (without_line asked.meta) asked.subject) m files' (updated asked prepared files files' p saved m told))

pub kept_postponed : (asked : Asked) (prepared : Prepared) (files files' : Option Files) → IsPrepared asked prepared
    → ((m : Files) → files ≡ Some m → files' ≡ Some (all_changed (saving (pending_path prepared.path) (meta_in prepared.snapshot) (contents_in prepared.snapshot)) m))
    → KeptWith (extension_in asked.subject) NewFile asked.path files files'
kept_postponed asked prepared files files' p saved m told =
    kept_changes (extension_in asked.subject) NewFile asked.path (saved_as (pending_path asked.path) asked.meta asked.subject) None m files' (pending_not asked.path asked.meta asked.subject p.kind) (all_stand (saved_as (pending_path asked.path) asked.meta asked.subject) m files' (postponed asked prepared files files' p saved m told))

pub kept_update_stopped : (asked : Asked) (prepared : Prepared) (error : Error) (files files' : Option Files) → IsPrepared asked prepared
    → StandsAfter (saving prepared.path (without_line (meta_in prepared.snapshot)) (contents_in prepared.snapshot)) (named_by error) files files'
    → KeptWith (extension_in asked.subject) InPlace asked.path files files'
kept_update_stopped asked prepared error files files' p s m told =
    kept_changes (extension_in asked.subject) InPlace asked.path (saved_as asked.path (without_line asked.meta) asked.subject) (named_by error) m files' (in_place_not asked.path (without_line asked.meta) asked.subject p.kind)
    (subst (λ f. StandsAfter (saved_as asked.path (without_line asked.meta) asked.subject) (named_by error) f files') told (subst (λ cs. StandsAfter cs (named_by error) files files') (approved_saving asked prepared p) s))

pub kept_postpone_stopped : (asked : Asked) (prepared : Prepared) (error : Error) (files files' : Option Files) → IsPrepared asked prepared
    → StandsAfter (saving (pending_path prepared.path) (meta_in prepared.snapshot) (contents_in prepared.snapshot)) (named_by error) files files'
    → KeptWith (extension_in asked.subject) NewFile asked.path files files'
kept_postpone_stopped asked prepared error files files' p s m told =
    kept_changes (extension_in asked.subject) NewFile asked.path (saved_as (pending_path asked.path) asked.meta asked.subject) (named_by error) m files' (pending_not asked.path asked.meta asked.subject p.kind)
    (subst (λ f. StandsAfter (saved_as (pending_path asked.path) asked.meta asked.subject) (named_by error) f files') told (subst (λ cs. StandsAfter cs (named_by error) files files') (pending_saving asked prepared p) s))

-- a path is that of one of the changes
abbrev IsAmongPaths : List Change → List ℕ → Type 0
IsAmongPaths [] named = ⊥
IsAmongPaths (c ∷ cs) named = (named ≡ path_in c) ⊎ IsAmongPaths cs named

next_among : (cs done rest : List Change) (named : List ℕ) → cs ≡ done ++ rest → NamesNext (Some named) rest → IsAmongPaths cs named
next_among cs [] [] named cut names = absurd names
next_among cs [] (c ∷ rest) named cut names = subst (λ x. IsAmongPaths x named) (sym cut) (inl names)
next_among cs (d ∷ done) rest named cut names = subst (λ x. IsAmongPaths x named) (sym cut) (inr (next_among (done ++ rest) done rest named refl names))

among_written : (path bytes : List ℕ) (payload : Option (List ℕ × List ℕ)) (named : List ℕ) → IsAmongPaths (writes path bytes ∷ beside path payload) named → (named ≡ path) ⊎ IsSidecarOf path named
among_written path bytes payload named (inl at) = inl at
among_written path bytes None named (inr h) = absurd h
among_written path bytes (Some p) named (inr (inl at)) = inr (p.0, at)
among_written path bytes (Some p) named (inr (inr h)) = absurd h

-- a fault of a save names the file or the payload beside it
saved_at : (path : List ℕ) (meta : Meta) (contents : SnapshotContents) (named : List ℕ) (files files' : Option Files) → StandsAfter (saving path meta contents) (Some named) files files'
    → (named ≡ path) ⊎ IsSidecarOf path named
saved_at path meta contents named files files' s =
    among_written path (encode_utf8_all (image.image meta contents)) (payload_of meta contents) named (next_among (saving path meta contents) s.done s.rest named s.cut s.names)

-- by what is so of those two paths the fault names one of the assertion's own
own_save : (mode : Update) (path at : List ℕ) (meta : Meta) (contents : SnapshotContents) (error : Error) (files files' : Option Files)
    → ((named : List ℕ) → ((named ≡ at) ⊎ IsSidecarOf at named) → IsOwn mode path named)
    → StandsAfter (saving at meta contents) (named_by error) files files' → IsSaveError error → FaultIsOwn mode path (unsaved error)
own_save mode path at meta contents (FileIo named) files files' own s end = own named (saved_at at meta contents named files files' s)
own_save mode path at meta contents OutOfMemory files files' own s end = tt
own_save mode path at meta contents (FailedParsingYaml named) files files' own s end = absurd end
own_save mode path at meta contents UnexpectedDataType files files' own s end = absurd end
own_save mode path at meta contents MissingField files files' own s end = absurd end
own_save mode path at meta contents (FloatText named) files files' own s end = absurd end
own_save mode path at meta contents JsonKey files files' own s end = absurd end
own_save mode path at meta contents (NotText named) files files' own s end = absurd end
own_save mode path at meta contents (NoFile named) files files' own s end = absurd end

pub own_save_at : (mode : Update) (path at at' : List ℕ) (meta : Meta) (contents : SnapshotContents) (error : Error) (files files' : Option Files) → at ≡ at'
    → ((named : List ℕ) → ((named ≡ at') ⊎ IsSidecarOf at' named) → IsOwn mode path named)
    → StandsAfter (saving at meta contents) (named_by error) files files' → IsSaveError error → FaultIsOwn mode path (unsaved error)
own_save_at mode path at at' meta contents error files files' is own s end =
    own_save mode path at meta contents error files files' (λ named h. own named (subst (λ q. (named ≡ q) ⊎ IsSidecarOf q named) is h)) s end
