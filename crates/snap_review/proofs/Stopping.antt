-- Where changes of files stop.
use Rattle.snap_review.proofs.Prelude.{◌≡◌, ◌∙◌, ℕ, ◌<◌, length, List, [], ◌∷◌, ◌++◌, get_or, take, map, Option, Some, Result, Ok, Err, OnOk, IfErr, refl, ap, subst, Files, MayBeGone, Error, IsCallError, CallEnd, Change, writes, removes, changed, all_changed, StandsAfter, StopsIn, Becomes, WorkEnd, status_of}
use Rattle.snap_content.specs.declared.error.Error.TheVariants as e
use Rattle.snap_io.proofs.Standing.{nothing_begun, stands_first, stands_later, both_done, in_work, stopped_at}
use Rattle.snap_store.proofs.Saved.{names_call, save_end}
use Rattle.snap_store.specs.Causes.{named_by}

-- nothing was begun, since memory was out
pub stops_unbegun : (changes : List Change) (files : Option Files) → StopsIn changes e.OutOfMemory files files
stops_unbegun changes files = record { error_is = tt; stands = nothing_begun changes files files refl }

-- the removals stopped at this place
pub stops_removing : (ps : List (List ℕ)) (i : ℕ) (p : List ℕ) (error : Error) (f f' f'' : Option Files) → i < length ps → p ≡ get_or ps i p
    → ((m : Files) → f ≡ Some m → f' ≡ Some (all_changed (map removes (take i ps)) m)) → IsCallError p error → ((m : Files) → f' ≡ Some m → MayBeGone p m f'') → StopsIn (map removes ps) error f f''
stops_removing ps i p error f f' f'' within is gone h left = record {
  error_is = save_end {T = ℕ} (Err error) p h;
  stands = stopped_at ps i p (named_by error) f f' f'' within is gone (in_work (removes p) (named_by error) f' f'' (names_call p (removes p) error refl h) left);
}

-- a write stopped
pub stops_writing : {T : Type 0} (path own bytes text : List ℕ) (result : Result T Error) (f f' : Option Files) → own ≡ path → bytes ≡ text → CallEnd own result
    → IfErr result (λ error. StandsAfter (writes own bytes ∷ []) (named_by error) f f') → IfErr result (λ error. StopsIn (writes path text ∷ []) error f f')
stops_writing path own bytes text (Ok value) f f' own_is same h left = tt
stops_writing {T} path own bytes text (Err error) f f' own_is same h left = record {
  error_is = save_end {T = T} (Err error) own h;
  stands = subst (λ b. StandsAfter (writes path b ∷ []) (named_by error) f f') same (subst (λ p. StandsAfter (writes p bytes ∷ []) (named_by error) f f') own_is left);
}

-- the first changes stopped, and others were to follow
pub stops_first : (a b : List Change) (error : Error) (f f' : Option Files) → StopsIn a error f f' → StopsIn (a ++ b) error f f'
stops_first a b error f f' s = record { error_is = s.error_is; stands = stands_first a b (named_by error) f f' s.stands }

-- the first changes are done, and the others stopped
pub stops_later : {T : Type 0} (a b : List Change) (result : Result T Error) (f f' f'' : Option Files) → Becomes f f' (all_changed a) → IfErr result (λ error. StopsIn b error f' f'') → IfErr result (λ error. StopsIn (a ++ b) error f f'')
stops_later a b (Ok value) f f' f'' done s = tt
stops_later a b (Err error) f f' f'' done s = record { error_is = s.error_is; stands = stands_later a b (named_by error) f f' f'' done s.stands }

pub all_done : {T E : Type 0} (a b : List Change) (result : Result T E) (f f' f'' : Option Files) → Becomes f f' (all_changed a) → OnOk result (Becomes f' f'' (all_changed b)) → OnOk result (Becomes f f'' (all_changed (a ++ b)))
all_done a b (Ok value) f f' f'' first later = both_done a b f f' f'' first later
all_done a b (Err error) f f' f'' first later = tt

-- as what changes that stopped end a run
pub stopped_run : (changes : List Change) (lines : List ℕ) (error : Error) (files files' : Option Files) (written : Option (List ℕ)) → StopsIn changes error files files' → WorkEnd changes lines (status_of error) files files' written written
stopped_run changes lines (e.FileIo path) files files' written s = record { stands = s.stands; silent = refl }
stopped_run changes lines e.OutOfMemory files files' written s = record { stands = s.stands; silent = refl }
stopped_run changes lines e.UnexpectedDataType files files' written s = absurd s.error_is
stopped_run changes lines e.MissingField files files' written s = absurd s.error_is
stopped_run changes lines e.JsonKey files files' written s = absurd s.error_is
stopped_run changes lines (e.FailedParsingYaml path) files files' written s = absurd s.error_is
stopped_run changes lines (e.FloatText path) files files' written s = absurd s.error_is
stopped_run changes lines (e.NotText path) files files' written s = absurd s.error_is
stopped_run changes lines (e.NoFile path) files files' written s = absurd s.error_is

pub wrote : {T E : Type 0} (path own bytes text : List ℕ) (result : Result T E) (f f' : Option Files) → own ≡ path → bytes ≡ text
    → OnOk result ((m : Files) → f ≡ Some m → f' ≡ Some (changed (writes own bytes) m)) → OnOk result (Becomes f f' (all_changed (writes path text ∷ [])))
wrote path own bytes text (Ok value) f f' own_is same h = λ m e. h m e ∙ ap (λ p. Some (changed (writes p bytes) m)) own_is ∙ ap (λ b. Some (changed (writes path b) m)) same
wrote path own bytes text (Err error) f f' own_is same h = tt
