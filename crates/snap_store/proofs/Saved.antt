-- What is written of a snapshot, and where that stopped.
use Rattle.snap_store.proofs.Prelude.{◌≡◌, ℕ, Bool, true, false, List, [], ◌∷◌, ◌++◌, Option, None, Some, Result, Ok, Err, refl, sym, ap, ◌∙◌, subst, OnErr, insert, encode_utf8_all, list_any, bytes_eq, Error, Files, SameBut, Meta, SnapshotKind, SnapshotContents}
use Rattle.std.proofs.Common.{◌≢◌, IfErr}
use Rattle.std.proofs.lemmas.Slice.Eq.{bytes_eq-Decides}
use Rattle.snap_content.proofs.Booleans.{some_same}
use Rattle.snap_content.specs.declared.error.Error.TheVariants.{FailedParsingYaml, UnexpectedDataType, MissingField, FileIo, FloatText, JsonKey, NotText, NoFile, OutOfMemory}
use Rattle.snap_io.specs.Changes.{Change, writes, path_in, all_changed}
use Rattle.snap_io.specs.StandsAfter.{NamesNext, StandsAfter, LeavesOthers}
use Rattle.snap_io.proofs.Standing.{in_work}
use Rattle.snap_io.proofs.Leaving.{leaves_others}
use Rattle.snap_store.specs.Causes.{named_by, IsCallError, CallEnd, IsSaveError, SaveEnd}
use Rattle.snap_store.specs.Image.{image, text_under}
use Rattle.snap_store.specs.Saving.{sidecar_path, payload_under, beside, saving}
use Rattle.snap_store.specs.Views.{text_in}
use Rattle.snap_store.specs.declared.contents.SnapshotContents.TheVariants as contents

-- a call that failed names its path
pub names_call : (path : List ℕ) (c : Change) (error : Error) → path ≡ path_in c → IsCallError path error → NamesNext (named_by error) (c ∷ [])
names_call path c (FileIo named) same h = h ∙ same
names_call path c OutOfMemory same h = tt
names_call path c (FailedParsingYaml named) same h = absurd h
names_call path c UnexpectedDataType same h = absurd h
names_call path c MissingField same h = absurd h
names_call path c (FloatText named) same h = absurd h
names_call path c JsonKey same h = absurd h
names_call path c (NotText named) same h = absurd h
names_call path c (NoFile named) same h = absurd h

-- a write that failed was in work
pub write_stopped : (path bytes : List ℕ) (error : Error) (f f' : Option Files) → IsCallError path error → ((m : Files) → f ≡ Some m → SameBut path m f')
    → StandsAfter (writes path bytes ∷ []) (named_by error) f f'
write_stopped path bytes error f f' h left = in_work (writes path bytes) (named_by error) f f' (names_call path (writes path bytes) error refl h) left

call_is_save : (path : List ℕ) (error : Error) → IsCallError path error → IsSaveError error
call_is_save path (FileIo named) h = tt
call_is_save path OutOfMemory h = tt
call_is_save path (FailedParsingYaml named) h = absurd h
call_is_save path UnexpectedDataType h = absurd h
call_is_save path MissingField h = absurd h
call_is_save path (FloatText named) h = absurd h
call_is_save path JsonKey h = absurd h
call_is_save path (NotText named) h = absurd h
call_is_save path (NoFile named) h = absurd h

pub save_end : {T : Type 0} → (result : Result T Error) (path : List ℕ) → CallEnd path result → SaveEnd result
save_end (Ok value) path h = tt
save_end (Err error) path h = call_is_save path error h

-- a line that is given as it is in the metadata leaves them as they are
pub lined_image : (text : List ℕ) (line : Option ℕ) (meta : Meta) (held : SnapshotContents) → text ≡ image (record meta { assertion_line = line }) held → line ≡ meta.assertion_line → text ≡ image meta held
lined_image text line meta held made same = made ∙ ap (λ l. image (record meta { assertion_line = l }) held) same

-- one file, where no payload is saved
pub one_file : (path own text bytes : List ℕ) (meta : Meta) (held : SnapshotContents) (k : SnapshotKind) → own ≡ path → bytes ≡ encode_utf8_all text → meta.kind ≡ k → text ≡ image meta held → payload_under held k ≡ None
    → writes own bytes ∷ [] ≡ saving path meta held
one_file path own text bytes meta held k own_is sent kinds made none =
    ap (λ p. writes p bytes ∷ []) own_is ∙ ap (λ b. writes path b ∷ []) (sent ∙ ap encode_utf8_all made)
    ∙ ap (λ p. writes path (encode_utf8_all (image meta held)) ∷ beside path p) (sym (ap (payload_under held) kinds ∙ none))

-- two files, where one is
pub two_files : (path own text bytes side extension payload sent_payload : List ℕ) (meta : Meta) (held : SnapshotContents) (k : SnapshotKind) → own ≡ path → bytes ≡ encode_utf8_all text → side ≡ sidecar_path path extension
    → sent_payload ≡ payload → payload_under held k ≡ Some (extension, payload) → meta.kind ≡ k → text ≡ image meta held
    → writes own bytes ∷ writes side sent_payload ∷ [] ≡ saving path meta held
two_files path own text bytes side extension payload sent_payload meta held k own_is sent side_is payload_is some kinds made =
    ap (λ p. writes p bytes ∷ writes side sent_payload ∷ []) own_is ∙ ap (λ b. writes path b ∷ writes side sent_payload ∷ []) (sent ∙ ap encode_utf8_all made)
    ∙ ap (λ p. writes path (encode_utf8_all (image meta held)) ∷ writes p sent_payload ∷ []) side_is
    ∙ ap (λ b. writes path (encode_utf8_all (image meta held)) ∷ writes (sidecar_path path extension) b ∷ []) payload_is
    ∙ ap (λ p. writes path (encode_utf8_all (image meta held)) ∷ beside path p) (sym (ap (payload_under held) kinds ∙ some))

-- of a text one file is written, and no other

pub text_saving : (path : List ℕ) (meta : Meta) (held : SnapshotContents) (raw : List ℕ) → text_in held ≡ Some raw → saving path meta held ≡ writes path (encode_utf8_all (text_under meta raw)) ∷ []
text_saving path meta (contents.Text text) raw is = ap (λ r. writes path (encode_utf8_all (text_under meta r)) ∷ []) (some_same _ raw is)
text_saving path meta (contents.Binary payload) raw is = cc is

pub text_written : (path : List ℕ) (meta : Meta) (held : SnapshotContents) (raw : List ℕ) (f f' : Option Files) → text_in held ≡ Some raw
    → ((m : Files) → f ≡ Some m → f' ≡ Some (all_changed (saving path meta held) m)) → (m : Files) → f ≡ Some m → f' ≡ Some (insert m path (encode_utf8_all (text_under meta raw)))
text_written path meta held raw f f' is written m told = written m told ∙ ap (λ cs. Some (all_changed cs m)) (text_saving path meta held raw is)

apart : (q p : List ℕ) → q ≢ p → bytes_eq q p ≡ false
apart q p other = both (bytes_eq q p) refl
  where
    both : (b : Bool) → bytes_eq q p ≡ b → b ≡ false
    both true is = absurd (other ((bytes_eq-Decides q p).0 is))
    both false is = refl

-- where one write stopped its file alone is unknown
pub write_unknown : (path bytes : List ℕ) (named : Option (List ℕ)) (f f' : Option Files) → StandsAfter (writes path bytes ∷ []) named f f' → (m : Files) → f ≡ Some m → SameBut path m f'
write_unknown path bytes named f f' s m told =
    let cs : List Change = writes path bytes ∷ [] in
    let l : LeavesOthers cs m f' = leaves_others cs named m f' (subst (λ x. StandsAfter cs named x f') told s) in
    record { files = l.files; told = l.told; others = λ q other. l.others q (ap (λ b. list_any (λ x. x) (b ∷ [])) (apart q path other)) }

pub text_unknown : {T : Type 0} → (result : Result T Error) (path : List ℕ) (meta : Meta) (held : SnapshotContents) (raw : List ℕ) (f f' : Option Files) → text_in held ≡ Some raw
    → IfErr result (λ error. StandsAfter (saving path meta held) (named_by error) f f') → OnErr result ((m : Files) → f ≡ Some m → SameBut path m f')
text_unknown (Ok value) path meta held raw f f' is s = tt
text_unknown (Err error) path meta held raw f f' is s =
    write_unknown path (encode_utf8_all (text_under meta raw)) (named_by error) f f' (subst (λ cs. StandsAfter cs (named_by error) f f') (text_saving path meta held raw is) s)

-- a fault in one change names its path
one_named : (c : Change) (named : List ℕ) (done rest : List Change) → c ∷ [] ≡ done ++ rest → NamesNext (Some named) rest → named ≡ path_in c
one_named c named [] [] cut names = absurd names
one_named c named [] (d ∷ rest) cut names = names ∙ ap path_in (let same : d ≡ c = cc cut in same)
one_named c named (d ∷ done) [] cut names = absurd names
one_named c named (d ∷ []) (x ∷ rest) cut names = absurd (cc cut)
one_named c named (d ∷ e ∷ done) (x ∷ rest) cut names = absurd (cc cut)

pub text_call_end : {T : Type 0} → (result : Result T Error) (path : List ℕ) (meta : Meta) (held : SnapshotContents) (raw : List ℕ) (f f' : Option Files) → text_in held ≡ Some raw
    → IfErr result (λ error. StandsAfter (saving path meta held) (named_by error) f f') → SaveEnd result → CallEnd path result
text_call_end (Ok value) path meta held raw f f' is s end = tt
text_call_end (Err (FileIo named)) path meta held raw f f' is s end =
    one_named (writes path (encode_utf8_all (text_under meta raw))) named s.done s.rest (sym (text_saving path meta held raw is) ∙ s.cut) s.names
text_call_end (Err OutOfMemory) path meta held raw f f' is s end = tt
text_call_end (Err (FailedParsingYaml named)) path meta held raw f f' is s end = absurd end
text_call_end (Err UnexpectedDataType) path meta held raw f f' is s end = absurd end
text_call_end (Err MissingField) path meta held raw f f' is s end = absurd end
text_call_end (Err (FloatText named)) path meta held raw f f' is s end = absurd end
text_call_end (Err JsonKey) path meta held raw f f' is s end = absurd end
text_call_end (Err (NotText named)) path meta held raw f f' is s end = absurd end
text_call_end (Err (NoFile named)) path meta held raw f f' is s end = absurd end
