-- What is read of the payload beside a file.
use Rattle.snap_store.proofs.Prelude.{◌≡◌, inr, ℕ, Bool, true, false, List, Option, Some, sym, ap, ◌∙◌, subst, Error, Files, Meta, meta_in, contents_in, legacy_in, number_text_in, body_of, SnapshotKind, SnapshotContents}
use Rattle.snap_content.specs.declared.error.Error.TheVariants.{FailedParsingYaml, UnexpectedDataType, MissingField, FileIo, FloatText, JsonKey, NotText, NoFile, OutOfMemory}
use Rattle.snap_store.specs.Causes.{IsCallError}
use Rattle.snap_store.specs.Saving.{sidecar_path}
use Rattle.snap_store.specs.Reading.{IsTextFile, Tells, HoldsBody, HoldsBeside, IsBeside, IsReadAs, IsRefused, payload_at, IsPayloadError}
use Rattle.snap_store.specs.Views.{with_payload}
use Rattle.snap_store.specs.declared.metadata.SnapshotKind.TheVariants as kind
use Rattle.snap_store.specs.declared.contents.SnapshotContents.TheVariants as contents
use Rattle.snap_store.specs.declared.snapshot.Snapshot.{Snapshot}

-- another payload changes nothing that the file tells
still_held : (k : SnapshotKind) (body : List ℕ) (held : SnapshotContents) (payload : Option (List ℕ)) → HoldsBody k body held → HoldsBody k body (with_payload payload held)
still_held kind.Text body (contents.Text text) payload h = h
still_held kind.Text body (contents.Binary old) payload h = h
still_held (kind.Binary extension) body (contents.Text text) payload h = h
still_held (kind.Binary extension) body (contents.Binary old) payload h = tt

-- of two snapshots the one is the other with this payload
pub record AreBut (payload : Option (List ℕ)) (old new : Snapshot) : Type 0 where
  pub metadata : meta_in new ≡ meta_in old
  pub contents : contents_in new ≡ with_payload payload (contents_in old)
  pub legacy : legacy_in new ≡ legacy_in old
  pub number : number_text_in new ≡ number_text_in old

pub still_read : (file payload : Option (List ℕ)) (old new : Snapshot) → AreBut payload old new → IsReadAs file old → IsReadAs file new
still_read file payload old new same r =
    let T : Bool → Type 0 = λ b. Tells b r.text (meta_in old) (number_text_in old) in
    let M : Meta → Type 0 = λ m. Tells (legacy_in new) r.text m (number_text_in old) in
    let N : Bool → Type 0 = λ b. Tells (legacy_in new) r.text (meta_in new) b in
    let K : Meta → Type 0 = λ m. HoldsBody m.kind (body_of r.text) (with_payload payload (contents_in old)) in
    let C : SnapshotContents → Type 0 = λ x. HoldsBody (meta_in new).kind (body_of r.text) x in
    record {
      text = r.text;
      there = r.there;
      metadata = subst N (sym same.number) (subst M (sym same.metadata) (subst T (sym same.legacy) r.metadata));
      contents = subst C (sym same.contents) (subst K (sym same.metadata) (still_held (meta_in old).kind (body_of r.text) (contents_in old) payload r.contents));
    }

-- the payload is what stands beside the file
holds_beside : (path : List ℕ) (m : Files) (k : SnapshotKind) (body : List ℕ) (held : SnapshotContents) (payload : Option (List ℕ)) → payload ≡ payload_at path k m → HoldsBody k body held
    → HoldsBeside path m k (with_payload payload held)
holds_beside path m kind.Text body held payload is h = tt
holds_beside path m (kind.Binary extension) body (contents.Text text) payload is h = absurd h
holds_beside path m (kind.Binary extension) body (contents.Binary old) payload is h = ap contents.Binary is

pub read_beside : (path : List ℕ) (file payload : Option (List ℕ)) (m : Files) (k : SnapshotKind) (old new : Snapshot) → AreBut payload old new → IsReadAs file old → k ≡ (meta_in old).kind → payload ≡ payload_at path k m
    → HoldsBeside path m (meta_in new).kind (contents_in new)
read_beside path file payload m k old new same r kinds is =
    let K : Meta → Type 0 = λ x. HoldsBeside path m x.kind (with_payload payload (contents_in old)) in
    let C : SnapshotContents → Type 0 = λ x. HoldsBeside path m (meta_in new).kind x in
    subst C (sym same.contents) (subst K (sym same.metadata)
    (holds_beside path m (meta_in old).kind (body_of r.text) (contents_in old) payload (is ∙ ap (λ x. payload_at path x m) kinds) r.contents))

-- a fault there names the path of the payload that the header tells of
told_beside : (path named extension : List ℕ) (file : Option (List ℕ)) (was kept : Bool) (text : List ℕ) (meta : Meta) → IsTextFile file text → Tells was text meta kept → kind.Binary extension ≡ meta.kind
    → named ≡ sidecar_path path extension → IsBeside path file named
told_beside path named extension file false kept text meta there t is at = record {
  text = text;
  there = there;
  entries = t.entries;
  kept = kept;
  header = t.header;
  extension = extension;
  told = t.kind_is ∙ ap Some (sym (is ∙ ap (λ x. x.kind) t.meta_is));
  named_is = at;
}
told_beside path named extension file true kept text meta there t is at =
    absurd (let clash : kind.Binary extension ≡ kind.Text = is ∙ ap (λ x. x.kind) t.meta_is in cc clash)

failed_beside : (path extension : List ℕ) (file : Option (List ℕ)) (snapshot : Snapshot) (error : Error) → IsReadAs file snapshot → kind.Binary extension ≡ (meta_in snapshot).kind → IsCallError (sidecar_path path extension) error
    → IsRefused path file error
failed_beside path extension file snapshot (FileIo named) r is h =
    inr (told_beside path named extension file (legacy_in snapshot) (number_text_in snapshot) r.text (meta_in snapshot) r.there r.metadata is h)
failed_beside path extension file snapshot OutOfMemory r is h = tt
failed_beside path extension file snapshot (FailedParsingYaml named) r is h = absurd h
failed_beside path extension file snapshot UnexpectedDataType r is h = absurd h
failed_beside path extension file snapshot MissingField r is h = absurd h
failed_beside path extension file snapshot (FloatText named) r is h = absurd h
failed_beside path extension file snapshot JsonKey r is h = absurd h
failed_beside path extension file snapshot (NotText named) r is h = absurd h
failed_beside path extension file snapshot (NoFile named) r is h = absurd h

pub refused_beside : (path : List ℕ) (file : Option (List ℕ)) (snapshot : Snapshot) (k : SnapshotKind) (error : Error) → IsReadAs file snapshot → k ≡ (meta_in snapshot).kind → IsPayloadError path k error → IsRefused path file error
refused_beside path file snapshot kind.Text error r is h = absurd h
refused_beside path file snapshot (kind.Binary extension) error r is h = failed_beside path extension file snapshot error r is h
