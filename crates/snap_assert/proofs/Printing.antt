-- The contents of the new snapshot.
use Rattle.snap_assert.proofs.Prelude.{◌≡◌, ◌∙◌, ℕ, List, Some, refl, ap, Plain, IsWithin, blocks_if, text_of, raw_of, kind_of, Text, File, contents_in, Asked, Option, Bool, false, Meta, Snapshot, meta_in, legacy_in, number_text_in, new_contents}
use Rattle.snap_text.proofs.NormalForms.{normal-printed}
use Rattle.snap_assert.proofs.Below.{trimmed-if}
use Rattle.snap_store.specs.declared.contents.SnapshotContents.TheVariants.{Binary}
use Rattle.snap_store.specs.declared.metadata.SnapshotKind.TheVariants as kind
use Rattle.snap_assert.specs.Subjects.{tree_with, text_as, payload_with, file_text, IsHeld}
use Rattle.snap_assert.specs.declared.prepare.Asserted.{Asserted}
use Rattle.snap_store.specs.Views.{module_in, name_in, SnapshotView, snapshot_of}
use Rattle.snap_store.specs.declared.contents.SnapshotContents.{SnapshotContents}
use Rattle.snap_assert.specs.Prepared.{new_view}
use Rattle.snap_text.specs.declared.contents.TextSnapshotContents.{TextSnapshotContents}

-- contents of the kind of a text
abbrev pub text_with : SnapshotContents → Asserted
text_with contents = record { kind = kind.Text; contents = contents }

-- the text of a tree is held as it is, any text in its normal form, and a payload beside its file
pub tree_held : (literal : Bool) (p : Plain) (asserted : Asserted) (text : List ℕ) → asserted ≡ record { kind = kind.Text; contents = file_text text } → text ≡ text_of (blocks_if literal) p → IsWithin p
    → IsHeld (tree_with (blocks_if literal) p) asserted
tree_held literal p asserted text is printed within = record {
  contents = ap (λ a. a.contents) is ∙ ap file_text printed;
  kind = ap (λ a. a.kind) is;
  body = normal-printed (blocks_if literal) p (trimmed-if literal) within;
}

pub text_held : (raw : List ℕ) (asserted : Asserted) → asserted ≡ record { kind = kind.Text; contents = file_text raw } → IsHeld (text_as raw) asserted
text_held raw asserted is = record { contents = ap (λ a. a.contents) is; kind = ap (λ a. a.kind) is; body = refl }

pub payload_held : (extension bytes : List ℕ) (asserted : Asserted) → asserted ≡ record { kind = kind.Binary extension; contents = Binary (Some bytes) } → IsHeld (payload_with extension bytes) asserted
payload_held extension bytes asserted is = record { contents = ap (λ a. a.contents) is; kind = ap (λ a. a.kind) is; body = refl }

-- the text of a file, with what is in it
pub contents_is : (t : TextSnapshotContents) (text : List ℕ) → raw_of t ≡ text → kind_of t ≡ File → Text t ≡ Text (record { raw = text; kind = File })
contents_is t text is kind = ap (λ k. Text (record { raw = raw_of t; kind = k })) kind ∙ ap (λ r. Text (record { raw = r; kind = File })) is

abbrev view_by : List ℕ → Option (List ℕ) → Meta → SnapshotContents → Bool → Bool → SnapshotView
view_by module_name name meta contents legacy number =
    record { module_name = module_name; snapshot_name = name; meta = meta; contents = contents; was_legacy = legacy; number_as_text = number }

-- a snapshot of these parts is seen as the new one
pub view_is : (s : Snapshot) (asked : Asked) → module_in s ≡ asked.module_name → name_in s ≡ Some asked.name → meta_in s ≡ asked.meta → contents_in s ≡ new_contents asked
    → legacy_in s ≡ false → number_text_in s ≡ false → snapshot_of s ≡ new_view asked
view_is s asked a b c d e f =
    ap (λ x. view_by x (name_in s) (meta_in s) (contents_in s) (legacy_in s) (number_text_in s)) a
    ∙ ap (λ x. view_by asked.module_name x (meta_in s) (contents_in s) (legacy_in s) (number_text_in s)) b
    ∙ ap (λ x. view_by asked.module_name (Some asked.name) x (contents_in s) (legacy_in s) (number_text_in s)) c
    ∙ ap (λ x. view_by asked.module_name (Some asked.name) asked.meta x (legacy_in s) (number_text_in s)) d
    ∙ ap (λ x. view_by asked.module_name (Some asked.name) asked.meta (new_contents asked) x (number_text_in s)) e
    ∙ ap (λ x. view_by asked.module_name (Some asked.name) asked.meta (new_contents asked) false x) f
