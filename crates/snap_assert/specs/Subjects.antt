-- What is asserted of a file: a tree that is printed, a text, or a payload.
use Rattle.std.specs.Prelude.{◌≡◌, ℕ, List, [], ◌∷◌, ◌++◌, Option, None, Some}
use Rattle.snap_content.specs.Plain.{Plain}
use Rattle.snap_print.specs.Blocks.{Blocks}
use Rattle.snap_print.specs.Lines.{text_of}
use Rattle.snap_text.specs.Normal.{normal}
use Rattle.snap_text.specs.declared.contents.TextSnapshotKind.TheVariants.{File}
use Rattle.snap_store.specs.Image as image
use Rattle.snap_store.specs.declared.contents.SnapshotContents.{SnapshotContents}
use Rattle.snap_store.specs.declared.contents.SnapshotContents.TheVariants.{Text, Binary}
use Rattle.snap_store.specs.declared.metadata.SnapshotKind.{SnapshotKind}
use Rattle.snap_store.specs.declared.metadata.SnapshotKind.TheVariants as kind
use Rattle.snap_assert.specs.declared.prepare.Asserted.{Asserted}

-- the plain form of a tree, printed with literal blocks or without, a text, or an extension and the bytes of a payload
pub data Subject : Type 0 where
  tree_with : Blocks → Plain → Subject
  text_as : List ℕ → Subject
  payload_with : List ℕ → List ℕ → Subject

-- a text, for a file of its own
abbrev pub file_text : List ℕ → SnapshotContents
file_text raw = Text (record { raw = raw; kind = File })

-- what is compared and kept: the text of the tree, the text as it is, or the payload
abbrev pub contents_of : Subject → SnapshotContents
contents_of (tree_with w tree) = file_text (text_of w tree)
contents_of (text_as raw) = file_text raw
contents_of (payload_with extension bytes) = Binary (Some bytes)

-- what stands behind the header of its file: the text of the tree, the normal form of the text and a line's end, or nothing
abbrev pub body_in : Subject → List ℕ
body_in (tree_with w tree) = text_of w tree
body_in (text_as raw) = normal raw ++ 10 ∷ []
body_in (payload_with extension bytes) = []

-- the extension of a payload
abbrev pub extension_in : Subject → Option (List ℕ)
extension_in (tree_with w tree) = None
extension_in (text_as raw) = None
extension_in (payload_with extension bytes) = Some extension

-- the kind that its metadata tell
abbrev pub kind_for : Subject → SnapshotKind
kind_for (tree_with w tree) = kind.Text
kind_for (text_as raw) = kind.Text
kind_for (payload_with extension bytes) = kind.Binary extension

-- where it is a tree, this holds of it
abbrev pub OfTree : (Blocks → Plain → Type 0) → Subject → Type 0
OfTree holds (tree_with w tree) = holds w tree
OfTree holds (text_as raw) = Unit {0}
OfTree holds (payload_with extension bytes) = Unit {0}

-- the contents and the kind are its own, and the contents are saved as its body
pub record IsHeld (subject : Subject) (asserted : Asserted) : Type 0 where
  pub contents : asserted.contents ≡ contents_of subject
  pub kind : asserted.kind ≡ kind_for subject
  pub body : image.body_in (contents_of subject) ≡ body_in subject
