-- The files of a snapshot, and the calls of a store that write them.
use Rattle.std.specs.Prelude.{ℕ, List, [], ◌∷◌, ◌++◌, Option, None, Some, encode_utf8_all}
use Rattle.snap_io.specs.Changes.{Change, writes}
use Rattle.snap_store.specs.Image.{image}
use Rattle.snap_store.specs.Meta.{Meta}
use Rattle.snap_store.specs.declared.metadata.SnapshotKind.{SnapshotKind}
use Rattle.snap_store.specs.declared.metadata.SnapshotKind.TheVariants as kind
use Rattle.snap_store.specs.declared.contents.SnapshotContents.{SnapshotContents}
use Rattle.snap_store.specs.declared.contents.SnapshotContents.TheVariants as contents

-- where the payload stands: the path, a dot and the extension, each as it is
abbrev pub sidecar_path : List ℕ → List ℕ → List ℕ
sidecar_path path extension = path ++ 46 ∷ extension

-- the path of the payload of a snapshot of this kind; a text has none
abbrev pub binary_path : List ℕ → SnapshotKind → Option (List ℕ)
binary_path path kind.Text = None
binary_path path (kind.Binary extension) = Some (sidecar_path path extension)

abbrev pub payload_under : SnapshotContents → SnapshotKind → Option (List ℕ × List ℕ)
payload_under (contents.Text text) told = None
payload_under (contents.Binary None) told = None
payload_under (contents.Binary (Some payload)) kind.Text = None
payload_under (contents.Binary (Some payload)) (kind.Binary extension) = Some (extension, payload)

-- the extension and the bytes of the payload that is saved: one that is there, under metadata that say binary
abbrev pub payload_of : Meta → SnapshotContents → Option (List ℕ × List ℕ)
payload_of meta held = payload_under held meta.kind

abbrev pub beside : List ℕ → Option (List ℕ × List ℕ) → List Change
beside path None = []
beside path (Some payload) = writes (sidecar_path path payload.0) payload.1 ∷ []

-- what is written of a snapshot: the file first, and then the payload
abbrev pub saving : List ℕ → Meta → SnapshotContents → List Change
saving path meta held = writes path (encode_utf8_all (image meta held)) ∷ beside path (payload_of meta held)
