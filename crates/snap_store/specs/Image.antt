-- The text of a snapshot file.
use Rattle.std.specs.Prelude.{ℕ, List, [], ◌∷◌, ◌++◌, codes}
use Rattle.snap_content.specs.Plain.{Plain}
use Rattle.snap_print.specs.Blocks.{Blocks, off}
use Rattle.snap_print.specs.Lines.{document_of, text_of}
use Rattle.snap_text.specs.Contents.{compared_of}
use Rattle.snap_text.specs.Normal.{normal}
use Rattle.snap_store.specs.Meta.{Meta, header_tree, without_line}
use Rattle.snap_store.specs.declared.contents.SnapshotContents.{SnapshotContents}
use Rattle.snap_store.specs.declared.contents.SnapshotContents.TheVariants.{Text, Binary}

-- the file of a header and a body
abbrev pub image_of : Plain → List ℕ → List ℕ
image_of header body = document_of off header ++ (codes "---\n" ++ body)

-- the file of a header and a tree: literal blocks stand in the tree's text alone
abbrev pub file_of : Plain → Blocks → Plain → List ℕ
file_of header w tree = image_of header (text_of w tree)

-- the file of a text snapshot with these metadata
abbrev pub text_under : Meta → List ℕ → List ℕ
text_under meta raw = image_of (header_tree meta) (normal raw ++ 10 ∷ [])

-- the file that a text snapshot is saved as
abbrev pub saved_text : Meta → List ℕ → List ℕ
saved_text meta raw = text_under (without_line meta) raw

-- what stands behind the header: the normal form of a text and its line's end, and nothing of a payload
abbrev pub body_in : SnapshotContents → List ℕ
body_in (Text contents) = normal (compared_of contents) ++ 10 ∷ []
body_in (Binary payload) = []

-- the file of a snapshot with these metadata and these contents
abbrev pub image : Meta → SnapshotContents → List ℕ
image meta contents = image_of (header_tree meta) (body_in contents)

-- the path of the pending snapshot
abbrev pub pending_path : List ℕ → List ℕ
pending_path path = path ++ codes ".new"
