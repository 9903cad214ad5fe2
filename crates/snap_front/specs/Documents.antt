-- Documents, and several of them by their names.
use Rattle.std.specs.Prelude.{ℕ, List, [], ◌∷◌, Option, None, Some, if◌then◌else◌}
use Rattle.std.specs.Str.{bytes_eq}
use Rattle.snap_content.specs.Tree as t

-- a document: the tree of its header, which is a map, and its body
pub record Document : Type 0 where
  pub head : t.Tree
  pub body : List ℕ

-- documents by their names, in the order in which these came
abbrev pub Docs : Type 0
Docs = List (List ℕ × Document)

-- the document under a name
abbrev pub document_in : List ℕ → Docs → Option Document
document_in name [] = None
document_in name (d ∷ ds) = if bytes_eq d.0 name then Some d.1 else document_in name ds

-- the documents with this one under the name: in place of the one that stands there, or after the others
abbrev pub with_document : List ℕ → Document → Docs → Docs
with_document name new [] = (name, new) ∷ []
with_document name new (d ∷ ds) = if bytes_eq d.0 name then (d.0, new) ∷ ds else d ∷ with_document name new ds
