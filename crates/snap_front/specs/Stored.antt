-- The documents that a store holds.
use Rattle.std.specs.Prelude.{ℕ, Bool, List, map}
use Rattle.std.specs.Str.{bytes_eq}
use Rattle.snap_content.specs.View.{tree}
use Rattle.snap_front.specs.Documents.{Document, Docs}
use Rattle.snap_front.specs.declared.store.FrontStore.{FrontStore}
use Rattle.snap_front.specs.declared.store.Held.{Held}

-- what is held as a document
abbrev pub seen : Held → Document
seen held = record { head = tree held.head; body = held.body }

-- the same beside its name
abbrev pub named : List ℕ × Held → List ℕ × Document
named pair = (pair.0, seen pair.1)

abbrev pub docs_in : List (List ℕ × Held) → Docs
docs_in pairs = map named pairs

-- the documents of a store
abbrev pub docs_of : FrontStore → Docs
docs_of store = docs_in store.docs.items

abbrev pub is_named : List ℕ → List ℕ × Held → Bool
is_named name pair = bytes_eq pair.0 name
