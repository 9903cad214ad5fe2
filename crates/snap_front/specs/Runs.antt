-- What commands on documents reply and leave.
use Rattle.std.specs.Prelude.{◌≡◌, ◌&&◌, ℕ, Bool, true, false, List, [], ◌∷◌, Option, None, Some, option_map}
use Rattle.std.specs.Str.{bytes_eq}
use Rattle.snap_content.specs.Plain.{Plain, dict, plain, content_of}
use Rattle.snap_front.specs.Commands.{CommandView, puts, gets, sets, removes, prints, ReplyView, done, printed, not_front, bad_header, not_map, no_name}
use Rattle.snap_front.specs.Documents.{Document, Docs, document_in, with_document}
use Rattle.snap_front.specs.Heads.{Changed, found, set_head, remove_head, printed_of}
use Rattle.snap_front.specs.Reading.{MayReadAs, ReadsAs, ReadsAsNone}
use Rattle.snap_front.specs.Split.{front_read}
use Rattle.snap_front.specs.TreePaths.{get_tree}

-- after a header that is taken for this tree: a document with this body, if it is a map
abbrev pub put_tree : Docs → List ℕ → List ℕ → Plain → Docs × ReplyView
put_tree docs name body (dict entries) = (with_document name (record { head = content_of (dict entries); body = body }) docs, done)
put_tree docs name body other = (docs, not_map)

-- after a header: where it reads as a tree it is taken for that one, and where it reads as none it is refused, or taken for some tree
pub data PutEnd (docs : Docs) (name header body : List ℕ) (after : Docs × ReplyView) : Type 0 where
  taken : (p : Plain) → MayReadAs header p → after ≡ put_tree docs name body p → PutEnd docs name header body after
  refused : ReadsAsNone header → after ≡ (docs, bad_header) → PutEnd docs name header body after

-- a text is put by its header and its body, and it has none where a fence is missing
abbrev pub PutText : Docs → List ℕ → Option (List ℕ × List ℕ) → Docs × ReplyView → Type 0
PutText docs name (Some parts) after = PutEnd docs name parts.0 parts.1 after
PutText docs name None after = after ≡ (docs, not_front)

-- what is told of a document changes nothing
abbrev pub told_of : (Document → ReplyView) → Docs → Option Document → Docs × ReplyView
told_of tell docs None = (docs, no_name)
told_of tell docs (Some d) = (docs, tell d)

-- a document with the new head, if there is one; the body stays, and so do the others
abbrev pub changed_by : Docs → List ℕ → Document → Changed → Docs × ReplyView
changed_by docs name d (None, reply) = (docs, reply)
changed_by docs name d (Some new, reply) = (with_document name (record { head = new; body = d.body }) docs, reply)

abbrev pub changed_of : (Document → Changed) → List ℕ → Docs → Option Document → Docs × ReplyView
changed_of change name docs None = (docs, no_name)
changed_of change name docs (Some d) = changed_by docs name d (change d)

-- what a command leaves and replies. A value that is set is taken by its plain form
abbrev pub Comes : Docs → CommandView → Docs × ReplyView → Type 0
Comes docs (puts name text) after = PutText docs name (front_read text) after
Comes docs (gets name path) after = after ≡ told_of (λ d. found (get_tree path d.head)) docs (document_in name docs)
Comes docs (sets name path value) after = after ≡ changed_of (λ d. set_head path (content_of (plain value)) d.head) name docs (document_in name docs)
Comes docs (removes name path) after = after ≡ changed_of (λ d. remove_head path d.head) name docs (document_in name docs)
Comes docs (prints name) after = after ≡ told_of (λ d. printed (printed_of d.head d.body)) docs (document_in name docs)

-- commands in turn, each with its reply, and what is there after them
abbrev pub Runs : Docs → List CommandView → Docs → List ReplyView → Type 0
Runs docs [] docs' [] = docs' ≡ docs
Runs docs (c ∷ cs) docs' (r ∷ rs) = (mid : Docs) × Comes docs c (mid, r) × Runs mid cs docs' rs
Runs docs [] docs' (r ∷ rs) = ⊥
Runs docs (c ∷ cs) docs' [] = ⊥

-- the body under a name
abbrev pub body_in : List ℕ → Docs → Option (List ℕ)
body_in name docs = option_map (λ d. d.body) (document_in name docs)

abbrev pub is_done : ReplyView → Bool
is_done done = true
is_done other = false

-- the command puts a document under the name, and that was done
abbrev pub puts_there : List ℕ → CommandView → ReplyView → Bool
puts_there name (puts other text) reply = bytes_eq other name && is_done reply
puts_there name command reply = false

-- none of the commands does
abbrev pub NonePut : List ℕ → List CommandView → List ReplyView → Type 0
NonePut name (c ∷ cs) (r ∷ rs) = (puts_there name c r ≡ false) × NonePut name cs rs
NonePut name cs rs = Unit {0}

-- each header that is put reads as a tree
abbrev pub HeaderReads : Option (List ℕ × List ℕ) → Type 0
HeaderReads (Some parts) = (p : Plain) × ReadsAs parts.0 p
HeaderReads None = Unit {0}

-- the header of each document that is put reads so
abbrev pub AllRead : List CommandView → Type 0
AllRead [] = Unit {0}
AllRead (puts name text ∷ cs) = HeaderReads (front_read text) × AllRead cs
AllRead (c ∷ cs) = AllRead cs
