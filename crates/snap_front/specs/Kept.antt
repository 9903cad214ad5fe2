-- What stays over commands on documents: bodies, and what is printed.
use Rattle.std.specs.Prelude.{◌≡◌, ◌++◌, ℕ, true, length, List, [], ◌∷◌, Option, option_map}
use Rattle.snap_content.specs.Tree as t
use Rattle.snap_content.specs.Plain.{Entries, dict, plain, content_of}
use Rattle.snap_front.specs.Commands.{CommandView, puts, ReplyView, done, printed}
use Rattle.snap_front.specs.Documents.{Document, Docs, with_document}
use Rattle.snap_front.specs.Heads.{is_map, printed_of}
use Rattle.snap_front.specs.Runs.{Comes, NonePut}
use Rattle.snap_front.specs.Split.{front_read}

-- the body of a text that is put as a document
abbrev pub body_of : List ℕ → Option (List ℕ)
body_of text = option_map (λ (parts : List ℕ × List ℕ). parts.1) (front_read text)

-- of these commands the last one that put a document under the name put this text
pub record IsLastPut (name text : List ℕ) (commands : List CommandView) (replies : List ReplyView) : Type 0 where
  pub before : List CommandView
  pub after : List CommandView
  pub earlier : List ReplyView
  pub later : List ReplyView
  pub as_many : length earlier ≡ length before
  pub commands_are : commands ≡ before ++ puts name text ∷ after
  pub replies_are : replies ≡ earlier ++ done ∷ later
  pub none_later : NonePut name after later

-- each header is a map
abbrev pub AreMaps : Docs → Type 0
AreMaps [] = Unit {0}
AreMaps (d ∷ ds) = (is_map d.1.head ≡ true) × AreMaps ds

-- the text is printed of this header, which is a map, and this body; put again under any name, it is a document of that map, in its plain
-- form, and that body
pub record IsPrintOf (head : t.Tree) (body text : List ℕ) : Type 0 where
  pub entries : Entries
  pub map_is : plain head ≡ dict entries
  pub is : text ≡ printed_of head body
  pub again : (docs : Docs) (name : List ℕ) (after : Docs × ReplyView) → Comes docs (puts name text) after
      → after ≡ (with_document name (record { head = content_of (dict entries); body = body }) docs, done)

-- where the reply is a printed document, that is put again as what it was printed of
abbrev pub IsAgain : ReplyView → Type 0
IsAgain (printed text) = (d : Document) × IsPrintOf d.head d.body text
IsAgain reply = Unit {0}

-- so is each document that is printed
abbrev pub AreAgain : List ReplyView → Type 0
AreAgain [] = Unit {0}
AreAgain (r ∷ rs) = IsAgain r × AreAgain rs
