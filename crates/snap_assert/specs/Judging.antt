-- When a tree passes against a file, and when it passes fully.
use Rattle.std.specs.Prelude.{◌≡◌, ◌↔◌, ◌⊎◌, ℕ, Bool, true, false, List, Option, None}
use Rattle.snap_content.specs.Plain.{Plain, dict, Entries}
use Rattle.snap_print.specs.Readable.{IsWithin}
use Rattle.snap_print.specs.Blocks.{Blocks}
use Rattle.snap_print.specs.Lines.{text_of}
use Rattle.snap_text.specs.Legacy.{legacy}
use Rattle.snap_text.specs.Normal.{normal}
use Rattle.snap_store.specs.FileSplit.{is_headed, body_of}
use Rattle.snap_store.specs.Fields.{is_binary, kind_in, fields}
use Rattle.snap_store.specs.Image.{file_of}
use Rattle.snap_store.specs.Meta.{Meta, legacy_meta}
use Rattle.snap_store.specs.Reading.{IsTextFile, HasHeader, IsNoText}
use Rattle.snap_store.specs.declared.metadata.SnapshotKind.TheVariants.{Text}
use Rattle.snap_assert.specs.Default.{SameMeta}
use Rattle.snap_assert.specs.Steps.{Asked}
use Rattle.snap_assert.specs.Subjects.{OfTree}

-- the file's body agrees with the text
pub record BodyAgrees (file : Option (List ℕ)) (printed : List ℕ) : Type 0 where
  pub whole : List ℕ
  pub there : IsTextFile file whole
  pub same : legacy (body_of whole) ≡ legacy printed

-- the file's body has the normal form of the text
pub record BodyMatches (file : Option (List ℕ)) (printed : List ℕ) : Type 0 where
  pub whole : List ℕ
  pub there : IsTextFile file whole
  pub same : normal (body_of whole) ≡ normal printed

-- the header is printed of a dict or spells one, whose last pair named `snapshot_kind` doesn't say binary
pub record HasTextHeader (file : Option (List ℕ)) : Type 0 where
  pub whole : List ℕ
  pub there : IsTextFile file whole
  pub entries : Entries
  pub header : HasHeader whole (dict entries)
  pub not_binary : is_binary entries ≡ false

-- the same, but that pair says binary
pub record HasBinaryHeader (file : Option (List ℕ)) : Type 0 where
  pub whole : List ℕ
  pub there : IsTextFile file whole
  pub entries : Entries
  pub header : HasHeader whole (dict entries)
  pub binary : is_binary entries ≡ true

-- the file is of the oldest format: it is a text without a header
pub record IsLegacyFile (file : Option (List ℕ)) : Type 0 where
  pub whole : List ℕ
  pub there : IsTextFile file whole
  pub unheaded : is_headed whole ≡ false

-- the header is printed of a tree that is no dict, or spells one
pub record HasNoDict (file : Option (List ℕ)) : Type 0 where
  pub whole : List ℕ
  pub there : IsTextFile file whole
  pub tree : Plain
  pub header : HasHeader whole tree
  pub other : (entries : Entries) → tree ≡ dict entries → ⊥

-- the header is printed of a dict that says binary, without a text `extension`, or spells one
pub record HasNoKind (file : Option (List ℕ)) : Type 0 where
  pub whole : List ℕ
  pub there : IsTextFile file whole
  pub entries : Entries
  pub header : HasHeader whole (dict entries)
  pub lacking : kind_in entries ≡ None

-- the file isn't understood: it is no text, or the tree that its header is printed of or spells is not that of a snapshot
abbrev pub IsUnread : Option (List ℕ) → Type 0
IsUnread file = IsNoText file ⊎ (HasNoDict file ⊎ HasNoKind file)

-- the file was saved for a tree, with literal blocks or without, under the header of a text
pub record IsSavedFor (file : Option (List ℕ)) (w : Blocks) (tree : Plain) : Type 0 where
  pub entries : Entries
  pub header : IsWithin (dict entries)
  pub not_binary : is_binary entries ≡ false
  pub within : IsWithin tree
  pub there : IsTextFile file (file_of (dict entries) w tree)

-- the header is printed of a dict or spells one that tells these metadata, which are those of a text
pub record HeaderGives (file : Option (List ℕ)) (told : Meta) : Type 0 where
  pub whole : List ℕ
  pub there : IsTextFile file whole
  pub entries : Entries
  pub header : HasHeader whole (dict entries)
  pub not_binary : is_binary entries ≡ false
  pub told_is : told ≡ fields entries Text

-- the file is of the oldest format, and its first lines tell these metadata
pub record LinesGive (file : Option (List ℕ)) (told : Meta) : Type 0 where
  pub whole : List ℕ
  pub there : IsTextFile file whole
  pub unheaded : is_headed whole ≡ false
  pub told_is : told ≡ legacy_meta whole

-- the file's body has the normal form of the text, and the metadata that it tells are the new ones but for the line
pub record MatchesAll (file : Option (List ℕ)) (told new : Meta) (printed : List ℕ) : Type 0 where
  pub body : BodyMatches file printed
  pub metadata : SameMeta told new

-- whether a tree, printed with literal blocks or without, may pass against a file
pub record May (passed : Bool) (file : Option (List ℕ)) (w : Blocks) (tree : Plain) : Type 0 where
  -- never without a file
  pub absent : file ≡ None → passed ≡ false
  -- only where the stored body agrees with the tree's text
  pub agrees : passed ≡ true → BodyAgrees file (text_of w tree)
  -- always there under the header of a text
  pub headed : HasTextHeader file → BodyAgrees file (text_of w tree) → passed ≡ true
  -- and without a header
  pub legacy : IsLegacyFile file → BodyAgrees file (text_of w tree) → passed ≡ true
  -- never where the header says binary
  pub binary : HasBinaryHeader file → passed ≡ false
  -- nor where the file isn't understood
  pub unread : IsUnread file → passed ≡ false
  -- against a file that was saved for a tree in the same way exactly where both trees are equal
  pub saved : (stored : Plain) → IsSavedFor file w stored → IsWithin tree → (passed ≡ true) ↔ (stored ≡ tree)

-- whether a tree, printed with literal blocks or without, may pass fully against a file, under these metadata
pub record MayFully (passed : Bool) (file : Option (List ℕ)) (meta : Meta) (w : Blocks) (tree : Plain) : Type 0 where
  -- never without a file
  pub absent : file ≡ None → passed ≡ false
  -- only where the stored body has the normal form of the tree's text
  pub matches : passed ≡ true → BodyMatches file (text_of w tree)
  -- under the header of a text exactly where the metadata match too
  pub headed : (told : Meta) → HeaderGives file told → (passed ≡ true) ↔ MatchesAll file told meta (text_of w tree)
  -- and so without a header
  pub legacy : (told : Meta) → LinesGive file told → (passed ≡ true) ↔ MatchesAll file told meta (text_of w tree)
  -- never where the header says binary
  pub binary : HasBinaryHeader file → passed ≡ false
  -- nor where the file isn't understood
  pub unread : IsUnread file → passed ≡ false
  -- against a file that was saved for a tree in the same way exactly where both trees are equal, and the metadata of its header match
  pub saved : (stored : Plain) (s : IsSavedFor file w stored) → IsWithin tree → (passed ≡ true) ↔ ((stored ≡ tree) × SameMeta (fields s.entries Text) meta)

-- whether the tree that is asked may pass against the file, fully where that is asked
abbrev pub Allowed : Bool → Asked → Bool → Option (List ℕ) → Type 0
Allowed true asked passed file = OfTree (λ w tree. MayFully passed file asked.meta w tree) asked.subject
Allowed false asked passed file = OfTree (λ w tree. May passed file w tree) asked.subject
