-- Payloads that are asserted: their extensions, and how a name and an extension are told by one text.
use Rattle.std.specs.Prelude.{◌≡◌, ◌⊎◌, ◌||◌, ℕ, Bool, true, false, List, Option, None, Some, codes, is_some}
use Rattle.std.specs.Str.{bytes_eq}
use Rattle.snap_path.specs.Names.{past_mark}
use Rattle.snap_str.specs.Cut.{Lacks, IsCutAtFirst}
use Rattle.snap_store.specs.Meta.{shown_text}
use Rattle.snap_assert_place.specs.Place.{holds_slash}

-- an extension by which no payload is kept: it would be taken for a pending snapshot, for what one left, or for a path
abbrev pub is_refused_extension : List ℕ → Bool
is_refused_extension extension = bytes_eq extension (codes "new") || (is_some (past_mark (codes "new.") extension) || holds_slash extension)

-- the same, and none is refused too
abbrev pub is_bad_extension : Option (List ℕ) → Bool
is_bad_extension None = true
is_bad_extension (Some extension) = is_refused_extension extension

-- without a dot the text is the name, and there is no extension; an empty name is none
abbrev pub IsNameAlone : List ℕ → Option (List ℕ) → Option (List ℕ) → Type 0
IsNameAlone text name extension = Lacks 46 text × ((name ≡ shown_text (Some text)) × (extension ≡ None))

-- the name stands before the first dot, and the extension behind it
pub record IsNameAndExtension (text : List ℕ) (name extension : Option (List ℕ)) : Type 0 where
  pub front : List ℕ
  pub behind : List ℕ
  pub cut : IsCutAtFirst 46 text front behind
  pub name_is : name ≡ shown_text (Some front)
  pub extension_is : extension ≡ Some behind

-- a name and an extension, as one text tells both
abbrev pub TellsBoth : List ℕ → Option (List ℕ) → Option (List ℕ) → Type 0
TellsBoth text name extension = IsNameAlone text name extension ⊎ IsNameAndExtension text name extension

-- it is the extension, where that is not refused, and else none
abbrev pub GoodExtension : Option (List ℕ) → Option (List ℕ) → Type 0
GoodExtension extension None = is_bad_extension extension ≡ true
GoodExtension extension (Some good) = (extension ≡ Some good) × (is_bad_extension extension ≡ false)
