-- The names of a snapshot, which its path tells.
use Rattle.std.specs.Prelude.{◌==◌, ℕ, List, [], ◌∷◌, Option, None, Some, if◌then◌else◌, codes}
use Rattle.std.specs.Str.{bytes_eq}
use Rattle.snap_path.specs.Paths.{name_of}

-- what stands before a mark, and what stands after it
pub record Cut : Type 0 where
  pub before : List ℕ
  pub behind : List ℕ

-- a cut into these two parts
abbrev pub cut_of : List ℕ → List ℕ → Cut
cut_of before behind = record { before = before; behind = behind }

-- what follows the mark, where the text begins with it
abbrev pub past_mark : List ℕ → List ℕ → Option (List ℕ)
past_mark [] text = Some text
past_mark (m ∷ mark) [] = None
past_mark (m ∷ mark) (c ∷ cs) = if c == m then past_mark mark cs else None

-- the later cut, with the character before it; else the cut in front of all
abbrev pub later_or_here : ℕ → Option Cut → Option (List ℕ) → Option Cut
later_or_here c (Some later) here = Some (cut_of (c ∷ later.before) later.behind)
later_or_here c None (Some behind) = Some (cut_of [] behind)
later_or_here c None None = None

-- the text cut at the last place where the mark stands
abbrev pub cut_last : List ℕ → List ℕ → Option Cut
cut_last mark [] = None
cut_last mark (c ∷ cs) = later_or_here c (cut_last mark cs) (past_mark mark (c ∷ cs))

-- the front, unless it is empty or there is none
abbrev pub front_or : List ℕ → Option Cut → List ℕ
front_or name None = name
front_or name (Some cut) = if bytes_eq cut.before [] then name else cut.before

-- a name without its last part after a dot; a dot in front begins no such part
abbrev pub stem_of : List ℕ → List ℕ
stem_of name = if bytes_eq name (codes "..") then name else front_or name (cut_last (codes ".") name)

-- the stem of the last component
abbrev pub stem_of_last : Option (List ℕ) → List ℕ
stem_of_last None = []
stem_of_last (Some name) = stem_of name

abbrev pub stem_of_path : List ℕ → List ℕ
stem_of_path path = stem_of_last (name_of path)

abbrev pub behind_or : List ℕ → Option Cut → List ℕ
behind_or text None = text
behind_or text (Some cut) = cut.behind

abbrev pub before_or_none : Option Cut → List ℕ
before_or_none None = []
before_or_none (Some cut) = cut.before

-- the name in the path of a snapshot's file: of the last component, without its last ending, what comes after the last two underscores; all
-- of it where there are none
abbrev pub snapshot_name : List ℕ → List ℕ
snapshot_name path = behind_or (stem_of_path path) (cut_last (codes "__") (stem_of_path path))

-- the module there: what comes before the last two underscores; nothing where there are none
abbrev pub module_name : List ℕ → List ℕ
module_name path = before_or_none (cut_last (codes "__") (stem_of_path path))
