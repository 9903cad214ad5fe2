-- A source with new literals in place of old ones. All places are those of the source before.
use Rattle.std.specs.Prelude.{◌≡◌, ◌≢◌, ◌⊎◌, ℕ, Bool, true, false, List, [], ◌∷◌, ◌++◌, Option, None, Some, Result, Ok, Err}
use Rattle.snap_text_literals.specs.Inline.{lead, inline_normal}
use Rattle.snap_text_literals.specs.Literal.{literal_reads}
use Rattle.snap_text_literals.specs.OfLiteral.{of_literal}
use Rattle.snap_text_literals.specs.Spelled.{spelled}
use Rattle.snap_review.specs.Places.{from_line, IsMarked, HasNoneMarked}
use Rattle.snap_review.specs.declared.patching.NewLiteral.{NewLiteral}
use Rattle.snap_review.specs.declared.patching.Refusal.{Refusal}
use Rattle.snap_review.specs.declared.patching.Refusal.TheVariants.{NotStable, NoLiteral, Stale, SameLiteral, OutOfMemory}

-- the text is its own normal form
abbrev pub IsStable : List ℕ → Type 0
IsStable text = inline_normal text ≡ text

-- where the literal of a change stands: its line, the literal, and what follows
pub record Stands (source : List ℕ) (line : ℕ) : Type 0 where
  pub from : List ℕ
  pub here : List ℕ
  pub behind : List ℕ
  pub line_is : from_line line source ≡ Some from
  pub first : IsMarked from here behind

-- there is no such line, or no literal from there on
abbrev pub NoneFrom : Option (List ℕ) → Type 0
NoneFrom None = Unit {0}
NoneFrom (Some from) = HasNoneMarked from

abbrev pub HasNone : List ℕ → ℕ → Type 0
HasNone source line = NoneFrom (from_line line source)

-- the literal stands for a text of this normal form
pub record StandsFor (here behind normal : List ℕ) : Type 0 where
  pub literal : List ℕ
  pub text : List ℕ
  pub is : here ≡ literal ++ behind
  pub reads : literal_reads literal text
  pub normal_is : inline_normal (of_literal text) ≡ normal

-- the old text, where one is known, is that for which the literal stands
abbrev pub IsFresh : Option (List ℕ) → List ℕ → List ℕ → Type 0
IsFresh None here behind = Unit {0}
IsFresh (Some old) here behind = StandsFor here behind old

-- it is known, and is another
pub record IsStale (old : Option (List ℕ)) (here behind : List ℕ) : Type 0 where
  pub known : List ℕ
  pub old_is : old ≡ Some known
  pub other : StandsFor here behind known → ⊥

-- the literal begins before the end of an earlier one: the rest of the source doesn't reach back to it
abbrev pub IsTaken : List ℕ → List ℕ → Type 0
IsTaken rest here = (gap : List ℕ) → rest ≢ gap ++ here

-- of what is left of the source, a gap and a new literal are put, and so much is left behind the old one
pub record Puts (source rest : List ℕ) (change : NewLiteral) (put behind : List ℕ) : Type 0 where
  pub place : Stands source change.line
  pub gap : List ℕ
  pub stable : IsStable change.text
  pub fresh : IsFresh change.old place.here place.behind
  pub gap_is : rest ≡ gap ++ place.here
  pub behind_is : behind ≡ place.behind
  pub put_is : put ≡ gap ++ spelled (lead place.from) (inline_normal change.text)

-- the source with every literal put, from what is left of it
abbrev pub IsPatched : List ℕ → List ℕ → List NewLiteral → List ℕ → Type 0
IsPatched source rest [] made = made ≡ rest
IsPatched source rest (c ∷ cs) made = (put behind later : List ℕ) × Puts source rest c put behind × (made ≡ put ++ later) × IsPatched source behind cs later

-- why a change is refused, in this order
abbrev pub Stops : List ℕ → List ℕ → NewLiteral → Refusal → Type 0
Stops source rest change (NotStable line) = (line ≡ change.line) × (IsStable change.text → ⊥)
Stops source rest change (NoLiteral line) = (line ≡ change.line) × IsStable change.text × HasNone source change.line
Stops source rest change (Stale line) = (line ≡ change.line) × IsStable change.text × ((place : Stands source change.line) × IsStale change.old place.here place.behind)
Stops source rest change (SameLiteral line) = (line ≡ change.line) × IsStable change.text × ((place : Stands source change.line) × IsFresh change.old place.here place.behind × IsTaken rest place.here)
Stops source rest change OutOfMemory = Unit {0}

-- the first change that is refused says why
abbrev pub IsRefused : List ℕ → List ℕ → List NewLiteral → Refusal → Type 0
IsRefused source rest [] refusal = ⊥
IsRefused source rest (c ∷ cs) refusal = Stops source rest c refusal ⊎ ((put behind : List ℕ) × Puts source rest c put behind × IsRefused source behind cs refusal)

abbrev pub RefusedFrom : List ℕ → List ℕ → List NewLiteral → Refusal → Type 0
RefusedFrom source rest changes OutOfMemory = Unit {0}
RefusedFrom source rest changes refusal = IsRefused source rest changes refusal

-- a source with each literal put, or why there is none
abbrev pub PatchEnd : List ℕ → List ℕ → List NewLiteral → Result (List ℕ) Refusal → Type 0
PatchEnd source rest changes (Ok made) = IsPatched source rest changes made
PatchEnd source rest changes (Err refusal) = RefusedFrom source rest changes refusal

-- where texts are read back: the literal reads as some text, for which a snapshot of the same normal form stands
abbrev pub ReadsBack : List ℕ → List ℕ → Type 0
ReadsBack literal text = (read : List ℕ) × literal_reads literal read × (inline_normal (of_literal read) ≡ inline_normal text)

-- what a test of the old text comes to
abbrev pub FreshEnd : Bool → Option (List ℕ) → List ℕ → List ℕ → Type 0
FreshEnd true old here behind = IsFresh old here behind
FreshEnd false old here behind = IsStale old here behind
