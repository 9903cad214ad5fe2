-- Why reading stops, and what it comes to where it goes on.
use Rattle.std.specs.Prelude.{◌≡◌, ◌+◌, ◌&&◌, false, ⊤, ℕ, List, [], ◌∷◌, ◌++◌, length, if◌then◌else◌}
use Rattle.std.specs.Str.{chars}
use Rattle.snap_select.specs.Deep.{is_deep, has_deep}
use Rattle.snap_select.specs.Grammar.{is_blank}
use Rattle.snap_select.specs.Parts.{Parts}
use Rattle.snap_select.specs.Pieces.{past, Fails, is_decimal, IsNumber}
use Rattle.snap_select.specs.Reading.{Token, Place, ready, inside, dot, star, behind_part, Outcome, refuses, outcome}
use Rattle.snap_select.specs.declared.fault.SelectFault.TheVariants.{BadToken, DeepTwice}
use Rattle.snap_select.specs.declared.segment.Segment.{Segment}
use Rattle.snap_select.specs.declared.stop.Stop.{Stop}
use Rattle.snap_select.specs.declared.stop.Stop.TheVariants.{Fault, OutOfMemory}

-- the outcome is the fault of the stop
abbrev pub IsStop : Outcome → Stop → Type 0
IsStop o (Fault kind rest) = o ≡ refuses kind (length (chars rest.now))
IsStop o OutOfMemory = ⊤

-- after any parts and segments, the text comes to what the rest comes to with one segment more, which is no deep wildcard
abbrev pub GoesOn : Token → List ℕ → Segment → List ℕ → Type 0
GoesOn token text segment rest = (is_deep segment ≡ false) × ((ps : Parts) (ss : List Segment) → outcome (inside ps ss token) text ≡ outcome (ready ps (ss ++ segment ∷ [])) rest)

-- after any parts and segments, the text comes to the fault of the stop
abbrev pub StopsAt : Token → List ℕ → Stop → Type 0
StopsAt token text stop = (ps : Parts) (ss : List Segment) → IsStop (outcome (inside ps ss token) text) stop

-- to the segment, or to the fault of a second deep wildcard with so many characters left
abbrev pub once_deep : Parts → List Segment → Segment → ℕ → List ℕ → Outcome
once_deep ps ss segment left rest = if is_deep segment && has_deep ss then refuses DeepTwice left else outcome (ready ps (ss ++ segment ∷ [])) rest

abbrev pub ReadsWildcard : List ℕ → Segment → List ℕ → Type 0
ReadsWildcard text segment rest = (ps : Parts) (ss : List Segment) → outcome (inside ps ss star) text ≡ once_deep ps ss segment (length text + 2) rest

abbrev pub ReadsDotted : List ℕ → Segment → List ℕ → Type 0
ReadsDotted text segment rest = (ps : Parts) (ss : List Segment) → outcome (inside ps ss dot) text ≡ once_deep ps ss segment (length text + 1) rest

abbrev pub ReadsSegment : List ℕ → Segment → List ℕ → Type 0
ReadsSegment text segment rest = (ps : Parts) (ss : List Segment) → outcome (ready ps ss) text ≡ once_deep ps ss segment (length text) rest

abbrev pub StopsReady : List ℕ → Stop → Type 0
StopsReady text stop = (ps : Parts) (ss : List Segment) → IsStop (outcome (ready ps ss) text) stop

-- from that place after any parts, the text comes to what the rest comes to with one part more
abbrev pub ReadsPart : (Parts → Place) → List ℕ → List Segment → List ℕ → Type 0
ReadsPart place text part rest = (ps : Parts) → outcome (place ps) text ≡ outcome (behind_part (ps ++ part ∷ [])) rest

abbrev pub StopsPart : (Parts → Place) → List ℕ → Stop → Type 0
StopsPart place text stop = (ps : Parts) → IsStop (outcome (place ps) text) stop

-- a closing bracket follows after blanks, or none does
abbrev pub Closes : List ℕ → List ℕ → Type 0
Closes text rest = past is_blank text ≡ 93 ∷ rest

abbrev pub ClosesNot : List ℕ → Stop → Type 0
ClosesNot text stop = IsStop (refuses BadToken (length (past is_blank text))) stop × ((cs : List ℕ) → past is_blank text ≡ 93 ∷ cs → ⊥)

-- a number, and what is left after it and blanks
pub record IsNumberBehind (text number rest : List ℕ) : Type 0 where
  pub after : List ℕ
  pub is : text ≡ number ++ after
  pub numeral : IsNumber number
  pub ends : Fails is_decimal after
  pub left : rest ≡ past is_blank after
