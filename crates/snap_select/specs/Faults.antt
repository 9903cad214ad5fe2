-- What is wrong in a text that is no selector, and at which column: characters are counted from 1.
use Rattle.std.specs.Prelude.{◌≡◌, ◌≤◌, ◌<◌, ◌+◌, ◌^◌, ℕ, ℤ, Bool, true, false, List, [], ◌∷◌, ◌++◌, length, Option}
use Rattle.std.specs.Str.Parse.{IsNumeral, digits_value}
use Rattle.snap_select.specs.Deep.{has_deep}
use Rattle.snap_select.specs.Grammar.{AreBlanks, EachBeforeComma, Stands, MayBound, FitsBound, signed, signed_value, IsSpelled, IsSelector}
use Rattle.snap_select.specs.Parts.{Parts}
use Rattle.snap_select.specs.declared.fault.SelectFault.{SelectFault}
use Rattle.snap_select.specs.declared.fault.SelectFault.TheVariants.{BadToken, DeepTwice, TooLarge}
use Rattle.snap_select.specs.declared.segment.Segment.{Segment}

-- some text that begins so is spelled
pub record Begins (front : List ℕ) : Type 0 where
  pub rest : List ℕ
  pub parts : Parts
  pub spelled : IsSpelled (front ++ rest) parts

-- nothing that begins with the front and the next character is spelled; where nothing is left, the front itself is not
abbrev pub IsStuck : List ℕ → List ℕ → Type 0
IsStuck front [] = (parts : Parts) → ¬ IsSpelled front parts
IsStuck front (c ∷ cs) = ¬ Begins (front ++ c ∷ [])

-- no selector goes on at this column
pub record BadTokenAt (text : List ℕ) (column : ℕ) : Type 0 where
  pub front : List ℕ
  pub back : List ℕ
  pub is : text ≡ front ++ back
  pub place : column ≡ length front + 1
  pub begins : Begins front
  pub stuck : IsStuck front back

-- the text of earlier parts, and of so many segments of the next one, after which a bracket may stand
pub record Opens (segments : List Segment) (text : List ℕ) : Type 0 where
  pub earlier : Parts
  pub front : List ℕ
  pub blanks : List ℕ
  pub body : List ℕ
  pub is : text ≡ front ++ blanks ++ body
  pub commas : EachBeforeComma earlier front
  pub blank : AreBlanks blanks
  pub stands : Stands segments body

-- an index, which has no minus, below 2^64
abbrev pub FitsIndex : Bool → List ℕ → Type 0
FitsIndex negative digits = (negative ≡ false) × (digits_value 10 digits < 2 ^ 64)

-- between what opens its brackets and what follows it, the number doesn't fit: it fits neither an index nor a bound; or the
-- colon after it makes it a bound, and it fits none; or it is the second bound, and fits none
pub data IsTooLarge (opening : List ℕ) (negative : Bool) (digits after : List ℕ) : Type 0 where
  neither : (blanks : List ℕ) → opening ≡ 91 ∷ blanks → AreBlanks blanks → ¬ FitsIndex negative digits → ¬ FitsBound (signed_value negative digits) → IsTooLarge opening negative digits after
  first : (blanks gap back : List ℕ) → opening ≡ 91 ∷ blanks → AreBlanks blanks → after ≡ gap ++ 58 ∷ back → AreBlanks gap → ¬ FitsBound (signed_value negative digits) → IsTooLarge opening negative digits after
  second : (blanks bound gap gap' : List ℕ) (from : Option ℤ) → opening ≡ 91 ∷ blanks ++ bound ++ gap ++ 58 ∷ gap' → AreBlanks blanks → MayBound from bound → AreBlanks gap → AreBlanks gap'
      → ¬ FitsBound (signed_value negative digits) → IsTooLarge opening negative digits after

-- a number that doesn't fit begins at this column, its minus counted, after a bracket that may stand there
pub record TooLargeAt (text : List ℕ) (column : ℕ) : Type 0 where
  pub before : List ℕ
  pub segments : List Segment
  pub opening : List ℕ
  pub negative : Bool
  pub digits : List ℕ
  pub after : List ℕ
  pub is : text ≡ before ++ opening ++ signed negative digits ++ after
  pub place : column ≡ length before + length opening + 1
  pub opens : Opens segments before
  pub numeral : IsNumeral 10 digits
  pub large : IsTooLarge opening negative digits after

-- a deep wildcard begins at this column, and an earlier segment of its part is one
pub record DeepTwiceAt (text : List ℕ) (column : ℕ) : Type 0 where
  pub before : List ℕ
  pub segments : List Segment
  pub after : List ℕ
  pub is : text ≡ before ++ 46 ∷ 42 ∷ 42 ∷ after
  pub place : column ≡ length before + 1
  pub opens : Opens segments before
  pub deep : has_deep segments ≡ true

abbrev pub FaultAt : List ℕ → SelectFault → ℕ → Type 0
FaultAt text BadToken column = BadTokenAt text column
FaultAt text DeepTwice column = DeepTwiceAt text column
FaultAt text TooLarge column = TooLargeAt text column

-- of all faults of the text, one at the smallest column; and the text is no selector
pub record IsFault (text : List ℕ) (kind : SelectFault) (column : ℕ) : Type 0 where
  pub here : FaultAt text kind column
  pub first : (other : SelectFault) (place : ℕ) → FaultAt text other place → column ≤ place
  pub refused : (parts : Parts) → ¬ IsSelector text parts
