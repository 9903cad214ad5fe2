-- The texts of selectors, and the parts that they spell.
use Rattle.std.specs.Prelude.{◌≡◌, ◌≢◌, ◌<◌, ◌≤◌, ◌^◌, ◌||◌, ◌==◌, ◌⊎◌, ⊤, ℕ, suc, ℤ, pos, negsuc, neg_ℤ, Bool, List, [], ◌∷◌, ◌++◌, Option, Some, None, IsTrue, if◌then◌else◌}
use Rattle.std.specs.List.{list_all}
use Rattle.std.specs.Str.Parse.{IsNumeral, digits_value}
use Rattle.unicode_ident.specs.Ident.{is_xid_start, is_xid_continue}
use Rattle.snap_select.specs.Parts.{Parts}
use Rattle.snap_select.specs.declared.segment.Segment.{Segment}
use Rattle.snap_select.specs.declared.segment.Segment.TheVariants.{DeepWildcard, Wildcard, Key, Index, Range}
use Rattle.snap_select.specs.Deep.{is_deep}

-- a blank or a tab
abbrev pub is_blank : ℕ → Bool
is_blank c = c == 32 || c == 9

abbrev pub AreBlanks : List ℕ → Type 0
AreBlanks text = IsTrue (list_all is_blank text)

-- a text of the one kind and then one of the other
pub record Behind (First Second : List ℕ → Type 0) (text : List ℕ) : Type 0 where
  pub front : List ℕ
  pub back : List ℕ
  pub is : text ≡ front ++ back
  pub first : First front
  pub second : Second back

-- brackets round a text of the kind, with blanks at both of its ends
pub record Bracketed (Inside : List ℕ → Type 0) (text : List ℕ) : Type 0 where
  pub before : List ℕ
  pub inside : List ℕ
  pub after : List ℕ
  pub is : text ≡ 91 ∷ before ++ inside ++ after ++ 93 ∷ []
  pub blank_before : AreBlanks before
  pub blank_after : AreBlanks after
  pub holds : Inside inside

-- `_`, `$`, or a character that begins an identifier
abbrev pub begins_name : ℕ → Bool
begins_name c = c == 95 || c == 36 || is_xid_start c

-- such a character, and then characters that go on with an identifier
abbrev pub IsName : List ℕ → Type 0
IsName [] = ⊥
IsName (c ∷ cs) = IsTrue (begins_name c) × IsTrue (list_all is_xid_continue cs)

-- a character inside quotes: it stands there itself, or after a backslash, as a quote and a backslash must
abbrev pub Quoted : ℕ → List ℕ → List ℕ → Type 0
Quoted c inside rest = ((inside ≡ c ∷ rest) × (c ≢ 34) × (c ≢ 92)) ⊎ (inside ≡ 92 ∷ c ∷ rest)

-- each character of the key in turn
abbrev pub Quotes : List ℕ → List ℕ → Type 0
Quotes [] inside = inside ≡ []
Quotes (c ∷ cs) inside = (rest : List ℕ) × Quoted c inside rest × Quotes cs rest

-- the key in quotes
pub record InQuotes (key text : List ℕ) : Type 0 where
  pub inside : List ℕ
  pub is : text ≡ 34 ∷ inside ++ 34 ∷ []
  pub quotes : Quotes key inside

-- `.key`, or `["key"]`
pub data SpellsKey (key text : List ℕ) : Type 0 where
  dotted : text ≡ 46 ∷ key → IsName key → SpellsKey key text
  bracketed : Bracketed (InQuotes key) text → SpellsKey key text

-- digits that have that value
abbrev pub SpellsNumber : ℕ → List ℕ → Type 0
SpellsNumber number text = IsNumeral 10 text × (digits_value 10 text ≡ number)

-- digits, after a minus where the number is to be below zero
abbrev pub signed : Bool → List ℕ → List ℕ
signed negative digits = if negative then 45 ∷ digits else digits

abbrev pub signed_value : Bool → List ℕ → ℤ
signed_value negative digits = if negative then neg_ℤ (pos (digits_value 10 digits)) else pos (digits_value 10 digits)

-- a bound of a range
pub record SpellsBound (bound : ℤ) (text : List ℕ) : Type 0 where
  pub negative : Bool
  pub digits : List ℕ
  pub is : text ≡ signed negative digits
  pub numeral : IsNumeral 10 digits
  pub value : signed_value negative digits ≡ bound

-- a bound, or nothing
abbrev pub MayBound : Option ℤ → List ℕ → Type 0
MayBound None text = text ≡ []
MayBound (Some bound) text = SpellsBound bound text

-- nothing, or a colon between the bounds, with blanks round it
pub data SpellsBounds (from to : Option ℤ) (text : List ℕ) : Type 0 where
  unbounded : text ≡ [] → from ≡ None → to ≡ None → SpellsBounds from to text
  bounded : (first before after second : List ℕ) → text ≡ first ++ before ++ 58 ∷ after ++ second → MayBound from first → AreBlanks before → AreBlanks after → MayBound to second → SpellsBounds from to text

-- the text of one segment: `.key` or `["key"]`, `[index]`, `.*`, `.**`, `[]` or `[from:to]`
abbrev pub Spells : Segment → List ℕ → Type 0
Spells (Key key) text = SpellsKey key text
Spells (Index index) text = Bracketed (SpellsNumber index) text
Spells Wildcard text = text ≡ 46 ∷ 42 ∷ []
Spells DeepWildcard text = text ≡ 46 ∷ 42 ∷ 42 ∷ []
Spells (Range from to) text = Bracketed (SpellsBounds from to) text

-- the texts of segments, one after the other
abbrev pub SpellsEach : List Segment → List ℕ → Type 0
SpellsEach [] text = text ≡ []
SpellsEach (s ∷ ss) text = Behind (Spells s) (SpellsEach ss) text

-- nothing, or a bracket
abbrev pub MayFollowDot : List ℕ → Type 0
MayFollowDot [] = ⊤
MayFollowDot (c ∷ cs) = c ≡ 91

-- the texts of segments, where a dot may stand in front of a bracket, or alone
pub record Stands (segments : List Segment) (text : List ℕ) : Type 0 where
  pub body : List ℕ
  pub led : (text ≡ body) ⊎ ((text ≡ 46 ∷ body) × MayFollowDot body)
  pub each : SpellsEach segments body

-- a part, which is never empty, with blanks at both of its ends
pub record SpellsPart (segments : List Segment) (text : List ℕ) : Type 0 where
  pub before : List ℕ
  pub inside : List ℕ
  pub after : List ℕ
  pub is : text ≡ before ++ inside ++ after
  pub blank_before : AreBlanks before
  pub blank_after : AreBlanks after
  pub stands : Stands segments inside
  pub filled : inside ≢ []

-- a part, and a comma after it
pub record BeforeComma (segments : List Segment) (text : List ℕ) : Type 0 where
  pub part : List ℕ
  pub is : text ≡ part ++ 44 ∷ []
  pub spelled : SpellsPart segments part

-- parts, each of them with a comma after it
abbrev pub EachBeforeComma : Parts → List ℕ → Type 0
EachBeforeComma [] text = text ≡ []
EachBeforeComma (p ∷ ps) text = Behind (BeforeComma p) (EachBeforeComma ps) text

-- the text spells the parts, with commas between them, however large its numbers are and however many deep wildcards a part has
pub record IsSpelled (text : List ℕ) (parts : Parts) : Type 0 where
  pub earlier : Parts
  pub last : List Segment
  pub are : parts ≡ earlier ++ last ∷ []
  pub spelled : Behind (EachBeforeComma earlier) (SpellsPart last) text

-- a bound from -2^63 up to 2^63 - 1
abbrev pub FitsBound : ℤ → Type 0
FitsBound (pos n) = n < 2 ^ 63
FitsBound (negsuc n) = n < 2 ^ 63

abbrev pub MayFit : Option ℤ → Type 0
MayFit None = ⊤
MayFit (Some bound) = FitsBound bound

-- an index is below 2^64
abbrev pub Fits : Segment → Type 0
Fits (Index index) = index < 2 ^ 64
Fits (Range from to) = MayFit from × MayFit to
Fits DeepWildcard = ⊤
Fits Wildcard = ⊤
Fits (Key key) = ⊤

abbrev pub AllFit : List Segment → Type 0
AllFit [] = ⊤
AllFit (s ∷ ss) = Fits s × AllFit ss

-- how many deep wildcards there are
abbrev pub deep_count : List Segment → ℕ
deep_count [] = 0
deep_count (s ∷ ss) = if is_deep s then suc (deep_count ss) else deep_count ss

-- the numbers of each part fit, and it has one deep wildcard at most
abbrev pub ArePlain : Parts → Type 0
ArePlain [] = ⊤
ArePlain (p ∷ ps) = AllFit p × (deep_count p ≤ 1) × ArePlain ps

-- the text is a selector of these parts
abbrev pub IsSelector : List ℕ → Parts → Type 0
IsSelector text parts = IsSpelled text parts × ArePlain parts
