-- A selector's text, character by character. That this is the grammar is a law.
use Rattle.std.specs.Prelude.{◌+◌, ◌^◌, ◌==◌, ◌&&◌, not, ℕ, suc, ℤ, pos, negsuc, Bool, true, false, List, [], ◌∷◌, ◌++◌, length, Option, None, Some, nat_le, if◌then◌else◌}
use Rattle.std.specs.Char.{is_digit}
use Rattle.std.specs.Str.Parse.{digits_value}
use Rattle.unicode_ident.specs.Ident.{is_xid_continue}
use Rattle.snap_select.specs.Deep.{has_deep}
use Rattle.snap_select.specs.Grammar.{begins_name, is_blank, signed, signed_value}
use Rattle.snap_select.specs.Parts.{Parts}
use Rattle.snap_select.specs.declared.fault.SelectFault.{SelectFault}
use Rattle.snap_select.specs.declared.fault.SelectFault.TheVariants.{BadToken, DeepTwice, TooLarge}
use Rattle.snap_select.specs.declared.segment.Segment.{Segment}
use Rattle.snap_select.specs.declared.segment.Segment.TheVariants.{DeepWildcard, Wildcard, Key, Index, Range}

-- what of a segment has been read
pub data Token : Type 0 where
  dot : Token
  in_name : List ℕ → Token
  star : Token
  bracket : Token
  in_quotes : List ℕ → Token
  backslash : List ℕ → Token
  minus : Token
  number : Bool → List ℕ → Token
  behind_number : Bool → List ℕ → ℕ → Token
  colon : Option ℤ → Token
  to_minus : Option ℤ → Token
  to_number : Option ℤ → Bool → List ℕ → Token
  closing : Segment → Token

-- what one more character makes of it: it goes on, the character ends the segment, the segment ended before the character,
-- or no segment goes on so
pub data Move : Type 0 where
  on : Token → Move
  ends : Segment → Move
  ended_before : Segment → Move
  nowhere : Move

-- after a whole number: a colon makes it a bound, and a bracket an index
abbrev pub behind : Bool → List ℕ → ℕ → Move
behind negative digits c =
    if c == 58 then on (colon (Some (signed_value negative digits))) else (
    if c == 93 && not negative then ends (Index (digits_value 10 digits)) else nowhere)

abbrev pub move : Token → ℕ → Move
move dot c = if begins_name c then on (in_name (c ∷ [])) else (if c == 42 then on star else nowhere)
move (in_name name) c = if is_xid_continue c then on (in_name (name ++ c ∷ [])) else ended_before (Key name)
move star c = if c == 42 then ends DeepWildcard else ended_before Wildcard
move bracket c =
    if is_blank c then on bracket else (
    if c == 34 then on (in_quotes []) else (
    if c == 45 then on minus else (
    if is_digit c 10 then on (number false (c ∷ [])) else (
    if c == 58 then on (colon None) else (
    if c == 93 then ends (Range None None) else nowhere)))))
move (in_quotes key) c =
    if c == 34 then on (closing (Key key)) else (
    if c == 92 then on (backslash key) else on (in_quotes (key ++ c ∷ [])))
move (backslash key) c = on (in_quotes (key ++ c ∷ []))
move minus c = if is_digit c 10 then on (number true (c ∷ [])) else nowhere
move (number negative digits) c =
    if is_digit c 10 then on (number negative (digits ++ c ∷ [])) else (
    if is_blank c then on (behind_number negative digits 1) else behind negative digits c)
move (behind_number negative digits gap) c = if is_blank c then on (behind_number negative digits (suc gap)) else behind negative digits c
move (colon from) c =
    if is_blank c then on (colon from) else (
    if c == 45 then on (to_minus from) else (
    if is_digit c 10 then on (to_number from false (c ∷ [])) else (
    if c == 93 then ends (Range from None) else nowhere)))
move (to_minus from) c = if is_digit c 10 then on (to_number from true (c ∷ [])) else nowhere
move (to_number from negative digits) c =
    if is_digit c 10 then on (to_number from negative (digits ++ c ∷ [])) else (
    if is_blank c then on (closing (Range from (Some (signed_value negative digits)))) else (
    if c == 93 then ends (Range from (Some (signed_value negative digits))) else nowhere))
move (closing segment) c = if is_blank c then on (closing segment) else (if c == 93 then ends segment else nowhere)

-- the segment, where it may end
abbrev pub whole : Token → Option Segment
whole (in_name name) = Some (Key name)
whole star = Some Wildcard
whole dot = None
whole bracket = None
whole (in_quotes key) = None
whole (backslash key) = None
whole minus = None
whole (number negative digits) = None
whole (behind_number negative digits gap) = None
whole (colon from) = None
whole (to_minus from) = None
whole (to_number from negative digits) = None
whole (closing segment) = None

-- what has been read: earlier parts, the whole segments of this one, and what of the next segment
pub data Place : Type 0 where
  before_part : Parts → Place
  first_dot : Parts → Place
  ready : Parts → List Segment → Place
  inside : Parts → List Segment → Token → Place
  behind_part : Parts → Place

-- after a part
abbrev pub separate : Parts → ℕ → Option Place
separate ps c = if is_blank c then Some (behind_part ps) else (if c == 44 then Some (before_part ps) else None)

-- after a segment
abbrev pub follow : Parts → List Segment → ℕ → Option Place
follow ps ss c = if c == 46 then Some (inside ps ss dot) else (if c == 91 then Some (inside ps ss bracket) else separate (ps ++ ss ∷ []) c)

abbrev pub moved : Parts → List Segment → ℕ → Move → Option Place
moved ps ss c (on token) = Some (inside ps ss token)
moved ps ss c (ends segment) = Some (ready ps (ss ++ segment ∷ []))
moved ps ss c (ended_before segment) = follow ps (ss ++ segment ∷ []) c
moved ps ss c nowhere = None

-- where one more character leads
abbrev pub step : Place → ℕ → Option Place
step (before_part ps) c =
    if is_blank c then Some (before_part ps) else (
    if c == 46 then Some (first_dot ps) else (
    if c == 91 then Some (inside ps [] bracket) else None))
step (first_dot ps) c =
    if begins_name c then Some (inside ps [] (in_name (c ∷ []))) else (
    if c == 42 then Some (inside ps [] star) else (
    if c == 91 then Some (inside ps [] bracket) else separate (ps ++ [] ∷ []) c))
step (ready ps ss) c = follow ps ss c
step (inside ps ss token) c = moved ps ss c (move token c)
step (behind_part ps) c = separate ps c

abbrev pub with_last : Parts → List Segment → Option Segment → Option Parts
with_last ps ss None = None
with_last ps ss (Some segment) = Some (ps ++ (ss ++ segment ∷ []) ∷ [])

-- the parts, where the text may end
abbrev pub ended : Place → Option Parts
ended (before_part ps) = None
ended (first_dot ps) = Some (ps ++ [] ∷ [])
ended (ready ps ss) = Some (ps ++ ss ∷ [])
ended (inside ps ss token) = with_last ps ss (whole token)
ended (behind_part ps) = Some ps

-- a bound that doesn't fit 64 bits
abbrev pub is_far : ℤ → Bool
is_far (pos n) = nat_le (2 ^ 63) n
is_far (negsuc n) = nat_le (2 ^ 63) n

-- digits that fit neither an index nor a bound
abbrev pub is_over : Bool → List ℕ → Bool
is_over negative digits = if negative then is_far (signed_value negative digits) else nat_le (2 ^ 64) (digits_value 10 digits)

-- the fault that one more character shows, but that no segment goes on so
abbrev pub flaw_in : List Segment → Token → ℕ → Option SelectFault
flaw_in ss star c = if c == 42 && has_deep ss then Some DeepTwice else None
flaw_in ss (number negative digits) c =
    if is_digit c 10 then (if is_over negative (digits ++ c ∷ []) then Some TooLarge else None) else (
    if c == 58 && is_far (signed_value negative digits) then Some TooLarge else None)
flaw_in ss (behind_number negative digits gap) c = if c == 58 && is_far (signed_value negative digits) then Some TooLarge else None
flaw_in ss (to_number from negative digits) c =
    if is_digit c 10 && is_far (signed_value negative (digits ++ c ∷ [])) then Some TooLarge else None
flaw_in ss dot c = None
flaw_in ss (in_name name) c = None
flaw_in ss bracket c = None
flaw_in ss (in_quotes key) c = None
flaw_in ss (backslash key) c = None
flaw_in ss minus c = None
flaw_in ss (colon from) c = None
flaw_in ss (to_minus from) c = None
flaw_in ss (closing segment) c = None

abbrev pub flaw : Place → ℕ → Option SelectFault
flaw (inside ps ss token) c = flaw_in ss token c
flaw (before_part ps) c = None
flaw (first_dot ps) c = None
flaw (ready ps ss) c = None
flaw (behind_part ps) c = None

-- how many characters of the number, or of the wildcard, have been read
abbrev pub since_in : Token → ℕ
since_in dot = 1
since_in star = 2
since_in minus = 1
since_in (number negative digits) = length (signed negative digits)
since_in (behind_number negative digits gap) = length (signed negative digits) + gap
since_in (to_minus from) = 1
since_in (to_number from negative digits) = length (signed negative digits)
since_in (in_name name) = 0
since_in bracket = 0
since_in (in_quotes key) = 0
since_in (backslash key) = 0
since_in (colon from) = 0
since_in (closing segment) = 0

abbrev pub since : Place → ℕ
since (first_dot ps) = 1
since (inside ps ss token) = since_in token
since (before_part ps) = 0
since (ready ps ss) = 0
since (behind_part ps) = 0

-- what comes of a text: its parts, or its fault and how many characters are left from there
pub data Outcome : Type 0 where
  selects : Parts → Outcome
  refuses : SelectFault → ℕ → Outcome

abbrev pub at_end : Option Parts → Outcome
at_end None = refuses BadToken 0
at_end (Some parts) = selects parts

-- with so many characters from the one that shows the fault on
abbrev pub going : Option SelectFault → ℕ → ℕ → Outcome → Outcome
going None back left o = o
going (Some kind) back left o = refuses kind (back + left)

abbrev pub stepped : Option Place → ℕ → (Place → Outcome) → Outcome
stepped None left o = refuses BadToken left
stepped (Some to) left o = o to

-- where these characters lead from a place
abbrev pub outcome : Place → List ℕ → Outcome
outcome place [] = at_end (ended place)
outcome place (c ∷ cs) = going (flaw place c) (since place) (suc (length cs)) (stepped (step place c) (suc (length cs)) (λ to. outcome to cs))
