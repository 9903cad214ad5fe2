-- What holds of a scanner at any time, of the tokens that it gives, and of its errors.
use Rattle.std.specs.Prelude.{ℕ, ◌+◌, ◌≡◌, ◌<◌, ◌≤◌, ◌⊎◌, ◌==◌, All, List, [], ◌∷◌, ◌++◌, drop, length, count_by, codes, Bool, true, false, not, ◌||◌, Option, Some, None, Result, Ok, Err}
use Rattle.snap_scan_tokens.specs.Mark.{Mark}
use Rattle.snap_scan_tokens.specs.Place.{Place}
use Rattle.snap_scan_tokens.specs.Causes.{Need, one_of, nothing, is_among, HasCause}
use Rattle.snap_scan_tokens.specs.declared.token.Token.{Token}
use Rattle.snap_scan_tokens.specs.declared.token.TokenType.{TokenType}
use Rattle.snap_scan_tokens.specs.declared.token.TokenType.TheVariants as t
use Rattle.snap_scan_tokens.specs.declared.info.ScanError.{ScanError}
use Rattle.snap_scan_tokens.specs.declared.info.ScanError.TheVariants.{Syntax, OutOfMemory}
use Rattle.snap_scan.specs.Keys.{Keys}
use Rattle.snap_scan.specs.State.{State, start_state, has_ended}
use Rattle.snap_scan.specs.declared.keys.SimpleKey.{SimpleKey}

-- the signs one of which must stand in a text that gives a token
abbrev pub shown : TokenType → Need
shown (t.VersionDirective _ _) = one_of (codes "%")
shown (t.TagDirective _) = one_of (codes "%")
shown t.BlockSequenceStart = one_of (codes "-")
shown t.BlockEntry = one_of (codes "-")
shown t.BlockMappingStart = one_of (codes "?:")
shown t.FlowSequenceStart = one_of (codes "[")
shown t.FlowMappingStart = one_of (codes "{")
shown (t.Alias _) = one_of (codes "*")
shown (t.Anchor _) = one_of (codes "&")
shown (t.Tag _) = one_of (codes "!")
shown _ = nothing

-- the signs stand in the text
abbrev pub Holds : List ℕ → Need → Type 0
Holds source need = need.count ≤ count_by (is_among need.signs) source

abbrev pub is_line_feed : ℕ → Bool
is_line_feed c = c == 10

-- at the mark stands a `?`
pub record HasQuestion (source : List ℕ) (mark : Mark) : Type 0 where
  pub before : List ℕ
  pub after : List ℕ
  pub text : source ≡ before ++ 63 ∷ after
  pub index : mark.index ≡ length before

-- after the mark, on its line and at most 1,024 characters later, stands a `:`
pub record HasColon (source : List ℕ) (mark : Mark) : Type 0 where
  pub before : List ℕ
  pub key : List ℕ
  pub after : List ℕ
  pub text : source ≡ before ++ key ++ 58 ∷ after
  pub index : mark.index ≡ length before
  pub some : 1 ≤ length key
  pub short : length key ≤ 1024
  pub one_line : count_by is_line_feed key ≡ 0

-- what the mark of a Key needs
abbrev pub KeyStands : List ℕ → Mark → Type 0
KeyStands source mark = HasQuestion source mark ⊎ HasColon source mark

abbrev pub KindStands : List ℕ → Mark → TokenType → Type 0
KindStands source mark t.Key = KeyStands source mark
KindStands source mark _ = Unit {0}

-- a token whose signs stand in the source, and whose mark lies in it or at its end
pub record IsShown (source : List ℕ) (token : Token) : Type 0 where
  pub signs : Holds source (shown token.1)
  pub mark : token.0.index ≤ length source
  pub key : KindStands source token.0 token.1

-- an error that the source explains, and that names a place in it or at its end
abbrev pub IsFounded : List ℕ → ScanError → Type 0
IsFounded source OutOfMemory = Unit {0}
IsFounded source (Syntax mark info) = HasCause source info × (mark.index ≤ length source)

-- a place in the source, with so many opening brackets at least before it
pub record IsIn (source : List ℕ) (levels : ℕ) (p : Place) : Type 0 where
  pub before : List ℕ
  pub text : source ≡ before ++ p.left
  pub index : p.index ≡ length before
  pub brackets : levels ≤ count_by (is_among (codes "[{")) before

-- what opens a block
abbrev pub block_signs : Need
block_signs = one_of (codes "-?:")

abbrev pub is_start : TokenType → Bool
is_start (t.StreamStart _) = true
is_start _ = false

abbrev pub is_end : TokenType → Bool
is_end t.StreamEnd = true
is_end _ = false

abbrev pub IsNoStart : Token → Type 0
IsNoStart token = is_start token.1 ≡ false

abbrev pub IsNoEnd : Token → Type 0
IsNoEnd token = is_end token.1 ≡ false

-- StreamStart is the first of these
abbrev pub begins_stream : List Token → Bool
begins_stream [] = false
begins_stream (token ∷ tokens) = is_start token.1

-- a possible key began in the source, d characters at least before a place, with a line for each line feed between
pub record IsKeyBehind (source : List ℕ) (d : ℕ) (p : Place) (key : SimpleKey) : Type 0 where
  pub before : List ℕ
  pub between : List ℕ
  pub text : source ≡ before ++ between ++ p.left
  pub index : key.mark.index ≡ length before
  pub some : d ≤ length between
  pub lines : key.mark.line + count_by is_line_feed between ≤ p.line

-- a possible key: it must be one only where a block was opened, and it names no place before a held StreamStart
pub record IsKeySound (source : List ℕ) (d : ℕ) (p : Place) (starts : Bool) (key : SimpleKey) : Type 0 where
  pub behind : IsKeyBehind source d p key
  pub block : key.required ≡ true → Holds source block_signs
  pub place : starts ≡ true → 1 ≤ key.place

abbrev pub IsPossible : List ℕ → ℕ → Place → Bool → Option SimpleKey → Type 0
IsPossible source d p starts None = Unit {0}
IsPossible source d p starts (Some key) = IsKeySound source d p starts key

pub record ArePossible (source : List ℕ) (d : ℕ) (p : Place) (starts : Bool) (keys : Keys) : Type 0 where
  pub key : IsPossible source d p starts keys.key
  pub outer : All (IsPossible source d p starts) keys.outer

-- StreamEnd is the last of these, if there are any
abbrev pub EndsStream : List Token → Type 0
EndsStream [] = Unit {0}
EndsStream (token ∷ []) = is_end token.1 ≡ true
EndsStream (token ∷ next ∷ tokens) = IsNoEnd token × EndsStream (next ∷ tokens)

-- StreamEnd stands after the held tokens once it was made, and among none before
abbrev pub IsEndLast : Bool → List Token → Type 0
IsEndLast true held = EndsStream held
IsEndLast false held = All IsNoEnd held

-- what holds once StreamStart was made, of a place, of what is held there, and of what is possible; `ahead`: StreamStart is held;
-- `over`: StreamEnd was made
pub record IsSoundAt (over ahead : Bool) (source : List ℕ) (d : ℕ) (p : Place) (held : List Token) (ks : Keys) (columns : List ℕ)
    (begun stopped : Bool) : Type 0 where
  pub place : IsIn source (length ks.outer) p
  pub tokens : All (IsShown source) held
  pub first : begins_stream held ≡ ahead
  pub starts : All IsNoStart (drop 1 held)
  pub ends : IsEndLast over held
  pub keys : ArePossible source d p ahead ks
  pub blocks : 0 < length columns → Holds source block_signs
  pub started : begun ≡ true
  pub ended : stopped ≡ over

abbrev pub IsSoundFrom : Bool → Bool → List ℕ → ℕ → State → Type 0
IsSoundFrom over ahead source d s = IsSoundAt over ahead source d s.place s.held s.keys s.columns s.started s.ended

-- between two fetches: nothing was touched, or StreamEnd is ahead, or it was made; and each possible key lies after
pub data IsSound (ahead : Bool) (source : List ℕ) (s : State) : Type 0 where
  untouched : ahead ≡ true → s ≡ start_state source → IsSound ahead source s
  open_still : IsSoundFrom false ahead source 1 s → IsSound ahead source s
  over : IsSoundFrom true ahead source 1 s → IsSound ahead source s

-- the call leaves a sound state, or its error is founded
abbrev pub StaysSound : {T : Type 0} → Bool → List ℕ → Result T ScanError → State → Type 0
StaysSound ahead source (Ok _) new = IsSound ahead source new
StaysSound ahead source (Err e) new = IsFounded source e

-- the call keeps a state sound, whatever the source is, and whether StreamStart is ahead
abbrev pub KeepsSound : {T : Type 0} → Result T ScanError → State → State → Type 0
KeepsSound r old new = (ahead : Bool) (source : List ℕ) → IsSound ahead source old → StaysSound ahead source r new

-- StreamStart was not given yet
abbrev pub is_start_ahead : State → Bool
is_start_ahead s = not s.started || begins_stream s.held

-- the token that the call gives is shown, StreamStart where that is ahead, and StreamEnd where no token is ahead; and the state is sound
abbrev pub GivesSound : Bool → List ℕ → Result (Option Token) ScanError → State → Type 0
GivesSound ahead source (Ok None) new = IsSound ahead source new
GivesSound ahead source (Ok (Some token)) new =
    IsShown source token × (is_start token.1 ≡ ahead) × (is_end token.1 ≡ has_ended new) × IsSound false source new
GivesSound ahead source (Err e) new = IsFounded source e

-- the call gives a token of a sound state, and keeps it sound
abbrev pub GivesOfSound : Result (Option Token) ScanError → State → State → Type 0
GivesOfSound r old new = (ahead : Bool) (source : List ℕ) → IsSound ahead source old → GivesSound ahead source r new
