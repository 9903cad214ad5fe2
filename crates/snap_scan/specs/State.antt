-- What the fetching of tokens works on, and what its parts make of it.
use Rattle.std.specs.Prelude.{ℕ, ◌+◌, ◌*◌, ◌==◌, ◌&&◌, ◌||◌, ◌≡◌, nat_lt, min, Some, Result, Ok, Err, List, [], ◌∷◌, ◌++◌, drop, length, Bool, true, false, not, Option, None, if◌then◌else◌}
use Rattle.std.specs.List.{insert}
use Rattle.snap_scan_tokens.specs.Characters.{is_break}
use Rattle.snap_scan_tokens.specs.Place.{Place, start_of, mark_of, skipped}
use Rattle.snap_scan_tokens.specs.Mark.{Mark}
use Rattle.snap_scan_tokens.specs.declared.token.Token.{Token}
use Rattle.snap_scan_tokens.specs.declared.token.TokenType.{TokenType}
use Rattle.snap_scan_tokens.specs.declared.token.TokenType.TheVariants as k
use Rattle.snap_scan_tokens.specs.declared.info.ScanError.{ScanError}
use Rattle.snap_scan_tokens.specs.declared.info.ScanError.TheVariants.{OutOfMemory}
use Rattle.snap_scan.specs.Keys.{Keys, no_keys, has_levels, is_required, still_fresh, all_lowered}
use Rattle.snap_scan.specs.declared.keys.SimpleKey.{SimpleKey}
use Rattle.snap_scan.specs.declared.fetcher.Fetcher.{Fetcher}

-- what a scanner remembers: its place, the tokens that are held back, and what is open there
pub record State : Type 0 where
  pub place : Place
  -- the tokens that are held back
  pub held : List Token
  -- StreamStart was made
  pub started : Bool
  -- StreamEnd was made
  pub ended : Bool
  -- a simple key may begin
  pub allowed : Bool
  -- where a `:` stands right after a quoted scalar
  pub adjacent : ℕ
  pub keys : Keys
  -- the columns of the open blocks, the innermost first
  pub columns : List ℕ

-- what a fetcher is seen as
abbrev pub state_of : Fetcher → State
state_of f = record {
  place = f.cursor;
  held = f.tokens.items;
  started = f.started;
  ended = f.ended;
  allowed = f.simple_key_allowed;
  adjacent = f.adjacent_value_allowed_at;
  keys = f.keys;
  columns = f.columns;
}

-- before the first fetch
abbrev pub start_state : List ℕ → State
start_state cs = record {
  place = start_of cs;
  held = [];
  started = false;
  ended = false;
  allowed = true;
  adjacent = 0;
  keys = no_keys;
  columns = [];
}

abbrev pub at : Mark → TokenType → Token
at mark kind = record { 0 = mark; 1 = kind }

abbrev pub in_flow : State → Bool
in_flow s = has_levels s.keys.outer

-- how many tokens can still be given at most, while StreamEnd is ahead; then as many as are held
abbrev pub spent : State → ℕ
spent s =
    4 * length s.place.left + length s.held + length s.columns + (if s.ended then 0 else 1) + (if s.started then 0 else 1)

-- how many characters stand before the place and after it
abbrev pub extent : State → ℕ
extent s = s.place.index + length s.place.left

-- how much is still to be fetched
abbrev pub work : State → ℕ
work s = length s.place.left + (if s.ended then 0 else 1) + (if s.started then 0 else 1)

abbrev pub pushed : Token → State → State
pushed t s = record s { held = s.held ++ t ∷ [] }

abbrev pub inserted : ℕ → Token → State → State
inserted place t s = record s { held = insert s.held (min place (length s.held)) t }

-- a token is put at a place in the queue, or at its end
abbrev pub put : Option ℕ → Token → State → State
put None t s = pushed t s
put (Some place) t s = inserted place t s

abbrev pub advanced : State → State
advanced s = record s { place = skipped s.place }

abbrev pub allowing : Bool → State → State
allowing b s = record s { allowed = b }

-- after a line end a simple key may begin, outside flow
abbrev pub line_ended : State → State
line_ended s = record s { allowed = in_flow s && s.allowed || not (in_flow s) }

-- blanks are passed; a tab only in flow, or where no simple key may begin
abbrev pub is_space : ℕ → State → Bool
is_space c s = c == 32 || (c == 9 && (in_flow s || not s.allowed))

abbrev mutual
  -- the state at the next token, of characters that are left
  pub to_next : List ℕ → State → State
  to_next [] s = s
  to_next (c ∷ cs) s =
      if is_space c s then to_next cs (advanced s) else (
      if is_break c then to_next cs (line_ended (advanced s)) else (
      if c == 35 then past_comment cs (advanced s) else s))

  pub past_comment : List ℕ → State → State
  past_comment [] s = s
  past_comment (c ∷ cs) s = if is_break c then to_next cs (line_ended (advanced s)) else (if c == 0 then s else past_comment cs (advanced s))

-- a column is right of another one, or of none
abbrev pub is_right_of : Option ℕ → ℕ → Bool
is_right_of None o = true
is_right_of (Some col) o = nat_lt col o

-- the ends of the blocks right of a column
abbrev pub ends : Mark → Option ℕ → List ℕ → List Token
ends mark col [] = []
ends mark col (o ∷ os) = if is_right_of col o then at mark k.BlockEnd ∷ ends mark col os else []

-- the other blocks
abbrev pub kept : Option ℕ → List ℕ → List ℕ
kept col [] = []
kept col (o ∷ os) = if is_right_of col o then kept col os else o ∷ os

-- the blocks right of a column are closed, outside flow
abbrev pub unrolled : Option ℕ → State → State
unrolled col s =
    if in_flow s then s else record s { held = s.held ++ ends (mark_of s.place) col s.columns; columns = kept col s.columns }

abbrev pub is_deeper : ℕ → List ℕ → Bool
is_deeper col [] = true
is_deeper col (o ∷ os) = nat_lt o col

-- a block begins at a column that is deeper than the blocks that are open, outside flow
abbrev pub rolled : ℕ → Option ℕ → Token → State → State
rolled col place t s =
    if in_flow s then s else (if is_deeper col s.columns then put place t (record s { columns = col ∷ s.columns }) else s)

-- the possible key of the innermost level is given up
abbrev pub keyless : State → State
keyless s = record s { keys = record s.keys { key = None } }

-- the innermost block stands at this column
abbrev pub is_innermost : ℕ → List ℕ → Bool
is_innermost col [] = false
is_innermost col (o ∷ os) = o == col

-- the next token is a possible key, where one may begin; in flow it must become one at the innermost block's column
abbrev pub saved : State → State
saved s =
    let key : SimpleKey = record { place = length s.held; required = in_flow s && is_innermost s.place.col s.columns; mark = mark_of s.place } in
    record s { keys = record s.keys { key = if s.allowed then Some key else s.keys.key } }

-- the key that stands in the way of another one must become one
abbrev pub is_key_owed : State → Bool
is_key_owed s = s.allowed && is_required s.keys.key

abbrev pub stale : State → State
stale s = record s { keys = still_fresh (mark_of s.place) s.keys }

-- the state once its first token is given
abbrev pub given : State → State
given s = record s { held = drop 1 s.held; keys = all_lowered s.keys }

-- the call leaves the state t, or there was not enough memory
abbrev pub Gives : {T : Type 0} → Result T ScanError → State → State → Type 0
Gives (Ok _) new t = new ≡ t
Gives (Err e) new t = e ≡ OutOfMemory

-- StreamEnd was made, and is held no longer
abbrev pub has_ended : State → Bool
has_ended s = s.ended && length s.held == 0

-- how many tokens can still be given at most
abbrev pub left_of : State → ℕ
left_of s = if s.ended then length s.held else spent s

-- a token is held that can be given, or none is to come
abbrev pub IsReady : State → Type 0
IsReady s = s.held ≡ [] → s.ended ≡ true
