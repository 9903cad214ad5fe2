-- One fetch: the token that stands next is put into the queue.
use Rattle.std.specs.Prelude.{ℕ, ◌+◌, ◌≡◌, ◌≤◌, ◌&&◌, nat_lt, Some, Result, Ok, Err, List, [], ◌∷◌, length, Bool, true, false, not, Option, None, if◌then◌else◌}
use Rattle.snap_scan_tokens.specs.Place.{Place, Later, mark_of, forced}
use Rattle.snap_scan_tokens.specs.Causes.{IsExplained}
use Rattle.snap_scan_tokens.specs.Plain.{Plain, plain_from}
use Rattle.snap_scan_tokens.specs.Quoted.{Quoted, style_of, quoted_from}
use Rattle.snap_scan_tokens.specs.declared.quoted.Quotes.{Quotes}
use Rattle.snap_scan_tokens.specs.declared.quoted.Quotes.TheVariants.{Single, Double}
use Rattle.snap_scan_blocks.specs.Block.{Block, block_from}
use Rattle.snap_scan_tokens.specs.Mark.{Mark}
use Rattle.snap_scan_tokens.specs.declared.token.TokenType.{TokenType}
use Rattle.snap_scan_tokens.specs.declared.token.TokenType.TheVariants as t
use Rattle.snap_scan_tokens.specs.declared.token.TEncoding.TheVariants.{Utf8}
use Rattle.snap_scan_tokens.specs.declared.token.TScalarStyle.{TScalarStyle}
use Rattle.snap_scan_tokens.specs.declared.token.TScalarStyle.TheVariants as style
use Rattle.snap_scan_tokens.specs.declared.info.ScanInfo.{ScanInfo}
use Rattle.snap_scan_tokens.specs.declared.info.ScanInfo.TheVariants as i
use Rattle.snap_scan_tokens.specs.declared.info.ScanError.{ScanError}
use Rattle.snap_scan_tokens.specs.declared.info.ScanError.TheVariants.{Syntax, OutOfMemory}
use Rattle.snap_scan.specs.Keys.{deeper, shallower, is_required, any_overdue}
use Rattle.snap_scan.specs.Kinds.{kind_of}
use Rattle.snap_scan.specs.declared.kind.TokenKind.{TokenKind}
use Rattle.snap_scan.specs.declared.kind.TokenKind.TheVariants as k
use Rattle.snap_scan.specs.declared.keys.SimpleKey.{SimpleKey}
use Rattle.snap_scan.specs.State.{State, at, in_flow, pushed, inserted, advanced, allowing, to_next, unrolled, rolled, keyless, saved, is_key_owed, stale}

-- what a fetch comes to: the state that it leaves; the same, where a reader went on from a place, or did so and its token has a mark
-- further on; the fault that it names; a token of this kind, which its reader makes of the characters after the state's place; or
-- what a reader refuses there
pub data Outcome : Type 0 where
  done : State → Outcome
  told : Place → State → Outcome
  told_behind : Place → Mark → State → Outcome
  refused : Mark → ScanInfo → Outcome
  read : TokenKind → State → Outcome
  unreadable : State → Outcome

-- the tokens that a reader may give for what begins here
abbrev pub IsTokenOf : TokenKind → TokenType → Type 0
IsTokenOf k.Directive (t.VersionDirective _ _) = Unit {0}
IsTokenOf k.Directive (t.TagDirective _) = Unit {0}
IsTokenOf k.Alias (t.Alias _) = Unit {0}
IsTokenOf k.Anchor (t.Anchor _) = Unit {0}
IsTokenOf k.Tag (t.Tag _) = Unit {0}
IsTokenOf _ _ = ⊥

-- a reader went on from the state s, and its token, whose mark is the place where it began, was put after the held ones
pub record IsRead (kind : TokenKind) (s new : State) : Type 0 where
  pub token : TokenType
  pub is : IsTokenOf kind token
  pub later : Later s.place new.place
  pub further : length new.place.left + 1 ≤ length s.place.left
  pub leaves : new ≡ record (pushed (at (mark_of s.place) token) s) { place = new.place }

-- a reader went on from a place, and left the state u
pub record IsTold (p : Place) (u new : State) : Type 0 where
  pub is : new ≡ u
  pub later : Later p new.place
  pub further : length new.place.left + 1 ≤ length p.left

-- the state that a fetch leaves
abbrev pub Leaves : Outcome → State → Type 0
Leaves (done u) new = new ≡ u
Leaves (told p u) new = IsTold p u new
Leaves (told_behind p m u) new = IsTold p u new × (p.index ≤ m.index) × (m.index ≤ new.place.index)
Leaves (refused m info) new = ⊥
Leaves (read kind s) new = IsRead kind s new
Leaves (unreadable s) new = ⊥

-- the fault that is named: by the fetch itself, or by a reader, at or after the place where it began
abbrev pub Names : Outcome → Mark → ScanInfo → Type 0
Names (done u) m info = ⊥
Names (told p u) m info = ⊥
Names (told_behind p at_mark u) m info = ⊥
Names (refused at_mark why) m info = (m ≡ at_mark) × (info ≡ why)
Names (read kind s) m info = IsExplained s.place (Syntax m info)
Names (unreadable s) m info = IsExplained s.place (Syntax m info)

abbrev pub MayFail : ScanError → Outcome → Type 0
MayFail (Syntax m info) o = Names o m info
MayFail OutOfMemory o = Unit {0}

-- the call does what the fetch comes to, and refuses exactly where it does, out of memory aside
abbrev pub Does : {T : Type 0} → Outcome → Result T ScanError → State → Type 0
Does o (Ok _) new = Leaves o new
Does o (Err e) new = MayFail e o

abbrev pub stream_started : State → State
stream_started s = pushed (at (mark_of s.place) (t.StreamStart Utf8)) (record s { started = true })

-- all blocks are closed, and no key is possible
abbrev pub closed : State → State
closed s = allowing false (keyless (unrolled None s))

abbrev pub stream_end : State → Outcome
stream_end s =
    let end = record s { place = forced s.place } in
    if is_required s.keys.key then refused (mark_of end.place) i.S2 else (
    done (record (pushed (at (mark_of end.place) t.StreamEnd) (closed end)) { ended = true }))

abbrev pub directive : State → Outcome
directive s = if is_required s.keys.key then refused (mark_of s.place) i.S2 else read k.Directive (closed s)

abbrev pub document : TokenType → State → Outcome
document kind s =
    if is_required s.keys.key then refused (mark_of s.place) i.S2 else (
    done (pushed (at (mark_of s.place) kind) (advanced (advanced (advanced (closed s))))))

-- a token that stands for one character, after which a simple key may begin or not
abbrev pub sign : TokenType → Bool → State → State
sign kind b s = pushed (at (mark_of s.place) kind) (advanced (allowing b s))

abbrev pub flow_start : TokenType → State → Outcome
flow_start kind s =
    if is_key_owed s then refused (mark_of s.place) i.S2 else (
    if nat_lt (length s.keys.outer) 1023 then (let t = saved s in done (sign kind true (record t { keys = deeper t.keys })))
    else refused (mark_of s.place) i.S23)

abbrev pub flow_end : TokenType → State → Outcome
flow_end kind s =
    if is_required s.keys.key then refused (mark_of s.place) i.S2 else (
    let t = keyless s in done (sign kind false (record t { keys = shallower t.keys })))

abbrev pub flow_entry : State → Outcome
flow_entry s = if is_required s.keys.key then refused (mark_of s.place) i.S2 else done (sign t.FlowEntry true (keyless s))

abbrev pub block_entry : State → Outcome
block_entry s =
    if in_flow s then refused (mark_of s.place) i.S25 else (
    if not s.allowed then refused (mark_of s.place) i.S24 else (
    if is_required s.keys.key then refused (mark_of s.place) i.S2 else (
    done (sign t.BlockEntry true (keyless (rolled s.place.col None (at (mark_of s.place) t.BlockSequenceStart) s))))))

abbrev pub block_key : State → Outcome
block_key s =
    if not (in_flow s) && not s.allowed then refused (mark_of s.place) i.S35 else (
    if is_required s.keys.key then refused (mark_of s.place) i.S2 else (
    done (sign t.Key (not (in_flow s)) (keyless (rolled s.place.col None (at (mark_of s.place) t.BlockMappingStart) s)))))

-- the `:` after a simple key puts a Key before the token that began it
abbrev pub value_of_key : SimpleKey → State → State
value_of_key key s =
    let start = at (mark_of s.place) t.BlockMappingStart in
    sign t.Value false (keyless (rolled key.mark.col (Some key.place) start (inserted key.place (at key.mark t.Key) s)))

-- a `:` that no simple key stands before
abbrev pub value_alone : State → Outcome
value_alone s =
    if not (in_flow s) && not s.allowed then refused (mark_of s.place) i.S36 else (
    done (sign t.Value (not (in_flow s)) (rolled s.place.col None (at (mark_of s.place) t.BlockMappingStart) s)))

abbrev pub value_behind : Option SimpleKey → State → Outcome
value_behind (Some key) s = done (value_of_key key s)
value_behind None s = value_alone s

-- the innermost of the open blocks
abbrev pub innermost : List ℕ → Option ℕ
innermost [] = None
innermost (o ∷ os) = Some o

-- a token that may be a simple key, and after which none may begin
abbrev pub read_key : TokenKind → State → Outcome
read_key kind s = if is_key_owed s then refused (mark_of s.place) i.S2 else read kind (allowing false (saved s))

abbrev pub plain_read : Option Plain → State → Outcome
plain_read None s = unreadable s
plain_read (Some r) s =
    told s.place (pushed (at (mark_of s.place) (t.Scalar style.Plain r.text)) (record (saved s) { allowed = r.is_broken; place = r.place }))

-- what a plain scalar is fetched as, and where the scanner is then
abbrev pub plain : State → Outcome
plain s =
    if is_key_owed s then refused (mark_of s.place) i.S2 else plain_read (plain_from (innermost s.columns) (in_flow s) s.place) s

-- after a quoted scalar a `:` ends a key in flow, whatever stands after it
abbrev pub quoted_read : TScalarStyle → Option Quoted → State → Outcome
quoted_read written None s = unreadable s
quoted_read written (Some r) s =
    told s.place (pushed (at (mark_of s.place) (t.Scalar written r.text)) (record (saved s) { allowed = false; place = r.place; adjacent = r.place.index }))

-- what a quoted scalar is fetched as, and where the scanner is then
abbrev pub quoted : Quotes → State → Outcome
quoted quotes s = if is_key_owed s then refused (mark_of s.place) i.S2 else quoted_read (style_of quotes) (quoted_from quotes s.place) s

-- after a block scalar, whose mark is where its content begins, a simple key may begin
abbrev pub block_read : TScalarStyle → Option Block → State → Outcome
block_read written None s = unreadable s
block_read written (Some r) s =
    told_behind s.place r.mark (pushed (at r.mark (t.Scalar written r.text)) (record (saved s) { allowed = true; place = r.place }))

abbrev pub block_style : Bool → TScalarStyle
block_style true = style.Literal
block_style false = style.Foled

abbrev pub block_scalar : Bool → State → Outcome
block_scalar literal s =
    if is_key_owed s then refused (mark_of s.place) i.S2 else block_read (block_style literal) (block_from (innermost s.columns) literal s.place) s

abbrev pub kind_step : TokenKind → State → Outcome
kind_step k.StreamEnd s = stream_end s
kind_step k.Directive s = directive s
kind_step k.DocumentStart s = document t.DocumentStart s
kind_step k.DocumentEnd s = document t.DocumentEnd s
kind_step k.FlowSequenceStart s = flow_start t.FlowSequenceStart s
kind_step k.FlowMappingStart s = flow_start t.FlowMappingStart s
kind_step k.FlowSequenceEnd s = flow_end t.FlowSequenceEnd s
kind_step k.FlowMappingEnd s = flow_end t.FlowMappingEnd s
kind_step k.FlowEntry s = flow_entry s
kind_step k.BlockEntry s = block_entry s
kind_step k.Key s = block_key s
kind_step k.Value s = value_behind s.keys.key s
kind_step (k.Refused info) s = refused (mark_of s.place) info
kind_step k.Alias s = read_key k.Alias s
kind_step k.Anchor s = read_key k.Anchor s
kind_step k.Tag s = read_key k.Tag s
kind_step k.Literal s = block_scalar true s
kind_step k.Folded s = block_scalar false s
kind_step k.SingleQuoted s = quoted Single s
kind_step k.DoubleQuoted s = quoted Double s
kind_step k.Plain s = plain s

-- the state at the next token, its blocks closed
abbrev pub at_token : State → State
at_token s = unrolled (Some s.place.col) (stale s)

-- the fetch of the token that stands here
abbrev pub token_step : State → Outcome
token_step s =
    if any_overdue (mark_of s.place) s.keys then refused (mark_of s.place) i.S1 else (
    kind_step (kind_of (in_flow (at_token s)) s.adjacent (at_token s).place) (at_token s))

-- one fetch
abbrev pub step : State → Outcome
step s = if s.ended then done s else (if s.started then token_step (to_next s.place.left s) else done (stream_started s))
