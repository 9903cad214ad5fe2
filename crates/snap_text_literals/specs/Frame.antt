-- The older form of an inline text. The oldest inline texts stand in a frame: each line after white space and a sign, `⋮`.
use Rattle.std.specs.Prelude.{ℕ, ◌-◌, List, [], ◌∷◌, ◌++◌, Bool, false, not, ◌==◌, ◌&&◌, ◌||◌, nat_lt, length, drop, Option, None, Some, if◌then◌else◌}
use Rattle.std.specs.Char.{is_whitespace, len_utf8}
use Rattle.std.specs.List.{list_any, list_all, flat_map}
use Rattle.std.specs.Str.{encode_utf8_all, skip_leading_whitespace}
use Rattle.snap_content.specs.Front.{begins}
use Rattle.snap_content.specs.Lines.{ended}
use Rattle.snap_str.specs.Lines.{lines}
use Rattle.snap_text_literals.specs.Inline.{is_short, inline_normal}
use Rattle.snap_text_literals.specs.Legacy.{without_breaks, without_fence}
use Rattle.snap_text_literals.specs.Lines.{is_line_end}
use Rattle.snap_text_literals.specs.Normal.{trimmed}

abbrev pub sign : ℕ
sign = 8942

-- the white space that a text begins with
abbrev pub space_front : List ℕ → List ℕ
space_front [] = []
space_front (c ∷ cs) = if is_whitespace c then c ∷ space_front cs else []

-- what stands after the last line end
abbrev pub last_line : List ℕ → List ℕ
last_line [] = []
last_line (c ∷ cs) = if list_any is_line_end (c ∷ cs) then last_line cs else c ∷ cs

-- the first character that is no white space is the sign
abbrev pub is_framed : List ℕ → Bool
is_framed text = begins sign (skip_leading_whitespace text)

-- how many bytes stand in front of the first sign on its line
abbrev pub frame_width : List ℕ → ℕ
frame_width text = length (encode_utf8_all (last_line (space_front text)))

-- what follows the first sign
abbrev pub framed_text : List ℕ → List ℕ
framed_text text = drop 1 (skip_leading_whitespace text)

-- the character in front of the first part
abbrev pub onto_front : ℕ → Option (List ℕ × List ℕ) → Option (List ℕ × List ℕ)
onto_front c None = None
onto_front c (Some (front, rest)) = Some (c ∷ front, rest)

-- a line up to a byte and from it on; none where the line is shorter or no character begins there
abbrev pub at_byte : ℕ → List ℕ → Option (List ℕ × List ℕ)
at_byte n [] = if n == 0 then Some ([], []) else None
at_byte n (c ∷ cs) = if n == 0 then Some ([], c ∷ cs) else (if nat_lt n (len_utf8 c) then None else onto_front c (at_byte (n - len_utf8 c) cs))

abbrev pub is_space : List ℕ → Bool
is_space text = list_all is_whitespace text

abbrev pub is_broken : Option (List ℕ × List ℕ) → Bool
is_broken None = false
is_broken (Some (front, rest)) = not (is_space front) || not (begins sign rest || is_space rest)

-- a line below the first sign breaks the frame where other than white space stands in front of that byte,
-- or other than the sign and white space from it on
abbrev pub breaks_frame : ℕ → List ℕ → Bool
breaks_frame byte line = is_broken (at_byte byte line)

abbrev pub behind_sign : List ℕ → List ℕ
behind_sign [] = []
behind_sign (c ∷ cs) = if c == sign then ended cs else []

abbrev pub given_of : Option (List ℕ × List ℕ) → List ℕ
given_of None = []
given_of (Some (front, rest)) = behind_sign rest

-- what a line below the first sign gives: what follows its own sign, with a line end
abbrev pub given : ℕ → List ℕ → List ℕ
given byte line = given_of (at_byte byte line)

-- lines from the first sign on, without the frame; nothing where one of them breaks it
abbrev pub unframed : ℕ → List (List ℕ) → List ℕ
unframed byte [] = []
unframed byte (first ∷ later) = if list_any (breaks_frame byte) later then [] else trimmed (ended first ++ flat_map (given byte) later)

abbrev pub without_frame : List ℕ → List ℕ
without_frame text = if is_framed text then unframed (frame_width text) (lines (framed_text text)) else text

-- a text of one line that was stretched over several
abbrev pub is_stretched : List ℕ → Bool
is_stretched text = list_any is_line_end text && is_short (lines (trimmed text))

abbrev pub if_stretched : Bool → List ℕ → List ℕ
if_stretched stretched older = if stretched then skip_leading_whitespace older else older

-- the older form of an inline text
abbrev pub inline_legacy : List ℕ → List ℕ
inline_legacy text = if_stretched (is_stretched text) (without_frame (without_fence (without_breaks (inline_normal text))))
