-- How an inline text is written as a literal.
use Rattle.std.specs.Prelude.{◌≡◌, ℕ, ◌/◌, ◌%◌, List, [], ◌∷◌, ◌++◌, Bool, true, not, ◌==◌, ◌&&◌, ◌||◌, nat_lt, nat_le, if◌then◌else◌}
use Rattle.std.specs.Char.{digit_char}
use Rattle.std.specs.List.{list_any, list_all, flat_map}
use Rattle.snap_text_literals.specs.Hashes.{hashes, required}
use Rattle.snap_text_literals.specs.Lines.{is_line_end}
use Rattle.snap_str.specs.Lines.{onto}

-- a control character
abbrev pub is_control : ℕ → Bool
is_control c = nat_lt c 32 || (nat_le 127 c && nat_le c 159)

-- a control character other than a line end, a tab and an escape
abbrev pub is_hidden : ℕ → Bool
is_hidden c = is_control c && not (c == 10 || c == 9 || c == 27)

-- the fewest lower-case digits of a number below 256
abbrev pub digits : ℕ → List ℕ
digits c = if nat_lt c 16 then digit_char c ∷ [] else digit_char (c / 16) ∷ digit_char (c % 16) ∷ []

abbrev pub escaped_char : ℕ → List ℕ
escaped_char c =
    if c == 0 then 92 ∷ 48 ∷ [] else (
    if c == 9 then 92 ∷ 116 ∷ [] else (
    if c == 10 then 92 ∷ 110 ∷ [] else (
    if c == 13 then 92 ∷ 114 ∷ [] else (
    if c == 34 then 92 ∷ 34 ∷ [] else (
    if c == 92 then 92 ∷ 92 ∷ [] else (
    if is_control c then 92 ∷ 117 ∷ 123 ∷ (digits c ++ 125 ∷ []) else c ∷ []))))))

-- a backslash or a quote
abbrev pub is_marked : ℕ → Bool
is_marked c = c == 92 || c == 34

-- a text cut at its line ends
abbrev pub line_parts : List ℕ → List (List ℕ)
line_parts [] = [] ∷ []
line_parts (c ∷ cs) = if c == 10 then [] ∷ line_parts cs else onto c (line_parts cs)

-- a line of a frame: an empty one has no indentation
abbrev pub framed_line : List ℕ → List ℕ → List ℕ
framed_line indentation [] = 10 ∷ []
framed_line indentation (c ∷ cs) = 10 ∷ (indentation ++ c ∷ cs)

-- what stands between the quotes: a text of one line as it is; else each line on a line of its own, and the indentation of the last quote
abbrev pub shown : List ℕ → List ℕ → List ℕ
shown indentation text = if list_any is_line_end text then flat_map (framed_line indentation) (line_parts text) ++ 10 ∷ indentation else text

abbrev pub escaped_form : List ℕ → List ℕ
escaped_form text = 34 ∷ (flat_map escaped_char text ++ 34 ∷ [])

abbrev pub raw_form : List ℕ → List ℕ → List ℕ
raw_form indentation text = 114 ∷ (hashes (required text) ++ 34 ∷ (shown indentation text ++ 34 ∷ hashes (required text)))

abbrev pub plain_form : List ℕ → List ℕ → List ℕ
plain_form indentation text = 34 ∷ (shown indentation text ++ 34 ∷ [])

-- the literal of a normal form
abbrev pub spelled : List ℕ → List ℕ → List ℕ
spelled indentation text =
    if list_any is_hidden text then escaped_form text else (if list_any is_marked text then raw_form indentation text else plain_form indentation text)

-- the text that is meant by it
abbrev pub meant : List ℕ → List ℕ → List ℕ
meant indentation text = if list_any is_hidden text then text else shown indentation text

abbrev pub is_indent : ℕ → Bool
is_indent c = c == 32 || c == 9

-- blanks and tabs alone
abbrev pub IsIndentation : List ℕ → Type 0
IsIndentation text = list_all is_indent text ≡ true
