-- Scalars in quotes, character by character.
use Rattle.std.specs.Prelude.{ℕ, zero, suc, ◌+◌, ◌-◌, ◌*◌, ◌==◌, ◌&&◌, ◌||◌, nat_le, nat_lt, List, [], ◌∷◌, ◌++◌, Bool, true, false, not, if◌then◌else◌, slice_index, Option, Some, None, is_some, Result, Ok, Err, ◌≡◌, ◌≢◌}
use Rattle.snap_scan_tokens.specs.declared.folding.Gap.{Gap}
use Rattle.snap_scan_tokens.specs.declared.info.ScanError.{ScanError}
use Rattle.snap_scan_tokens.specs.declared.info.ScanError.TheVariants.{OutOfMemory, Syntax}
use Rattle.snap_scan_tokens.specs.declared.info.ScanInfo.{ScanInfo}
use Rattle.snap_scan_tokens.specs.declared.info.ScanInfo.TheVariants as i
use Rattle.snap_scan_tokens.specs.declared.quoted.Quotes.{Quotes}
use Rattle.snap_scan_tokens.specs.declared.quoted.Quotes.TheVariants as q
use Rattle.snap_scan_tokens.specs.declared.token.TScalarStyle.{TScalarStyle}
use Rattle.snap_scan_tokens.specs.declared.token.TScalarStyle.TheVariants as style
use Rattle.snap_scan_tokens.specs.Causes.{explains}
use Rattle.snap_scan_tokens.specs.Characters.{is_blank, is_break, is_pair, is_document_indicator}
use Rattle.snap_scan_tokens.specs.Folding.{no_gap, escaped_gap, with_blank, with_break, joined, gap_of}
use Rattle.snap_scan_tokens.specs.Pieces.{Piece, before}
use Rattle.snap_scan_tokens.specs.Place.{Place, skipped}

pub record Quoted : Type 0 where
  pub text : List ℕ
  pub place : Place

abbrev pub quoted_end : Gap → List ℕ → Place → Option Quoted
quoted_end g text p = Some (record { text = text ++ joined g; place = skipped p })

abbrev mutual
  -- a text in single quotes, of which the text is read, and then a gap, and the characters cs are left
  pub single : Gap → List ℕ → List ℕ → Place → Option Quoted
  single g text [] p = None
  single g text (c ∷ cs) p =
      if is_blank c then single (with_blank c g) text cs (skipped p) else (
      if is_break c then single (if is_pair c (slice_index cs 0) then g else with_break g) text cs (skipped p) else (
      if is_document_indicator p || c == 0 then None else (
      if c == 39 then (if slice_index cs 0 == 39 then doubled (text ++ joined g) cs (skipped p) else quoted_end g text p) else
      single no_gap (text ++ joined g ++ c ∷ []) cs (skipped p))))

  -- the second of two quotes, which stand for one
  pub doubled : List ℕ → List ℕ → Place → Option Quoted
  doubled text [] p = None
  doubled text (c ∷ cs) p = single no_gap (text ++ 39 ∷ []) cs (skipped p)

-- the scalar between single quotes at a place; none where it is refused
abbrev pub single_from : Place → Option Quoted
single_from p = single no_gap [] (skipped p).left (skipped p)

-- a reader of single quotes that gathered a text, and stands after a gap
abbrev pub single_at : Piece → Gap → Place → Option Quoted
single_at text g p = single (gap_of g (before text.behind p.left)) text.text p.left p

-- the value of a hexadecimal digit
abbrev pub hexadecimal : ℕ → Option ℕ
hexadecimal c =
    if nat_le 48 c && nat_le c 57 then Some (c - 48) else (
    if nat_le 65 c && nat_le c 70 then Some (c - 55) else (
    if nat_le 97 c && nat_le c 102 then Some (c - 87) else None))

abbrev pub value_of : Option ℕ → ℕ
value_of None = 0
value_of (Some n) = n

-- a number with one hexadecimal digit more
abbrev pub with_digit : ℕ → ℕ → ℕ
with_digit value c = value * 16 + value_of (hexadecimal c)

-- what is wrong with an escape is explained by the quote before it
abbrev pub IsBadEscape : ScanInfo → Type 0
IsBadEscape info = explains 34 info ≡ true

-- the codes of characters
abbrev pub is_code : ℕ → Bool
is_code n = nat_lt n 55296 || (nat_lt 57343 n && nat_lt n 1114112)

-- the character that a letter after a backslash stands for
abbrev pub escaped : ℕ → Option ℕ
escaped c =
    if c == 48 then Some 0 else (
    if c == 97 then Some 7 else (
    if c == 98 then Some 8 else (
    if c == 116 || c == 9 then Some 9 else (
    if c == 110 then Some 10 else (
    if c == 118 then Some 11 else (
    if c == 102 then Some 12 else (
    if c == 114 then Some 13 else (
    if c == 101 then Some 27 else (
    if c == 32 || c == 34 || c == 39 || c == 92 then Some c else (
    if c == 78 then Some 133 else (
    if c == 95 then Some 160 else (
    if c == 76 then Some 8232 else (
    if c == 80 then Some 8233 else None)))))))))))))

-- how many hexadecimal digits follow a letter after a backslash, besides the first
abbrev pub further_digits : ℕ → Option ℕ
further_digits c =
    if c == 120 then Some 1 else (
    if c == 117 then Some 3 else (
    if c == 85 then Some 7 else None))

abbrev mutual
  -- a text in double quotes, of which the text is read, and then a gap, and the characters cs are left
  pub double : Gap → List ℕ → List ℕ → Place → Option Quoted
  double g text [] p = None
  double g text (c ∷ cs) p =
      if is_blank c then double (with_blank c g) text cs (skipped p) else (
      if is_break c then double (if is_pair c (slice_index cs 0) then g else with_break g) text cs (skipped p) else (
      if is_document_indicator p || c == 0 then None else (
      if c == 34 then quoted_end g text p else (
      if c == 92 then escape (text ++ joined g) cs (skipped p) else
      double no_gap (text ++ joined g ++ c ∷ []) cs (skipped p)))))

  -- what stands after a backslash: a line end, a letter for a character, or a letter and a code
  pub escape : List ℕ → List ℕ → Place → Option Quoted
  escape text [] p = None
  escape text (c ∷ cs) p =
      if is_break c then (if is_pair c (slice_index cs 0) then escape text cs (skipped p) else double escaped_gap text cs (skipped p)) else (
      if is_some (escaped c) then double no_gap (text ++ value_of (escaped c) ∷ []) cs (skipped p) else (
      if is_some (further_digits c) then digits (value_of (further_digits c)) 0 text cs (skipped p) else None))

  -- a code in hexadecimal digits, of which a part with this value is read; n digits stand after the next one
  pub digits : ℕ → ℕ → List ℕ → List ℕ → Place → Option Quoted
  digits n value text [] p = None
  digits zero value text (c ∷ cs) p =
      if is_some (hexadecimal c) && is_code (with_digit value c) then double no_gap (text ++ with_digit value c ∷ []) cs (skipped p) else None
  digits (suc n) value text (c ∷ cs) p =
      if is_some (hexadecimal c) then digits n (with_digit value c) text cs (skipped p) else None

-- so many hexadecimal digits stand here, and one more
abbrev pub are_digits : ℕ → List ℕ → Bool
are_digits n [] = false
are_digits zero (c ∷ cs) = is_some (hexadecimal c)
are_digits (suc n) (c ∷ cs) = is_some (hexadecimal c) && are_digits n cs

-- what is wrong with a code that is none: a digit is missing, or no character has it
abbrev pub code_fault : ℕ → List ℕ → ScanInfo
code_fault further cs = if are_digits further cs then i.S33 else i.S32

-- what is wrong with what stands after a backslash: no such letter, or its code
abbrev pub letter_fault : Option ℕ → List ℕ → ScanInfo
letter_fault None cs = i.S31
letter_fault (Some further) cs = code_fault further cs

-- what is wrong with the escape after a backslash that stands before this place
abbrev pub escape_fault : Place → ScanInfo
escape_fault p = letter_fault (further_digits (slice_index p.left 0)) (skipped p).left

-- a reader of double quotes that gathered a text, and stands after a gap
abbrev pub double_at : Piece → Gap → Place → Option Quoted
double_at text g p = double (gap_of g (before text.behind p.left)) text.text p.left p

-- the scalar between double quotes at a place; none where it is refused
abbrev pub double_from : Place → Option Quoted
double_from p = double no_gap [] (skipped p).left (skipped p)

-- the sign of the quotes
abbrev pub sign_of : Quotes → ℕ
sign_of q.Single = 39
sign_of q.Double = 34

-- the style of a scalar in these quotes
abbrev pub style_of : Quotes → TScalarStyle
style_of q.Single = style.SingleQuoted
style_of q.Double = style.DoubleQuoted

-- the quotes end before these characters: single ones where another doesn't follow
abbrev pub ends_quoted : Quotes → List ℕ → Bool
ends_quoted q.Single cs = slice_index cs 0 == 39 && not (slice_index cs 1 == 39)
ends_quoted q.Double cs = slice_index cs 0 == 34

-- what a scalar in these quotes comes to, which opens at the place
abbrev pub quoted_from : Quotes → Place → Option Quoted
quoted_from q.Single p = single_from p
quoted_from q.Double p = double_from p

abbrev pub quoted_at : Quotes → Piece → Gap → Place → Option Quoted
quoted_at q.Single text g p = single_at text g p
quoted_at q.Double text g p = double_at text g p

-- a place in quotes where these don't end, and where neither white space nor a document indicator stands nor the text ends
pub record IsInside (quotes : Quotes) (p : Place) : Type 0 where
  pub blank : is_blank (slice_index p.left 0) ≡ false
  pub broken : is_break (slice_index p.left 0) ≡ false
  pub sign : is_document_indicator p ≡ false
  pub some : slice_index p.left 0 ≢ 0
  pub going : ends_quoted quotes p.left ≡ false

-- the text was read, and is refused exactly where it is refused here, out of memory aside
abbrev pub ReadsQuoted : Option Quoted → Result (List ℕ) ScanError → Place → Type 0
ReadsQuoted (Some q) (Ok text) p = (text ≡ q.text) × (p ≡ q.place)
ReadsQuoted None (Ok text) p = ⊥
ReadsQuoted (Some q) (Err e) p = e ≡ OutOfMemory
ReadsQuoted None (Err e) p = Unit {0}

-- what a step of such a reader answers: the rest is read as before, or it is refused, out of memory aside
abbrev pub Continues : {T : Type 0} → Option Quoted → Option Quoted → Result T ScanError → Type 0
Continues old new (Ok _) = new ≡ old
Continues old new (Err OutOfMemory) = Unit {0}
Continues old new (Err (Syntax _ _)) = old ≡ None
