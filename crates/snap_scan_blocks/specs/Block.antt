-- Block scalars, character by character.
use Rattle.std.specs.Prelude.{ℕ, ◌+◌, ◌==◌, ◌&&◌, ◌||◌, nat_lt, max, not, List, [], ◌∷◌, Bool, false, if◌then◌else◌, slice_index, Option, Some, None, is_some, Result, Ok, Err, ◌≡◌}
use Rattle.snap_scan_blocks.specs.declared.header.Header.{Header}
use Rattle.snap_scan_blocks.specs.declared.lines.Lines.{Lines}
use Rattle.snap_scan_blocks.specs.declared.block_scalar.BlockScalar.{BlockScalar}
use Rattle.snap_scan_blocks.specs.Header.{Headed, header_from, header_fault}
use Rattle.snap_scan_blocks.specs.Lines.{no_lines, with_empty, with_line, with_character, ended, chomped}
use Rattle.snap_scan_tokens.specs.declared.info.ScanError.{ScanError}
use Rattle.snap_scan_tokens.specs.declared.info.ScanError.TheVariants.{OutOfMemory}
use Rattle.snap_scan_tokens.specs.declared.info.ScanInfo.{ScanInfo}
use Rattle.snap_scan_tokens.specs.declared.info.ScanInfo.TheVariants.{S28}
use Rattle.snap_scan_tokens.specs.Characters.{is_blank, is_break, is_pair}
use Rattle.snap_scan_tokens.specs.Mark.{Mark}
use Rattle.snap_scan_tokens.specs.Place.{Place, skipped, mark_of}

-- lines that were read, and the place after them
pub record Read : Type 0 where
  pub lines : Lines
  pub place : Place

abbrev pub stop : Lines → Place → Option Read
stop l p = Some (record { lines = l; place = p })

abbrev mutual
  -- lines whose indentation is n, after the end of a line: the characters cs are left
  pub between : ℕ → Bool → Lines → List ℕ → Place → Option Read
  between n literal l [] p = stop l p
  between n literal l (c ∷ cs) p =
      if c == 32 && nat_lt p.col n then between n literal l cs (skipped p) else (
      if c == 9 && nat_lt p.col n then None else (
      if is_break c then between n literal (if is_pair c (slice_index cs 0) then l else with_empty l) cs (skipped p) else (
      if c == 0 || not (p.col == n) then stop l p else
      within n literal (with_line literal (is_blank c) (c ∷ []) l) cs (skipped p))))

  -- the same inside a line
  pub within : ℕ → Bool → Lines → List ℕ → Place → Option Read
  within n literal l [] p = stop l p
  within n literal l (c ∷ cs) p =
      if c == 0 then stop l p else (
      if is_break c then (if is_pair c (slice_index cs 0) then within n literal l cs (skipped p) else between n literal (ended l) cs (skipped p)) else
      within n literal (with_character c l) cs (skipped p))

-- the place where the content begins: after empty lines and the indentation n
abbrev pub opened : ℕ → List ℕ → Place → Place
opened n [] p = p
opened n (c ∷ cs) p = if is_break c || (c == 32 && nat_lt p.col n) then opened n cs (skipped p) else p

-- the greatest column that spaces reach before the first other character, on its line and those before it
abbrev pub widest : List ℕ → ℕ → ℕ
widest [] col = col
widest (c ∷ cs) col =
    if c == 32 then widest cs (col + 1) else (
    if is_break c then max col (widest cs (if c == 10 || is_pair c (slice_index cs 0) then 0 else col + 1)) else col)

-- that character
abbrev pub first_sign : List ℕ → ℕ
first_sign [] = 0
first_sign (c ∷ cs) = if c == 32 || is_break c then first_sign cs else c

-- so many columns, counted from the innermost block where there is one
abbrev pub right_of : Option ℕ → ℕ → ℕ
right_of None count = count
right_of (Some column) count = column + count

-- the indentation that the header gives, or else that of the first lines, at least a column right of the innermost block
abbrev pub indentation_of : Option ℕ → Option ℕ → Place → ℕ
indentation_of (Some digit) indent p = right_of indent digit
indentation_of None indent p = max (widest p.left p.col) (right_of indent 1)

-- a tab where the indentation is looked for
abbrev pub is_bad_tab : Option ℕ → Place → Bool
is_bad_tab (Some digit) p = false
is_bad_tab None p = first_sign p.left == 9

-- the lines after a header that gives this indentation
abbrev pub lines_from : Option ℕ → Option ℕ → Bool → Lines → Place → Option Read
lines_from digit indent literal l p =
    if is_bad_tab digit p then None else between (indentation_of digit indent p) literal l p.left p

-- a block scalar: its text, the place where its content begins, and the place after it
pub record Block : Type 0 where
  pub text : List ℕ
  pub mark : Mark
  pub place : Place

abbrev pub block_of : Header → Mark → Option Read → Option Block
block_of header mark None = None
block_of header mark (Some r) = Some (record { text = chomped header.chomping r.lines; mark = mark; place = r.place })

abbrev pub content_of : Option ℕ → Option ℕ → Place → Mark
content_of digit indent p = mark_of (opened (indentation_of digit indent p) p.left p)

abbrev pub block_behind : Option ℕ → Bool → Option Headed → Option Block
block_behind indent literal None = None
block_behind indent literal (Some h) =
    block_of h.header (content_of h.header.indentation indent h.place) (lines_from h.header.indentation indent literal no_lines h.place)

-- the block scalar at a place; none where it is refused
abbrev pub block_from : Option ℕ → Bool → Place → Option Block
block_from indent literal p = block_behind indent literal (header_from p)

-- what is wrong with a block scalar that is refused: its header, or a tab where the indentation is looked for
abbrev pub block_fault : Place → ScanInfo
block_fault p = if is_some (header_from p) then S28 else header_fault p

-- the scalar was read, and is refused exactly where it is refused here, out of memory aside
abbrev pub ReadsBlock : Option Block → Result BlockScalar ScanError → Place → Type 0
ReadsBlock (Some b) (Ok scalar) p = (scalar.text ≡ b.text) × (scalar.mark ≡ b.mark) × (p ≡ b.place)
ReadsBlock None (Ok scalar) p = ⊥
ReadsBlock (Some b) (Err e) p = e ≡ OutOfMemory
ReadsBlock None (Err e) p = Unit {0}
