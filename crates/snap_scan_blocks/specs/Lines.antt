-- The text of a block scalar, line by line.
use Rattle.std.specs.Prelude.{ℕ, ◌||◌, List, [], ◌∷◌, ◌++◌, Bool, true, false, if◌then◌else◌}
use Rattle.snap_scan_blocks.specs.declared.header.Chomping.{Chomping}
use Rattle.snap_scan_blocks.specs.declared.header.Chomping.TheVariants.{Strip, Clip, Keep}
use Rattle.snap_scan_blocks.specs.declared.lines.Lines.{Lines}
use Rattle.snap_content.specs.Numbers.{is_nothing}

abbrev pub no_lines : Lines
no_lines = record { text = []; is_ended = false; is_deeper = false; breaks = [] }

abbrev pub with_breaks : List ℕ → Lines → Lines
with_breaks breaks l = record l { breaks = breaks }

-- an empty line more
abbrev pub with_empty : Lines → Lines
with_empty l = record l { breaks = l.breaks ++ 10 ∷ [] }

-- the lines with the end of the last one, before a further line: folded it is a blank, or nothing where empty lines
-- stand between; beside a line that begins with a blank, and in a literal scalar, it stays
abbrev pub with_end : Bool → Bool → Lines → List ℕ
with_end literal deeper l =
    if literal || l.is_deeper || deeper then l.text ++ 10 ∷ [] else (
    if is_nothing l.breaks then l.text ++ 32 ∷ [] else l.text)

-- the text before a further line
abbrev pub joined : Bool → Bool → Lines → List ℕ
joined literal deeper l = (if l.is_ended then with_end literal deeper l else l.text) ++ l.breaks

-- a further line, which is open
abbrev pub with_line : Bool → Bool → List ℕ → Lines → Lines
with_line literal deeper text l = record { text = joined literal deeper l ++ text; is_ended = false; is_deeper = deeper; breaks = [] }

-- a character more in the last line
abbrev pub with_character : ℕ → Lines → Lines
with_character c l = record l { text = l.text ++ c ∷ [] }

abbrev pub ended : Lines → Lines
ended l = record l { is_ended = true }

abbrev pub with_last_end : Lines → List ℕ
with_last_end l = if l.is_ended then l.text ++ 10 ∷ [] else l.text

-- the text, with the line ends that the header keeps: none, that of the last line, or that and those of the empty lines
abbrev pub chomped : Chomping → Lines → List ℕ
chomped Strip l = l.text
chomped Clip l = with_last_end l
chomped Keep l = with_last_end l ++ l.breaks
