-- Texts on one line.
use Rattle.std.specs.Prelude.{ℕ, Bool, true, false, nat_lt}
use Rattle.snap_json.specs.declared.format.Format.{Format}
use Rattle.snap_json.specs.declared.format.Format.TheVariants.{Condensed, SingleLine, Pretty}

-- a character below a blank: line ends, tabs and other control characters
abbrev pub is_low : ℕ → Bool
is_low c = nat_lt c 32

-- the layouts of one line
abbrev pub is_one_line : Format → Bool
is_one_line Condensed = true
is_one_line SingleLine = true
is_one_line Pretty = false
