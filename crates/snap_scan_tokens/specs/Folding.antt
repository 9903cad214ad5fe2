-- White space inside a scalar, and what it stands for once a character follows.
use Rattle.std.specs.Prelude.{ℕ, List, [], ◌∷◌, ◌++◌, Bool, true, false, if◌then◌else◌}
use Rattle.snap_content.specs.Numbers.{is_nothing}
use Rattle.snap_scan_tokens.specs.declared.folding.Fold.{Fold}
use Rattle.snap_scan_tokens.specs.declared.folding.Fold.TheVariants.{Inline, Broken, Escaped}
use Rattle.snap_scan_tokens.specs.declared.folding.Gap.{Gap}

-- no white space
abbrev pub no_gap : Gap
no_gap = record { fold = Inline; text = [] }

-- after a line end that is escaped
abbrev pub escaped_gap : Gap
escaped_gap = record { fold = Escaped; text = [] }

-- whether a line ended
abbrev pub is_folded : Fold → Bool
is_folded Inline = false
is_folded _ = true

-- blanks stand for themselves, but at a line end
abbrev pub with_blank : ℕ → Gap → Gap
with_blank c g = record g { text = if is_folded g.fold then g.text else g.text ++ c ∷ [] }

-- the first line end takes the blanks before it away, each further one stands for a line feed
abbrev pub with_break : Gap → Gap
with_break g = record { fold = if is_folded g.fold then g.fold else Broken; text = if is_folded g.fold then g.text ++ 10 ∷ [] else [] }

-- one line end that isn't escaped stands for a blank
abbrev pub joined_as : Fold → List ℕ → List ℕ
joined_as Broken text = if is_nothing text then 32 ∷ [] else text
joined_as _ text = text

-- what white space stands for once a character follows
abbrev pub joined : Gap → List ℕ
joined g = joined_as g.fold g.text

-- a gap whose blanks, where no line ended, were kept apart
abbrev pub gap_of : Gap → List ℕ → Gap
gap_of g blanks = record g { text = if is_folded g.fold then g.text else blanks }
