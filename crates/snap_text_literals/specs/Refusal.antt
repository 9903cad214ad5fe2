-- When a source is refused, and what is printed of that.
use Rattle.std.specs.Prelude.{ℕ, List, codes}
use Rattle.snap_text_literals.specs.declared.error.LiteralError.{LiteralError}
use Rattle.snap_text_literals.specs.declared.error.LiteralError.TheVariants.{NotLiteral, OutOfMemory}

-- a source that is no literal reads as no text; out of memory says nothing
abbrev pub Refuses : LiteralError → (List ℕ → Type 0) → Type 0
Refuses NotLiteral Reads = (text : List ℕ) → Reads text → ⊥
Refuses OutOfMemory Reads = Unit {0}

-- what an error is printed as
abbrev pub literal_error_text : LiteralError → List ℕ
literal_error_text NotLiteral = codes "not a string literal"
literal_error_text OutOfMemory = codes "OutOfMemory"
