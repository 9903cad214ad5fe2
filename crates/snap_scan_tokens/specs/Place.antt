-- A place in a text, with the characters that are left there.
use Rattle.std.specs.Prelude.{ℕ, ◌+◌, ◌≡◌, ◌≤◌, ◌==◌, List, [], ◌∷◌, length, Bool, if◌then◌else◌}
use Rattle.snap_scan_tokens.specs.Mark.{Mark}
use Rattle.snap_scan_tokens.specs.Pieces.{EndsIn}

-- a place: the characters that are left, the index, the line and the column
pub record Place : Type 0 where
  pub left : List ℕ
  pub index : ℕ
  pub line : ℕ
  pub col : ℕ

-- what stands before the first NUL, which ends a text: all of it where there is none
abbrev pub before_nul : List ℕ → List ℕ
before_nul [] = []
before_nul (c ∷ cs) = if c == 0 then [] else c ∷ before_nul cs

-- what the mark of a place shows
abbrev pub mark_of : Place → Mark
mark_of p = record { index = p.index; line = p.line; col = p.col }

-- the first place of a text
abbrev pub start_of : List ℕ → Place
start_of cs = record { left = cs; index = 0; line = 1; col = 0 }

-- the place after a character c: a line feed begins a line
abbrev pub behind : ℕ → List ℕ → Place → Place
behind c cs p =
    record {
      left = cs;
      index = p.index + 1;
      line = if c == 10 then p.line + 1 else p.line;
      col = if c == 10 then 0 else p.col + 1;
    }

abbrev pub skip_from : List ℕ → Place → Place
skip_from [] p = p
skip_from (c ∷ cs) p = behind c cs p

-- the place one character later, and the place itself at the end
abbrev pub skipped : Place → Place
skipped p = skip_from p.left p

-- the place after the characters of a kind, of which cs are left
abbrev pub passed : (ℕ → Bool) → List ℕ → Place → Place
passed is_one [] p = p
passed is_one (c ∷ cs) p = if is_one c then passed is_one cs (behind c cs p) else p

-- the place after the characters of a kind that stand here
abbrev pub skipped_while : (ℕ → Bool) → Place → Place
skipped_while is_one p = passed is_one p.left p

-- the place after the end of a line was forced
abbrev pub forced : Place → Place
forced p = record p { line = if p.col == 0 then p.line else p.line + 1; col = 0 }

-- q is reached from p by passing characters
pub data Later : Place → Place → Type 0 where
  here : (p : Place) → Later p p
  next : (p q : Place) → Later p q → Later p (skipped q)

-- a cursor went forward in its text: a place reached from an earlier one is still reached, what ended a text still ends it,
-- no character is lost, and no more is left
pub record Travels (old new : Place) : Type 0 where
  pub onward : (from : Place) → Later from old → Later from new
  pub within : (all : List ℕ) → EndsIn all old.left → EndsIn all new.left
  pub sum : new.index + length new.left ≡ old.index + length old.left
  pub lighter : length new.left ≤ length old.left
