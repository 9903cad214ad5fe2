-- Texts as they stand on a line.
use Rattle.std.specs.Prelude.{ℕ, List, [], ◌∷◌, ◌==◌, if◌then◌else◌, codes}

-- a character on a line: a line's end, a return, a tab, NUL and a backslash as a backslash and a letter or one more, each other character
-- as itself
abbrev pub shown : ℕ → List ℕ
shown c =
    if c == 10 then codes "\\n" else (
    if c == 13 then codes "\\r" else (
    if c == 9 then codes "\\t" else (
    if c == 0 then codes "\\0" else (
    if c == 92 then codes "\\\\" else c ∷ []))))

-- the character that another one stands for after a backslash
abbrev pub meant : ℕ → ℕ
meant c = if c == 110 then 10 else (if c == 114 then 13 else (if c == 116 then 9 else (if c == 48 then 0 else c)))

-- the characters that a line stands for; a backslash at its end stands for none
abbrev mutual
  pub read : List ℕ → List ℕ
  read [] = []
  read (c ∷ cs) = if c == 92 then read_escaped cs else c ∷ read cs

  pub read_escaped : List ℕ → List ℕ
  read_escaped [] = []
  read_escaped (c ∷ cs) = meant c ∷ read cs
