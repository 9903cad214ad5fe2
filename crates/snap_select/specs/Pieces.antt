-- How a text falls into a piece at its front and the rest.
use Rattle.std.specs.Prelude.{◌≡◌, ◌==◌, ◌||◌, not, ⊤, ℕ, ℤ, Bool, false, List, [], ◌∷◌, ◌++◌, if◌then◌else◌}
use Rattle.std.specs.Char.{is_digit}
use Rattle.std.specs.Str.Parse.{IsNumeral}
use Rattle.unicode_ident.specs.Ident.{is_xid_continue}
use Rattle.snap_content.specs.Front.{begins}
use Rattle.snap_select.specs.Grammar.{IsName, begins_name, signed_value}

-- what is left after the characters that pass
abbrev pub past : (ℕ → Bool) → List ℕ → List ℕ
past passes [] = []
past passes (c ∷ cs) = if passes c then past passes cs else c ∷ cs

-- the characters that pass
abbrev pub front : (ℕ → Bool) → List ℕ → List ℕ
front passes [] = []
front passes (c ∷ cs) = if passes c then c ∷ front passes cs else []

abbrev pub is_decimal : ℕ → Bool
is_decimal c = is_digit c 10

-- no quote and no backslash
abbrev pub is_plain : ℕ → Bool
is_plain c = not (c == 34 || c == 92)

-- the text doesn't begin with a character that passes
abbrev pub Fails : (ℕ → Bool) → List ℕ → Type 0
Fails passes [] = ⊤
Fails passes (c ∷ cs) = passes c ≡ false

-- a name, as long as it can be, and the rest
pub record IsNameThen (text name rest : List ℕ) : Type 0 where
  pub is : text ≡ name ++ rest
  pub named : IsName name
  pub ends : Fails is_xid_continue rest

-- a name or a star is at the front
abbrev pub goes_on_dot : List ℕ → Bool
goes_on_dot [] = false
goes_on_dot (c ∷ cs) = begins_name c || c == 42

-- a dot or a bracket is at the front
abbrev pub begins_segment : List ℕ → Bool
begins_segment [] = false
begins_segment (c ∷ cs) = c == 46 || c == 91

-- without a minus at the front
abbrev pub unsigned : List ℕ → List ℕ
unsigned [] = []
unsigned (c ∷ cs) = if c == 45 then cs else c ∷ cs

-- a minus and digits, or digits alone
abbrev pub IsNumber : List ℕ → Type 0
IsNumber text = IsNumeral 10 (unsigned text)

abbrev pub number_value : List ℕ → ℤ
number_value text = signed_value (begins 45 text) (unsigned text)

-- a number, as long as it can be, and the rest
pub record IsNumberThen (text number rest : List ℕ) : Type 0 where
  pub is : text ≡ number ++ rest
  pub numeral : IsNumber number
  pub ends : Fails is_decimal rest
