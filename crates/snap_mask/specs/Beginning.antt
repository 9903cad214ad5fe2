-- What a JSON text begins with.
use Rattle.std.specs.Prelude.{◌==◌, ◌&&◌, nat_le, ℕ, Bool, true, false, List, [], ◌∷◌, Option, None, Some, if◌then◌else◌}
use Rattle.snap_content.specs.Tree as t
use Rattle.snap_mask.specs.declared.beginning.Beginning.{Beginning}
use Rattle.snap_mask.specs.declared.beginning.Beginning.TheVariants.{Object, List as ListBegins, Quoted, Number, True, False, Null}

-- whether a digit is in front
abbrev pub digit_in_front : List ℕ → Bool
digit_in_front [] = false
digit_in_front (c ∷ cs) = nat_le 48 c && nat_le c 57

-- a brace, a bracket or a quote; the first letter of `true`, `false` or `null`; a digit, or a minus before one
abbrev pub beginning_at : ℕ → List ℕ → Option Beginning
beginning_at c cs =
    if c == 123 then Some Object
    else if c == 91 then Some ListBegins
    else if c == 34 then Some Quoted
    else if c == 116 then Some True
    else if c == 102 then Some False
    else if c == 110 then Some Null
    else if digit_in_front (if c == 45 then cs else c ∷ cs) then Some Number
    else None

-- after the blanks in front; a tab is none
abbrev pub beginning_in : List ℕ → Option Beginning
beginning_in [] = None
beginning_in (c ∷ cs) = if c == 32 then beginning_in cs else beginning_at c cs

-- how the JSON text of a tree begins, where the tree is of a kind that a text is read as
abbrev pub beginning_of : t.Tree → Beginning
beginning_of (t.map pairs) = Object
beginning_of (t.seq items) = ListBegins
beginning_of (t.string s) = Quoted
beginning_of (t.bool true) = True
beginning_of (t.bool false) = False
beginning_of t.none = Null
beginning_of t.unit = Null
beginning_of other = Number
