-- How an input is cut into documents.
use Rattle.std.specs.Prelude.{◌==◌, ◌&&◌, ◌||◌, ℕ, Bool, true, false, List, [], ◌∷◌, if◌then◌else◌}
use Rattle.snap_str.specs.Lines.{onto}

-- the line ends here
abbrev pub ends_line : List ℕ → Bool
ends_line [] = true
ends_line (b ∷ bs) = b == 10

abbrev pub ends_returned : List ℕ → Bool
ends_returned [] = false
ends_returned (b ∷ bs) = b == 13 && ends_line bs

-- the first line is three dashes, alone or with a return
abbrev pub begins_document : List ℕ → Bool
begins_document [] = false
begins_document (a ∷ []) = false
begins_document (a ∷ b ∷ []) = false
begins_document (a ∷ b ∷ c ∷ bs) = (a == 45 && b == 45 && c == 45) && (ends_line bs || ends_returned bs)

-- the input, cut before each line that is a `---`
abbrev pub documents : List ℕ → List (List ℕ)
documents [] = []
documents (b ∷ bs) = if b == 10 && begins_document bs then (b ∷ []) ∷ documents bs else onto b (documents bs)
