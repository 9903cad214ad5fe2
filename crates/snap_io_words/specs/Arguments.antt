-- The words of the command line.
use Rattle.std.specs.Prelude.{ℕ, List, [], ◌∷◌, Option, None, Some, Result, Ok, Err, map, take, String, string_bytes, option_map}
use Rattle.std.specs.Str.{chars}
use Rattle.std.specs.Vec.Iter.{into_iter_items, into_iter_len}
use Rattle.std.specs.declared.vec.IntoIter.{IntoIter}

-- each argument that is still to come, as its characters
abbrev pub arguments_in : {A : Type 0} → IntoIter (String A) A → List (List ℕ)
arguments_in arguments = map (λ argument. chars (string_bytes argument)) (take (into_iter_len arguments) (into_iter_items arguments))

-- the arguments, where all of them are texts
abbrev pub arguments_of : {A E : Type 0} → Result (IntoIter (String A) A) E → Option (List (List ℕ))
arguments_of (Ok arguments) = Some (arguments_in arguments)
arguments_of (Err error) = None

-- all but the first argument, which is the program's name
abbrev pub words_after_name : List (List ℕ) → List (List ℕ)
words_after_name [] = []
words_after_name (name ∷ words) = words

-- the words are the arguments after the program's name, where all arguments are texts
abbrev pub words_given : Option (List (List ℕ)) → Option (List (List ℕ))
words_given arguments = option_map words_after_name arguments

-- the texts of some words need memory; and so may the arguments themselves, where they are not given
abbrev pub NeedsMemory : Option (List (List ℕ)) → Type 0
NeedsMemory None = Unit {0}
NeedsMemory (Some []) = ⊥
NeedsMemory (Some (name ∷ [])) = ⊥
NeedsMemory (Some (name ∷ word ∷ words)) = Unit {0}
