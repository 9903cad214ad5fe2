-- The grammar of string literals: which text a source reads as. It knows nothing of how literals are written.
use Rattle.std.specs.Prelude.{◌≡◌, ℕ, List, [], ◌∷◌, ◌++◌, ◌⊎◌, false, Some}
use Rattle.std.specs.List.{list_any}
use Rattle.snap_text_literals.specs.Units.{unit_of}
use Rattle.snap_text_literals.specs.Hashes.{hashes, has_end}
use Rattle.snap_text_literals.specs.Lines.{is_return}

-- from after the first quote: units, and the last quote
pub data Inside : List ℕ → List ℕ → Type 0 where
  ends : {source text : List ℕ} → source ≡ 34 ∷ [] → text ≡ [] → Inside source text
  goes_on : {source text : List ℕ} (given rest more : List ℕ) → unit_of source ≡ Some (given, rest) → text ≡ given ++ more → Inside rest more → Inside source text

-- from after the first quote of a raw literal with so many `#`: the text as it stands, the last quote, the `#`
pub record IsBody (count : ℕ) (body text : List ℕ) : Type 0 where
  pub is : body ≡ text ++ 34 ∷ hashes count
  pub no_return : list_any is_return text ≡ false
  pub no_end : has_end count text ≡ false

pub record IsQuoted (source text : List ℕ) : Type 0 where
  pub behind : List ℕ
  pub is : source ≡ 34 ∷ behind
  pub inside : Inside behind text

pub record IsRaw (source text : List ℕ) : Type 0 where
  pub count : ℕ
  pub body : List ℕ
  pub is : source ≡ 114 ∷ (hashes count ++ 34 ∷ body)
  pub spelled : IsBody count body text

-- a source is a literal of this text: quoted with escapes, or raw
abbrev pub literal_reads : List ℕ → List ℕ → Type 0
literal_reads source text = IsQuoted source text ⊎ IsRaw source text
