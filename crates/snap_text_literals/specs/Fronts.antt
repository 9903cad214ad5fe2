-- Texts that begin with a literal.
use Rattle.std.specs.Prelude.{◌≡◌, ℕ, List, ◌++◌, length, encode_utf8_all}
use Rattle.snap_text_literals.specs.Literal.{literal_reads}

-- the source begins with a front that reads as some text, and the rest stands behind that
pub record IsBehind (Reads : List ℕ → List ℕ → Type 0) (source rest : List ℕ) : Type 0 where
  pub front : List ℕ
  pub text : List ℕ
  pub is : source ≡ front ++ rest
  pub reads : Reads front text

-- the source begins with no such front
abbrev pub BeginsWithNone : (List ℕ → List ℕ → Type 0) → List ℕ → Type 0
BeginsWithNone Reads source = (rest : List ℕ) → IsBehind Reads source rest → ⊥

-- the source begins with a literal of so many bytes
pub record HasLiteral (source : List ℕ) (bytes : ℕ) : Type 0 where
  pub rest : List ℕ
  pub behind : IsBehind literal_reads source rest
  pub size : length (encode_utf8_all behind.front) ≡ bytes
