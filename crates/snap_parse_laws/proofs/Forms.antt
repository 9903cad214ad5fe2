-- What follows a tree, and how an entry opens.
use Rattle.snap_parse_laws.proofs.Prelude.{◌≡◌, ℕ, List, ◌∷◌, [], true, false, refl, Some, None, Option, TokenType, State, kept, is_deeper, Brackets, square, curly, open_sign, Steps, none_more, one_more, closing}
use Rattle.snap_scan_tokens.specs.declared.token.TokenType.TheVariants as k
use Rattle.snap_parse_laws.proofs.Skips.{stops_at}

pub steps-append : (s t u : State) → Steps s t → Steps t u → Steps s u
steps-append _ _ u (none_more s) b = b
steps-append _ _ u (one_more s v t e f a) b = one_more s v u e f (steps-append v t u a b)

-- what follows a printed tree: a line at a column, or the end
pub data Follows : Option ℕ → ℕ → List ℕ → Type 0 where
  at_column : (n : ℕ) (cs : List ℕ) → Follows (Some n) n cs
  at_end : Follows None 0 []

pub begins-hollow : (q : Brackets) → stops_at (open_sign q) ≡ false
begins-hollow square = refl
begins-hollow curly = refl

-- how an entry at column j opens: a mapping begins, or inner blocks end
pub data Opens : ℕ → List ℕ → List ℕ → List TokenType → Type 0 where
  new_block : (j : ℕ) (os : List ℕ) → is_deeper j os ≡ true → Opens j os os (k.BlockMappingStart ∷ [])
  same_block : (j : ℕ) (columns os : List ℕ) → kept (Some j) columns ≡ j ∷ os → Opens j columns os (closing (Some j) columns)
