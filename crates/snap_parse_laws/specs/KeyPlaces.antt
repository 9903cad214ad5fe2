-- Which held token a possible key names, and where Key is put among them.
use Rattle.std.specs.Prelude.{◌≡◌, ◌⊎◌, List, [], ◌∷◌, ◌++◌, length}
use Rattle.snap_scan_tokens.specs.Mark.{Mark}
use Rattle.snap_scan_tokens.specs.declared.token.Token.{Token}
use Rattle.snap_scan_tokens.specs.declared.token.TokenType.TheVariants as t
use Rattle.snap_scan.specs.State.{at}
use Rattle.snap_scan.specs.declared.keys.SimpleKey.{SimpleKey}

-- the key names the token that was put last, which stands at its mark
pub record NamesLast (key : SimpleKey) (held : List Token) : Type 0 where
  pub before : List Token
  pub token : Token
  pub split : held ≡ before ++ token ∷ []
  pub place : key.place ≡ length before
  pub mark : key.mark ≡ token.0

-- nothing, or the start of a dict in blocks
abbrev pub MayStart : List Token → Type 0
MayStart tokens = (tokens ≡ []) ⊎ ((mark : Mark) × (tokens ≡ at mark t.BlockMappingStart ∷ []))

-- Key stands right before the token, at the key's mark, where before it were these
pub record StandsBefore (key : SimpleKey) (before : List Token) (token : Token) (held : List Token) : Type 0 where
  pub starts : List Token
  pub may : MayStart starts
  pub rest : List Token
  pub split : held ≡ before ++ (starts ++ at key.mark t.Key ∷ token ∷ rest)
