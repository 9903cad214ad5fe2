-- What a headed file is split into.
use Rattle.std.specs.Prelude.{◌≡◌, ℕ, List, true}
use Rattle.snap_store.specs.FileSplit.{is_headed, header_of, headed_body}
use Rattle.snap_store.specs.declared.split.Headed.{Headed}

-- a file falls into this header and this body
pub record IsSplit (headed : Headed) (text : List ℕ) : Type 0 where
  pub headed_is : is_headed text ≡ true
  pub header_is : headed.header ≡ header_of text
  pub body_is : headed.body ≡ headed_body text
