-- What a read takes of the bytes that are left, and what is written of bytes.
use Rattle.std.specs.Prelude.{◌≡◌, ◌≤◌, ℕ, List, ◌++◌, length, take, Option, Some}

-- a source gave these bytes, the front of what was left, and has the rest
pub record GivesFront (all front : List ℕ) (left : Option (List ℕ)) : Type 0 where
  pub rest : List ℕ
  pub told : left ≡ Some rest
  pub whole : all ≡ front ++ rest

-- w and a part of the front of the bytes is written
pub record HoldsFront (bytes w : List ℕ) (now : Option (List ℕ)) : Type 0 where
  pub count : ℕ
  pub within : count ≤ length bytes
  pub written : now ≡ Some (w ++ take count bytes)
