-- The file at a path, where the files are told and where they aren't.
use Rattle.snap_store.proofs.Prelude.{◌≡◌, ℕ, List, Option, None, Some, ap, get, Files}

same_map : (f m : Files) → Some f ≡ Some m → f ≡ m
same_map f m e = cc

pub file_at : (path : List ℕ) (files : Option Files) → (file : Option (List ℕ)) × ((m : Files) → files ≡ Some m → file ≡ get m path)
file_at path None = (None, λ m e. cc)
file_at path (Some f) = (get f path, λ m e. ap (λ x. get x path) (same_map f m e))
