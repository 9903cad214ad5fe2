-- A store that has not changed holds what it held at every other path.
use Rattle.snap_io.proofs.Prelude.{◌≡◌, ℕ, List, Some, refl, ap, ◌∙◌, get, Files, SameBut}

pub same_files : (m f : Files) → Some f ≡ Some m → f ≡ m
same_files m f e = cc

pub same_but : (path : List ℕ) (m f n : Files) → n ≡ f → Some f ≡ Some m → SameBut path m (Some n)
same_but path m f n kept e = record { files = n; told = refl; others = λ q other. ap (λ h. get h q) (kept ∙ same_files m f e) }
