-- Texts of files agree by their older forms.
use Rattle.snap_text.proofs.Prelude.{◌≡◌, ◌⊎◌, inl, inr, ℕ, List, ap, normal_as, legacy_as, File, Inline, TextSnapshotKind}
use Rattle.snap_text.specs.Legacy.{without_breaks, without_fence}

pub files_older : (k l : TextSnapshotKind) (a b : List ℕ) → k ≡ File → l ≡ File → normal_as k a ≡ normal_as l b ⊎ legacy_as k a ≡ legacy_as l b → legacy_as k a ≡ legacy_as l b
files_older File File a b h i (inl e) = ap (λ n. without_fence (without_breaks n)) e
files_older File File a b h i (inr e) = e
files_older Inline l a b h i e = absurd (cc)
files_older File Inline a b h i e = absurd (cc)
