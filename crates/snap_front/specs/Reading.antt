-- What a text of YAML reads as.
use Rattle.std.specs.Prelude.{◌≡◌, ℕ, List, Option, None, Some}
use Rattle.snap_content.specs.Plain.{Plain, content_of}
use Rattle.snap_content.specs.View.{tree}
use Rattle.snap_content.specs.declared.content.Content.{Content}
use Rattle.snap_print.specs.Readable.{IsWithin}
use Rattle.snap_emit.specs.Spelled.{IsTextOf}

-- the text is printed of this tree or spells it in the free layout, and its numbers have 128 bits
pub record ReadsAs (text : List ℕ) (p : Plain) : Type 0 where
  pub within : IsWithin p
  pub is : IsTextOf text p

-- the text may be taken for this tree: where it reads as one, it is that one
pub record MayReadAs (text : List ℕ) (p : Plain) : Type 0 where
  pub within : IsWithin p
  pub one : (t : Plain) → ReadsAs text t → t ≡ p

-- the text reads as no tree
abbrev pub ReadsAsNone : List ℕ → Type 0
ReadsAsNone text = (t : Plain) → ReadsAs text t → ⊥

-- what was read of the text is a tree that it may be taken for; where nothing was, it reads as none
abbrev pub IsReadOf : List ℕ → Option Content → Type 0
IsReadOf text (Some made) = (p : Plain) × (tree made ≡ content_of p) × MayReadAs text p
IsReadOf text None = ReadsAsNone text
