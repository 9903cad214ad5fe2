-- The texts of a tree: the one that is printed, and each one that spells it in the free layout.
use Rattle.std.specs.Prelude.{◌≡◌, ◌⊎◌, ℕ, List, Bool, false}
use Rattle.snap_content.specs.Plain.{Plain}
use Rattle.snap_print.specs.Readable.{IsWithin}
use Rattle.snap_print.specs.Blocks.{Blocks}
use Rattle.snap_print.specs.Lines.{document_of}
use Rattle.snap_parse_laws.specs.FreeLayouts.{IsFree}
use Rattle.snap_parse_laws.specs.Layouts.{Document}
use Rattle.snap_parse_laws.specs.LayoutTexts.{document_text}
use Rattle.snap_emit.specs.LayoutTrees.{layout_plain, layout_keeps}

-- some free layout has the text and the tree; a number may stand bare in it that is kept as its text
pub record SpellsHeader (text : List ℕ) (plain : Plain) : Type 0 where
  pub layout : Document
  pub free : IsFree layout
  pub text_is : text ≡ document_text layout
  pub tree_is : layout_plain layout.tree ≡ plain

-- the same, and no such number stands in it
pub record Spells (text : List ℕ) (plain : Plain) : Type 0 where
  pub header : SpellsHeader text plain
  pub no_number : layout_keeps header.layout.tree ≡ false

-- the text is printed of the tree, with literal blocks or without
pub record IsPrintedOf (text : List ℕ) (plain : Plain) : Type 0 where
  pub blocks : Blocks
  pub text_is : text ≡ document_of blocks plain

-- the text is printed of the tree, or spells it
abbrev pub IsTextOf : List ℕ → Plain → Type 0
IsTextOf text t = IsPrintedOf text t ⊎ Spells text t

-- the text is printed of the tree, or spells it as a header
abbrev pub IsHeaderOf : List ℕ → Plain → Type 0
IsHeaderOf text t = IsPrintedOf text t ⊎ SpellsHeader text t

-- a number is kept as a text in no printed header, and in one that a hand wrote exactly where one stands bare
pub record KeepsNumber (text : List ℕ) (kept : Bool) : Type 0 where
  pub printed : (t : Plain) → IsWithin t → IsPrintedOf text t → kept ≡ false
  pub laid : (d : Document) → IsFree d → text ≡ document_text d → kept ≡ layout_keeps d.tree
