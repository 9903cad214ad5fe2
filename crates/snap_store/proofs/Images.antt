-- A saved snapshot is the file of its header and its tree.
use Rattle.snap_store.proofs.Prelude.{◌≡◌, true, ℕ, List, [], ◌∷◌, ◌++◌, ap, ◌∙◌, codes, Plain, Blocks, document_of, text_of, IsWithin, file_of, saved_text, Meta, header_tree, without_line}
use Rattle.snap_print.specs.Blocks.{off}
use Rattle.snap_print.specs.Printed.{is_trimmed}
use Rattle.snap_text.specs.Normal.{normal}
use Rattle.snap_text.proofs.NormalForms.{normal-printed}

-- a text that agrees with a printed tree is saved as the file of that tree
pub saving_agreeing : (meta : Meta) (raw : List ℕ) (w : Blocks) (p : Plain) → is_trimmed w ≡ true → IsWithin p → normal raw ≡ normal (text_of w p)
    → saved_text meta raw ≡ file_of (header_tree (without_line meta)) w p
saving_agreeing meta raw w p t h agrees =
    ap (λ x. document_of off (header_tree (without_line meta)) ++ (codes "---\n" ++ x)) (ap (λ x. x ++ 10 ∷ []) agrees ∙ normal-printed w p t h)
