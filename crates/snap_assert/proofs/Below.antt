-- What the crates below prove of printed texts and of files.
use Rattle.snap_assert.proofs.Prelude.{◌≡◌, ℕ, Bool, true, false, List, [], ◌∷◌, ◌++◌, refl, ap, subst, codes, append_assoc, Plain, Blocks, off, blocks_if, is_trimmed, text_of, document_of, IsWithin, normal, unreturned, FallsInto, file_of}
use Rattle.snap_print.proofs.Rows.{printed-rows}
use Rattle.snap_text.proofs.Trimming.{trimmed-push}
use Rattle.snap_store.proofs.Splitting.{file-split}

-- where literal blocks are asked for, and where they are not, a whole text keeps no white space at its end
pub trimmed-if : (literal : Bool) → is_trimmed (blocks_if literal) ≡ true
trimmed-if true = refl
trimmed-if false = refl

-- a file of a header and a tree is split into both
pub splits-file_of : (d : Plain) (w : Blocks) (p : Plain) → IsWithin d → IsWithin p → FallsInto (file_of d w p) (document_of off d) (text_of w p)
splits-file_of d w p h k =
    let P : List ℕ → Type 0 = λ t. FallsInto t (document_of off d) (text_of w p) in
    subst P (append_assoc (document_of off d) (codes "---\n") (text_of w p)) (file-split off w d p (printed-rows off d h) (printed-rows w p k))

-- a line's end after a text is no part of its normal form
pub normal-ended : (text : List ℕ) → normal (text ++ 10 ∷ []) ≡ normal text
normal-ended text = ap unreturned (trimmed-push text 10 refl)
