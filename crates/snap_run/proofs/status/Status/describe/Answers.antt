use Rattle.snap_run.proofs.Prelude.{◌≡◌, ◌++◌, List, ℕ, ap, ◌∙◌, append_assoc, codes}
use Rattle.std.specs.Fmt.{decimal}
use Rattle.snap_run.proofs.status.Status.describe.Goals as goal

regrouped : (head digits middle end first second third : List ℕ) → first ≡ head ++ digits → second ≡ first ++ middle → third ≡ second ++ end
    → third ≡ head ++ (digits ++ (middle ++ end))
regrouped head digits middle end first second third e f g =
    g ∙ ap (λ t. t ++ end) f ∙ ap (λ t. (t ++ middle) ++ end) e ∙ simp append_assoc

pub returns-in_ok-push_text-in-FileIo : goal.returns-in_ok-push_text-in-FileIo
returns-in_ok-push_text-in-FileIo c =
    rw c.in-FileIo.is (regrouped (codes "snap: document ") (decimal c.in-FileIo.document) (codes ": file fault at ") c.in-FileIo.path _ _ _ c.in_ok-text-in-FileIo.ensures c.in_ok-push_ascii-in-FileIo.ensures.ok c.in_ok-push_text-in-FileIo.ensures.ok)
