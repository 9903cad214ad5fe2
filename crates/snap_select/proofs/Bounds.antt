-- Bounds as numbers of the machine.
use Rattle.snap_select.proofs.Prelude.{w64, to_z, of_z, ◌≡◌, ℤ, ℕ, List, ◌∷◌, Some, sym, ap, ◌∙◌, is_blank, FitsBound, Parts, past, number_value, IsNumberThen, bracket, colon, inside, outcome, Segment}
use Rattle.snap_select.proofs.PieceFacts.{kept_bound}
use Rattle.snap_select.proofs.Readers.{colon_near, same_near}

-- after the colon of a number that is a bound
pub number_colon : (text num after later : List ℕ) (v : ℤ) → IsNumberThen text num after → past is_blank after ≡ 58 ∷ later → v ≡ number_value num → FitsBound v
    → (ps : Parts) (ss : List Segment) → outcome (inside ps ss bracket) text ≡ outcome (inside ps ss (colon (Some (to_z w64 (of_z w64 v))))) later
number_colon text num after later v h e is fits ps ss =
    colon_near text num after later h e (same_near v (number_value num) is fits) ps ss ∙ ap (λ x. outcome (inside ps ss (colon (Some x))) later) (sym (kept_bound v fits ∙ is))
