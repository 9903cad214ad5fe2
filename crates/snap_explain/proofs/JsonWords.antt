-- A line on a request that passes, as it is written in JSON.
use Rattle.snap_explain.proofs.Prelude.{◌≡◌, ℕ, List, Option, Some, None, Result, subst, chars}
use Rattle.std.specs.Prelude.{IfOk}
use Rattle.snap_explain.specs.Json.{finding_line, finding_tree}
use Rattle.snap_explain.specs.declared.position.Place.{Place}

-- its path and its words are these
pub word_written : {T E : Type 0} → (bytes : T → List ℕ) (result : Result T E) (number : ℕ) (place : Place) (word : List ℕ) (path : Option (List ℕ)) (file said text : List ℕ) → path ≡ Some file → said ≡ text
    → IfOk result (λ line. bytes line ≡ finding_line (finding_tree number place word None None path (chars said)))
    → IfOk result (λ line. bytes line ≡ finding_line (finding_tree number place word None None (Some file) (chars text)))
word_written bytes result number place word path file said text is same h =
    subst (λ t. IfOk result (λ line. bytes line ≡ finding_line (finding_tree number place word None None (Some file) (chars t)))) same
    (subst (λ p. IfOk result (λ line. bytes line ≡ finding_line (finding_tree number place word None None p (chars said)))) is h)
