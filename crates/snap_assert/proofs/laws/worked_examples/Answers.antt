use Rattle.snap_assert.proofs.Prelude.{true, [], ◌∷◌, Ok, ap, arith}
use Rattle.std.proofs.lemmas.Fmt.{decimal_digit}
use Rattle.snap_assert.specs.Names.{use_at}
use Rattle.snap_assert.proofs.laws.worked_examples.Goals as goal

pub returns-clause-again : goal.returns-clause-again
returns-clause-again c = λ place.
    ap (λ d. Ok (record { name = 97 ∷ 45 ∷ d; session = record { uses = ((109 ∷ [], 97 ∷ []), use_at true 2) ∷ []; blocks = []; literals = [] } })) (decimal_digit 2 (omega arith))
