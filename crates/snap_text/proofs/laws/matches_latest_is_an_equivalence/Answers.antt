use Rattle.snap_text.proofs.Prelude.{refl, sym, ◌∙◌}
use Rattle.snap_text.proofs.laws.matches_latest_is_an_equivalence.Goals as goal

pub returns : goal.returns
returns c = record { reflexive = λ a. refl; symmetric = λ a b h. sym h; transitive = λ a b third h k. h ∙ k }
