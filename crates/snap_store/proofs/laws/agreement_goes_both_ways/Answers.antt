use Rattle.snap_store.proofs.Agreeing.{Agree-refl, Agree-sym}
use Rattle.snap_store.proofs.laws.agreement_goes_both_ways.Goals as goal

pub returns : goal.returns
returns c = record { reflexive = Agree-refl; symmetric = Agree-sym }
