use Rattle.snap_store.proofs.Prelude.{refl}
use Rattle.snap_store.proofs.Headers.{in_front-named}
use Rattle.snap_store.proofs.header.push_field.Goals as goal

pub returns-in_ok-push-in-Ok : goal.returns-in_ok-push-in-Ok
returns-in_ok-push-in-Ok c = λ rest. in_front-named _ _ _ _ _ _ rest c.in_ok-push-in-Ok.ensures.ok refl c.in-Ok.ensures
