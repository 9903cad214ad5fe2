use Rattle.snap_select.proofs.Prelude.{refl}
use Rattle.snap_select.proofs.Answered.{if_ok}
use Rattle.snap_select.proofs.put.AnyPut.put.Goals as goal

pub returns : goal.returns
returns g c =
    if_ok c.self.result (λ r. g.F.Fn.post c.args.self.now (c.args.alloc, (c.args.value, (c.args.path, tt))) r) _
    (λ out p. (c.args.alloc, c.args.value, c.args.path, out, refl, refl, refl, p)) c.self.ensures
