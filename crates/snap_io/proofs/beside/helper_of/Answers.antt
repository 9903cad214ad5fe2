use Rattle.snap_io.proofs.Prelude.{◌≡◌, IfOk, string_bytes, sym, ap, subst, ◌∙◌, arith, option_map}
use Rattle.snap_io.specs.Beside.{helper_beside}
use Rattle.snap_io.proofs.LastMark.{split_at_last}
use Rattle.snap_io.proofs.beside.helper_of.Goals as goal

pub returns-in-Some : goal.returns-in-Some
returns-in-Some g c =
    let split = split_at_last 47 c.args.path.now _ c.rsplit_once.ensures.cases (omega arith) in
    subst (λ b. IfOk c.hidden.result (λ h. string_bytes h ≡ b)) (ap (λ o. helper_beside (option_map (λ x. (x.0.now, x.1.now)) o) c.args.number) (sym c.in-Some.is) ∙ ap (λ o. helper_beside o c.args.number) split) c.hidden.ensures

pub returns-in-None : goal.returns-in-None
returns-in-None g c =
    let split = split_at_last 47 c.args.path.now _ c.rsplit_once.ensures.cases (omega arith) in
    subst (λ b. IfOk c.hidden-in-None.result (λ h. string_bytes h ≡ b)) (ap (λ o. helper_beside (option_map (λ x. (x.0.now, x.1.now)) o) c.args.number) (sym c.in-None.is) ∙ ap (λ o. helper_beside o c.args.number) split) c.hidden-in-None.ensures
