-- What holds of a result's value, and what is allowed of equal values.
use Rattle.snap_select.proofs.Prelude.{◌≡◌, List, Result, Ok, Err, IfOk, subst, Step, Allowed}
use Rattle.snap_content.specs.Tree.{Tree}

pub if_ok : {X Y : Type 0} (r : Result X Y) (P : Result X Y → Type 0) (Q : X → Type 0) → ((x : X) → P (Ok x) → Q x) → P r → IfOk r Q
if_ok (Ok x) P Q f p = f x p
if_ok (Err e) P Q f p = tt

pub moved : (allows : Allowed) (c d : Tree) (steps path : List Step) (new out : Tree) → c ≡ d → steps ≡ path → new ≡ out → allows c steps new → allows d path out
moved allows c d steps path new out e f h p = subst (λ x. allows x path out) e (subst (λ x. allows c x out) f (subst (λ x. allows c steps x) h p))
