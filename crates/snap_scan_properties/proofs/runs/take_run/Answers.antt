use Rattle.snap_scan_properties.proofs.Prelude.{◌++◌, ◌∙◌, ℕ, List, Bool, refl, sym, ap, take_while, is_of, Place}
use Rattle.snap_scan_properties.proofs.Taken.{run-split}
use Rattle.snap_scan_properties.proofs.runs.take_run.Goals as goal

pub returns-clause-text : goal.returns-clause-text
returns-clause-text c =
    let p : Place = c.args.cursor.now in
    let f : ℕ → Bool = is_of c.args.kind in
    let run : List ℕ = take_while f p.left in
    let behind : Place → List ℕ = λ q. run ++ q.left in
    let join : List ℕ → List ℕ = λ l. run ++ l in
    c.before_rest.ensures run
    (c.rest-start.ensures ∙ run-split f p.left p refl ∙ ap behind (sym c.skip_while.ensures.value) ∙ ap join (sym c.rest.ensures))
