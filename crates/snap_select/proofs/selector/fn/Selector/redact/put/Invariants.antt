use Rattle.snap_select.proofs.Prelude.{IfOk, map, tree, step_of, Puts}
use Rattle.snap_select.proofs.selector.fn.Selector.redact.put.Given as goal

-- what `put` of a redaction ensures
abbrev pub ensures : goal.ensures
ensures g l r =
    IfOk r (λ out. Puts (λ v. (g.dyn-1.0.entry v).1.allows) l.redaction.entry.now (tree l.value) (map step_of l.path.entry.now) (tree out))
