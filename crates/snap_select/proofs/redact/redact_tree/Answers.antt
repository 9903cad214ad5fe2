use Rattle.snap_select.proofs.Prelude.{on_ok_weaker, tree, parts_of}
use Rattle.snap_select.proofs.RedactedLists.{from_root}
use Rattle.snap_select.proofs.redact.redact_tree.Goals as goal

pub returns : goal.returns
returns g c =
    on_ok_weaker c.redact_at.result
    (λ p. from_root (parts_of c.args.selector.now) (g.P.Put.puts c.args.put.now) _ (tree c.args.value.now) _ c.new-path.ensures.items p) c.redact_at.ensures.ok
