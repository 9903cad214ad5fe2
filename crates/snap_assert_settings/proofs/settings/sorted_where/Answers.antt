use Rattle.snap_assert_settings.proofs.Prelude.{ap, sym, ◌∙◌, tree, sorted_where}
use Rattle.snap_select.proofs.SortedTrees.{tree_is}
use Rattle.snap_assert_settings.proofs.settings.sorted_where.Goals as goal

pub returns-in-Ok : goal.returns-in-Ok
returns-in-Ok c =
    tree_is (tree c.args.content) (tree c.sort_maps.new.self) c.in-Ok.ensures.ok
    ∙ sym (ap (λ b. sorted_where b (tree c.args.content)) c.if-not-is_set.false)
