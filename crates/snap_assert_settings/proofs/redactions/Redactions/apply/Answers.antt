use Rattle.snap_assert_settings.proofs.Prelude.{tree}
use Rattle.snap_assert_settings.proofs.RedactionLists.{one_more}
use Rattle.snap_assert_settings.proofs.redactions.Redactions.apply.Goals as goal

pub loop-selector-preserved : goal.loop-selector-preserved
loop-selector-preserved g c =
    one_more (λ v p. (goal.Redactor-dyn g (v, p)).allows p) c.as_slice-selector-items.result.now c.loop-selector.selector-index c.loop-selector-item.result (tree c.args.content)
    (tree c.loop-selector.made) (tree c.in_ok-made.made) c.loop-selector-test.true c.loop-selector-item.is c.loop-selector.invariant c.in_ok-made.ensures.parts
