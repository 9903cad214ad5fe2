use Rattle.snap_assert_place.proofs.Prelude.{sym, ◌∙◌, chars, not_true}
use Rattle.snap_assert_place.proofs.BelowPaths.{name}
use Rattle.snap_assert_place.proofs.below.is_name.Goals as goal

pub returns-then-is_component : goal.returns-then-is_component
returns-then-is_component c = λ free.
    name (chars c.args.text.now) (sym c.is_component.ensures ∙ c.if-is_component.true) (sym c.holds_slash.ensures ∙ not_true c.holds_slash.result free)
