use Rattle.snap_path.proofs.Prelude.{sym, ◌∙◌, chars, components}
use Rattle.snap_path.proofs.Parts.{apart-common, apart-both}
use Rattle.snap_path.proofs.paths.behind_common.Goals as goal

pub returns-then-is_same-clause-left : goal.returns-then-is_same-clause-left
returns-then-is_same-clause-left c =
    apart-common (components (chars c.args.path.now)) (components (chars c.args.base.now)) (components (chars c.in_ok-part.path_rest.now)) (components (chars c.in_ok-same.base_rest.now))
    (chars c.in_ok-part.part.now) (chars c.in_ok-same.same.now) c.in_ok-part.ensures.component c.in_ok-same.ensures.component (sym c.is_same.ensures ∙ c.if-is_same.true)

pub returns-else-is_same-clause-left : goal.returns-else-is_same-clause-left
returns-else-is_same-clause-left c =
    apart-both (components (chars c.args.path.now)) (components (chars c.args.base.now)) (components (chars c.in_ok-part.path_rest.now)) (components (chars c.in_ok-same.base_rest.now))
    (chars c.in_ok-part.part.now) (chars c.in_ok-same.same.now) c.in_ok-part.ensures.component c.in_ok-same.ensures.component (sym c.is_same.ensures ∙ c.if-is_same.false)
