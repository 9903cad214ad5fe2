use Rattle.snap_path.proofs.Prelude.{chars, apart, components}
use Rattle.snap_path.proofs.Parts.{seen-apart}
use Rattle.snap_path.proofs.paths.seen_from.Goals as goal

pub returns : goal.returns
returns c =
    seen-apart c.push_components.new.path c.push_steps.new.path _ c.in_ok-is_behind.is_behind (apart (components (chars c.args.path.now)) (components (chars c.args.base.now))) _ _
    c.apart.ensures.path c.apart.ensures.base c.empty-seen.ensures c.in_ok-is_behind.ensures.path c.in_ok-is_behind.ensures.behind c.in_ok-push_components.ensures.path
