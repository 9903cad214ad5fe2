use Rattle.snap_assert.proofs.Prelude.{chars}
use Rattle.snap_assert.proofs.StrayPaths.{no_longer, not_behind, not_new, behind_new}
use Rattle.snap_assert.proofs.strays.is_stray.Goals as goal

pub returns-then-name-file : goal.returns-then-name-file
returns-then-name-file c = no_longer c.args.file.now c.args.name.now c.utf8.file c.utf8.name c.if-name-file.true

pub returns-in-None : goal.returns-in-None
returns-in-None c = not_behind (chars c.args.file.now) (chars c.args.name.now) c.in-None.ensures

pub returns-in-None-behind_ascii : goal.returns-in-None-behind_ascii
returns-in-None-behind_ascii c = not_new (chars c.args.file.now) (chars c.args.name.now) _ c.in-Some.ensures c.in-None-behind_ascii.ensures

pub returns-in-Some-behind_ascii : goal.returns-in-Some-behind_ascii
returns-in-Some-behind_ascii c =
    behind_new (chars c.args.file.now) (chars c.args.name.now) _ _ _ c.in-Some.ensures c.in-Some-behind_ascii.ensures c.holds_slash.ensures
