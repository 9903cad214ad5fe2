use Rattle.std.proofs.lemmas.Result.{err_from_is_err_and}
use Rattle.snap_assert.proofs.Covering.{covers_cleared}
use Rattle.snap_assert.proofs.Halting.{all_removed}
use Rattle.snap_assert.proofs.removal.clear.Goals as goal

pub returns-clause-covered : goal.returns-clause-covered
returns-clause-covered g c = λ asked prepared m told covered.
    covers_cleared asked.path _ _ m c.args.strays.now _ _ _ _ _ _ _ _ prepared.path prepared.pending covered c.forget.ensures.folders c.forget.ensures.still
    c.in_ok-keep_path.ensures.folders c.in_ok-keep_path.ensures.still c.in_ok-keep_path.ensures.waits
    c.in_ok-keep_path-2.ensures.folders c.in_ok-keep_path-2.ensures.still c.in_ok-keep_path-2.ensures.waits

pub returns-in_err-remove_files-clause-named : goal.returns-in_err-remove_files-clause-named
returns-in_err-remove_files-clause-named g c =
    let told = err_from_is_err_and c.from_residual.result c.from_residual.ensures.1 in
    rw (told.1, told.2) c.in_err-remove_files.ensures.named

pub returns-in_err-remove_files-clause-halted : goal.returns-in_err-remove_files-clause-halted
returns-in_err-remove_files-clause-halted g c =
    let told = err_from_is_err_and c.from_residual.result c.from_residual.ensures.1 in
    rw (told.1, told.2) c.in_err-remove_files.ensures.halted

pub returns-in_err-keep_path-clause-halted : goal.returns-in_err-keep_path-clause-halted
returns-in_err-keep_path-clause-halted g c =
    let told = err_from_is_err_and c.from_residual-in_err-keep_path.result c.from_residual-in_err-keep_path.ensures.1 in
    rw (told.1, told.2) (all_removed c.args.strays.now _ _ c.in_ok-remove_files.ensures.ok)

pub returns-in_err-keep_path-2-clause-halted : goal.returns-in_err-keep_path-2-clause-halted
returns-in_err-keep_path-2-clause-halted g c =
    let told = err_from_is_err_and c.from_residual-in_err-keep_path-2.result c.from_residual-in_err-keep_path-2.ensures.1 in
    rw (told.1, told.2) (all_removed c.args.strays.now _ _ c.in_ok-remove_files.ensures.ok)
