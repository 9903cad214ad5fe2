use Rattle.snap_store.proofs.Prelude.{◌≡◌, ◌∙◌, refl, ap, subst, ℕ, List, Some, pending_path, meta_in, contents_in}
use Rattle.std.proofs.lemmas.Result.{err_from_is_err_and}
use Rattle.snap_io.specs.Changes.{all_changed}
use Rattle.snap_io.specs.StandsAfter.{StandsAfter}
use Rattle.snap_io.proofs.Standing.{nothing_begun}
use Rattle.snap_store.specs.Causes.{named_by}
use Rattle.snap_store.specs.Saving.{saving}
use Rattle.snap_store.proofs.Saved.{lined_image}
use Rattle.snap_store.proofs.snapshot.Snapshot.save_new.Goals as goal

pub returns-in_err-pending-clause-stopped : goal.returns-in_err-pending-clause-stopped
returns-in_err-pending-clause-stopped g c =
    let told = err_from_is_err_and c.from_residual.result c.from_residual.ensures.1 in
    rw (told.1, told.2) (nothing_begun (saving (pending_path c.args.path.now) (meta_in c.args.self.now) (contents_in c.args.self.now)) _ _ refl)

pub returns-in_err-text-clause-stopped : goal.returns-in_err-text-clause-stopped
returns-in_err-text-clause-stopped g c =
    let told = err_from_is_err_and c.from_residual-in_err-text.result c.from_residual-in_err-text.ensures.1 in
    rw (told.1, told.2) (nothing_begun (saving (pending_path c.args.path.now) (meta_in c.args.self.now) (contents_in c.args.self.now)) _ _ refl)

pub returns-in_err-write_files-clause-stopped : goal.returns-in_err-write_files-clause-stopped
returns-in_err-write_files-clause-stopped g c =
    let told = err_from_is_err_and c.from_residual-in_err-write_files.result c.from_residual-in_err-write_files.ensures.1 in
    let meta = meta_in c.args.self.now in
    let held = contents_in c.args.self.now in
    let made = lined_image c.in_ok-text.text c.assertion_line.result meta held c.in_ok-text.ensures (c.assertion_line.ensures ∙ ap (λ x. x.assertion_line) c.metadata.ensures) in
    let P : List ℕ → Type 0 = λ p. StandsAfter (saving p meta held) (named_by c.in_err-write_files.field-0.0) (g.S.Store.files c.args.store.now) (g.S.Store.files c.write_files.new.store) in
    rw (told.1, told.2) (subst P c.in_ok-pending.ensures (c.in_err-write_files.ensures.stopped meta refl made))

pub returns-clause-written : goal.returns-clause-written
returns-clause-written g c = λ m told.
    let meta = meta_in c.args.self.now in
    let held = contents_in c.args.self.now in
    let made = lined_image c.in_ok-text.text c.assertion_line.result meta held c.in_ok-text.ensures (c.assertion_line.ensures ∙ ap (λ x. x.assertion_line) c.metadata.ensures) in
    let P : List ℕ → Type 0 = λ p. g.S.Store.files c.write_files.new.store ≡ Some (all_changed (saving p meta held) m) in
    subst P c.in_ok-pending.ensures (c.in_ok-write_files.ensures.written meta refl made m told)
