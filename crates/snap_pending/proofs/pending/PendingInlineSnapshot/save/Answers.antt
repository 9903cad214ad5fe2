use Rattle.std.proofs.Common.{IfErr}
use Rattle.std.proofs.lemmas.Result.{err_from_is_err_and}
use Rattle.snap_io.specs.StandsAfter.{StandsAfter}
use Rattle.snap_store.specs.Causes.{named_by}
use Rattle.snap_pending.specs.Saved.{adds}
use Rattle.snap_pending.proofs.LinesStand.{unprinted}
use Rattle.snap_pending.proofs.Prelude.{◌∙◌, ℕ, List, [], ◌∷◌, ap, subst, Some, encode_utf8_all, appended, pending_of, record_line, nothing_written}
use Rattle.snap_pending.proofs.Ends.{saved, no_key, at_ok}
use Rattle.snap_pending.proofs.pending.PendingInlineSnapshot.save.Goals as goal

pub returns-clause-added : goal.returns-clause-added
returns-clause-added g c =
    at_ok c.append_line.result (λ added. λ m told. added m told ∙ ap (λ t. Some (appended m c.args.path.now (encode_utf8_all t))) c.in_ok-line.ensures.printed) c.append_line.ensures.added

pub returns-clause-end : goal.returns-clause-end
returns-clause-end g c = saved c.args.path.now _ c.append_line.result c.in_ok-line.ensures.end c.append_line.ensures.error

pub returns-clause-same : goal.returns-clause-same
returns-clause-same g c = λ key. no_key c.args.path.now c.append_line.result c.append_line.ensures.error key

pub returns-in_err-line-clause-unknown : goal.returns-in_err-line-clause-unknown
returns-in_err-line-clause-unknown g c = nothing_written c.from_residual.result c.args.path.now (g.S.Store.files c.args.store.now)

pub returns-in_err-line-clause-stopped : goal.returns-in_err-line-clause-stopped
returns-in_err-line-clause-stopped g c =
    let told = err_from_is_err_and c.from_residual.result c.from_residual.ensures.1 in
    rw (told.1, told.2) (unprinted (adds c.args.path.now (record_line (pending_of c.args.self.now)) ∷ []) _ c.in_err-line.field-0.0 (g.S.Store.files c.args.store.now) c.in_err-line.ensures.end)

pub returns-clause-stopped : goal.returns-clause-stopped
returns-clause-stopped g c =
    let P : List ℕ → Type 0 = λ line. IfErr c.append_line.result (λ error. StandsAfter (adds c.args.path.now line ∷ []) (named_by error) (g.S.Store.files c.args.store.now) (g.S.Store.files c.append_line.new.store)) in
    subst P c.in_ok-line.ensures.printed c.append_line.ensures.stopped
