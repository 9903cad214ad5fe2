use Rattle.std.proofs.lemmas.Result.{err_from_is_err_and}
use Rattle.snap_store.proofs.Prelude.{◌∙◌, ap}
use Rattle.snap_store.proofs.Told.{file_at}
use Rattle.snap_store.proofs.Outcomes.{refused_call}
use Rattle.snap_store.proofs.Besides.{AreBut, still_read, read_beside, refused_beside}
use Rattle.snap_store.proofs.snapshot.Snapshot.from_file.Goals as goal

pub returns-in_err-found-clause-end : goal.returns-in_err-found-clause-end
returns-in_err-found-clause-end g c =
    let at = file_at c.args.path.now (g.S.Store.files c.args.store.now) in
    let told = err_from_is_err_and c.from_residual.result c.from_residual.ensures.1 in
    rw (told.1, told.2) (record { file = at.0; told = at.1; comes_to = refused_call c.args.path.now at.0 c.in_err-found.field-0.0 c.in_err-found.ensures.error; beside = λ m e. tt })

pub returns-in-Ok-clause-end : goal.returns-in-Ok-clause-end
returns-in-Ok-clause-end g c =
    let kept = c.with_payload.ensures in
    let same : AreBut c.in-Ok.payload c.in_ok-snapshot.snapshot c.with_payload.result = record {
      metadata = kept.metadata;
      contents = kept.contents;
      legacy = kept.legacy;
      number = kept.number;
    } in
    let read = c.in_ok-snapshot.ensures.end in
    let kinds = c.kind.ensures ∙ ap (λ x. x.kind) c.metadata.ensures in
    record {
      file = c.in_ok-found.found;
      told = c.in_ok-found.ensures.found;
      comes_to = still_read c.in_ok-found.found c.in-Ok.payload c.in_ok-snapshot.snapshot c.with_payload.result same read;
      beside = λ m told.
          read_beside c.args.path.now c.in_ok-found.found c.in-Ok.payload m c.kind.result.now c.in_ok-snapshot.snapshot c.with_payload.result same read kinds (c.in-Ok.ensures.found m (c.in_ok-found.ensures.same ∙ told));
    }

pub returns-in-Err-clause-end : goal.returns-in-Err-clause-end
returns-in-Err-clause-end g c =
    record {
      file = c.in_ok-found.found;
      told = c.in_ok-found.ensures.found;
      comes_to = refused_beside c.args.path.now c.in_ok-found.found c.in_ok-snapshot.snapshot c.kind.result.now c.in-Err.error c.in_ok-snapshot.ensures.end (c.kind.ensures ∙ ap (λ x. x.kind) c.metadata.ensures) c.in-Err.ensures.error;
      beside = λ m e. tt;
    }
