use Rattle.snap_store.proofs.Prelude.{◌∙◌, refl, ap, Some}
use Rattle.snap_io.specs.Files.{appended}
use Rattle.snap_store.proofs.Written.{text_sent, nothing_written}
use Rattle.snap_store.proofs.named.append.Goals as goal

pub returns-in_err-own-clause-unknown : goal.returns-in_err-own-clause-unknown
returns-in_err-own-clause-unknown g c = nothing_written c.from_residual.result c.args.path.now (g.S.Store.files c.args.store.now)

pub returns-in-Ok-clause-added : goal.returns-in-Ok-clause-added
returns-in-Ok-clause-added g c = λ m told.
    c.in-Ok.ensures.appended m told ∙ ap (λ x. Some (appended m c.args.path.now x)) (text_sent _ _ _ _ c.as_str.utf8 c.as_str.ensures refl c.as_bytes.ensures.value)
