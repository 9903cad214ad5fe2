use Rattle.snap_review.proofs.Prelude.{encode_utf8_all, refl}
use Rattle.snap_store.proofs.Written.{text_sent}
use Rattle.snap_review.proofs.Stopping.{stops_unbegun, stops_writing, wrote}
use Rattle.snap_review.proofs.carrying.put_source.Goals as goal

pub returns-in-Err-clause-stopped : goal.returns-in-Err-clause-stopped
returns-in-Err-clause-stopped g c = stops_unbegun _ (g.S.Store.files c.args.store.now)

pub returns-in-Ok-clause-stopped : goal.returns-in-Ok-clause-stopped
returns-in-Ok-clause-stopped g c =
    stops_writing c.args.path.now _ _ (encode_utf8_all c.args.made.now) c.write.result _ _ c.in-Ok.ensures (text_sent _ _ _ _ c.as_str.utf8 c.as_str.ensures refl c.as_bytes.ensures.value)
    c.write.ensures.error c.write.ensures.stopped

pub returns-in-Ok-clause-ok : goal.returns-in-Ok-clause-ok
returns-in-Ok-clause-ok g c =
    wrote c.args.path.now _ _ (encode_utf8_all c.args.made.now) c.write.result _ _ c.in-Ok.ensures (text_sent _ _ _ _ c.as_str.utf8 c.as_str.ensures refl c.as_bytes.ensures.value)
    c.write.ensures.written
