use Rattle.snap_review.proofs.Prelude.{sym, subst, Counted, says_file_fault}
use Rattle.snap_review.proofs.Readings.{file_in, file_told, source_unread}
use Rattle.snap_review.proofs.reading.read_source.Goals as goal

pub returns-in-Ok-clause-end : goal.returns-in-Ok-clause-end
returns-in-Ok-clause-end g c = record {
  file = c.in-Ok.file;
  told = c.in-Ok.ensures.found;
  comes_to = c.text_of.ensures.end c.args.path.now;
}

pub returns-in-Ok-clause-cause : goal.returns-in-Ok-clause-cause
returns-in-Ok-clause-cause g c =
    subst (λ count. Counted says_file_fault (g.S.Store.faults c.args.store.now) count c.text_of.result) (sym c.in-Ok.ensures.cause) (c.text_of.ensures.no_fault (g.S.Store.faults c.args.store.now))

pub returns-in-Err-clause-end : goal.returns-in-Err-clause-end
returns-in-Err-clause-end g c = record {
  file = file_in (g.S.Store.files c.args.store.now) c.args.path.now;
  told = file_told (g.S.Store.files c.args.store.now) c.args.path.now;
  comes_to = rw c.status_of.ensures (source_unread c.args.path.now _ c.in-Err.error c.in-Err.ensures.error);
}
