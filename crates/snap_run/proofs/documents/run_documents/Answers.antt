use Rattle.snap_run.proofs.Prelude.{refl, ◌∙◌, ap, length, arith}
use Rattle.snap_run.proofs.Stepping.{begins_run, goes_known, covers_on, stops_known, first_is, passed_more, not_empty}
use Rattle.snap_run.proofs.documents.run_documents.Goals as goal

pub loop-rest-init : goal.loop-rest-init
loop-rest-init g c = record {
  run = begins_run _ _ _ _ _ _ refl c.none-tally.ensures;
  covered = λ m told n now. c.new-listed.ensures n;
  few = omega arith;
  passed = let none = ap (λ k. k.passed) c.none-tally.ensures in omega (arith, none);
  untouched = λ none. refl;
  store_count = refl;
  sink_count = refl;
}

pub with-tally-requires : goal.with-tally-requires
with-tally-requires g c = omega (arith, c.loop-rest.invariant.passed, c.in-Ok.ensures.one, c.loop-rest.invariant.few, c.requires)

pub loop-rest-preserved : goal.loop-rest-preserved
loop-rest-preserved g c = record {
  run = goes_known _ _ _ _ _ _ _ _ _ _ _ _ _ _ _ _ c.loop-rest.listed _ (first_is _ _ _ _ c.first_document_end.ensures.cut c.split_at.ensures.front c.split_at.ensures.back) c.loop-rest.invariant.run c.loop-rest.invariant.covered c.in-Ok.ensures.ok c.with-tally.ensures;
  covered = covers_on _ _ _ _ _ _ _ _ _ _ _ _ c.loop-rest.listed c.run_document.new.listed c.loop-rest.invariant.run c.loop-rest.invariant.covered c.in-Ok.ensures.covered;
  few = omega (arith, c.split_at.ensures.back_len, c.first_document_end.ensures.positive);
  passed = passed_more c.loop-rest.document c.loop-rest.tally c.in-Ok.answered c.with-tally.result c.with-tally.ensures c.loop-rest.invariant.passed c.in-Ok.ensures.one;
  untouched = λ none. absurd (not_empty c.args.input.now c.loop-rest.rest.now c.loop-rest.document c.loop-rest.invariant.few (omega (arith, c.first_document_end.ensures.positive, c.first_document_end.ensures.within)) none);
  store_count = c.in-Ok.ensures.store_count ∙ c.loop-rest.invariant.store_count;
  sink_count = c.in-Ok.ensures.sink_count ∙ c.loop-rest.invariant.sink_count;
}

pub returns-in-Err-clause-stopped : goal.returns-in-Err-clause-stopped
returns-in-Err-clause-stopped g c =
    stops_known _ _ _ _ c.split_at.result.1.now _ _ _ _ _ _ _ _ _ _ _ c.loop-rest.listed (first_is _ _ _ _ c.first_document_end.ensures.cut c.split_at.ensures.front c.split_at.ensures.back) c.loop-rest.invariant.run c.loop-rest.invariant.covered c.in-Err.ensures.err c.status_at.ensures
