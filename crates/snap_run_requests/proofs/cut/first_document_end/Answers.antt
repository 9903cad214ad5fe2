use Rattle.snap_run_requests.proofs.Prelude.{sym, ◌∙◌, arith}
use Rattle.snap_run_requests.proofs.Cutting.{line_place, line_behind, line_ends, line_goes_on, last_line, one_document}
use Rattle.snap_run_requests.proofs.cut.first_document_end.Goals as goal

pub returns-then-is_document_ahead-clause-cut : goal.returns-then-is_document_ahead-clause-cut
returns-then-is_document_ahead-clause-cut c =
    let bytes = c.args.bytes.now in
    let rest = c.loop-at.rest.now in
    let first = c.in-Some.ensures in
    let is = c.loop-at.invariant.behind in
    line_ends bytes rest c.split_at.result.1.now c.loop-at.end c.in-Some.at is (line_place bytes rest c.loop-at.end c.in-Some.at is c.loop-at.invariant.bound first.0.high) first.0.before first.1
    c.split_at.ensures.back (sym c.is_document_ahead.ensures ∙ c.if-is_document_ahead.true) c.loop-at.invariant.within

pub loop-at-preserved : goal.loop-at-preserved
loop-at-preserved c =
    let bytes = c.args.bytes.now in
    let rest = c.loop-at.rest.now in
    let end = c.loop-at.end in
    let at = c.in-Some.at in
    let first = c.in-Some.ensures in
    let is = c.loop-at.invariant.behind in
    let place = line_place bytes rest end at is c.loop-at.invariant.bound first.0.high in
    record {
      within =
          line_goes_on bytes rest c.split_at.result.1.now end at is place first.0.before first.1 c.split_at.ensures.back (sym c.is_document_ahead.ensures ∙ c.if-is_document_ahead.false)
          c.loop-at.invariant.within;
      bound = omega (arith, place);
      behind = line_behind bytes rest c.split_at.result.1.now end at is c.split_at.ensures.back;
    }

pub returns-clause-cut : goal.returns-clause-cut
returns-clause-cut c =
    one_document _ c.requires (last_line c.args.bytes.now c.loop-at.rest.now c.loop-at.end c.loop-at.invariant.behind c.loop-at.invariant.bound c.in_default.ensures c.loop-at.invariant.within)
