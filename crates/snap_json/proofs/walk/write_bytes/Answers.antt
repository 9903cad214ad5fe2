use Rattle.snap_json.proofs.Prelude.{◌+◌, [], ◌∷◌, ◌++◌, take, get_or, sym, ap, ◌∙◌, take_more, take_all, further, byte_written, bytes_at, IsByteWithin}
use Rattle.std.proofs.lemmas.List.Elements.{All-nil}
use Rattle.snap_json.proofs.Within.{all_more, all_in, on_ok_with}
use Rattle.snap_json.proofs.Behind.{on_exit, stopped_first, stopped_behind, stopped_at, added_behind, added_none, wrote_at, out_of_memory}
use Rattle.snap_json.proofs.Collections.{failed_opening, failed_first, failed_further, added_more, wrote_collection, same_get}
use Rattle.snap_json.proofs.walk.write_bytes.Goals as goal

pub returns-in_err-inner-clause-wrote : goal.returns-in_err-inner-clause-wrote
returns-in_err-inner-clause-wrote c =
    on_exit c.from_residual.result c.from_residual.ensures.1
    (out_of_memory c.args.out.now (bytes_at c.args.format c.args.column c.args.bytes.now (c.args.column + 2)))

pub returns-in_err-write_opening-clause-wrote : goal.returns-in_err-write_opening-clause-wrote
returns-in_err-write_opening-clause-wrote c =
    on_exit c.from_residual-in_err-write_opening.result c.from_residual-in_err-write_opening.ensures.1
    (stopped_at (bytes_at c.args.format c.args.column c.args.bytes.now) c.in_ok-inner.inner (c.args.column + 2) c.in_ok-inner.ensures.ok
    (failed_opening c.args.format c.args.column c.in_ok-inner.inner 91 93 (byte_written c.args.format c.in_ok-inner.inner) c.args.bytes.now c.in-Some.rest.now c.in-Some.first.now c.in-Some.ensures.cases.0 c.in_err-write_opening.ensures))

pub returns-in_err-write_byte-clause-wrote : goal.returns-in_err-write_byte-clause-wrote
returns-in_err-write_byte-clause-wrote c =
    on_exit c.from_residual-in_err-write_byte.result c.from_residual-in_err-write_byte.ensures.1
    (stopped_at (bytes_at c.args.format c.args.column c.args.bytes.now) c.in_ok-inner.inner (c.args.column + 2) c.in_ok-inner.ensures.ok
    (failed_first c.args.format c.args.column c.in_ok-inner.inner 91 93 (byte_written c.args.format c.in_ok-inner.inner) c.args.bytes.now c.in-Some.rest.now c.in-Some.first.now c.in-Some.ensures.cases.0 c.in_ok-write_opening.ensures c.in_err-write_byte.ensures.wrote))

pub returns-in_err-write_comma-clause-wrote : goal.returns-in_err-write_comma-clause-wrote
returns-in_err-write_comma-clause-wrote c =
    on_exit c.from_residual-in_err-write_comma.result c.from_residual-in_err-write_comma.ensures.1
    (stopped_at (bytes_at c.args.format c.args.column c.args.bytes.now) c.in_ok-inner.inner (c.args.column + 2) c.in_ok-inner.ensures.ok
    (failed_further c.args.format c.args.column c.in_ok-inner.inner 91 93 (byte_written c.args.format c.in_ok-inner.inner) c.args.bytes.now c.in-Some.rest.now c.in-Some.first.now (get_or c.in-Some.rest.now c.loop-byte.byte-index 0) c.loop-byte.byte-index c.in-Some.ensures.cases.0 c.in_ok-write_opening.ensures c.in_ok-write_byte.ensures.wrote
    c.loop-byte.invariant.added c.loop-byte-test.true (same_get c.in-Some.rest.now c.loop-byte.byte-index c.loop-byte-test.true)
    (stopped_first (byte_written c.args.format c.in_ok-inner.inner (get_or c.in-Some.rest.now c.loop-byte.byte-index 0)) c.in_err-write_comma.ensures)))

pub returns-in_err-write_byte-2-clause-wrote : goal.returns-in_err-write_byte-2-clause-wrote
returns-in_err-write_byte-2-clause-wrote c =
    on_exit c.from_residual-in_err-write_byte-2.result c.from_residual-in_err-write_byte-2.ensures.1
    (stopped_at (bytes_at c.args.format c.args.column c.args.bytes.now) c.in_ok-inner.inner (c.args.column + 2) c.in_ok-inner.ensures.ok
    (failed_further c.args.format c.args.column c.in_ok-inner.inner 91 93 (byte_written c.args.format c.in_ok-inner.inner) c.args.bytes.now c.in-Some.rest.now c.in-Some.first.now (get_or c.in-Some.rest.now c.loop-byte.byte-index 0) c.loop-byte.byte-index c.in-Some.ensures.cases.0 c.in_ok-write_opening.ensures c.in_ok-write_byte.ensures.wrote
    c.loop-byte.invariant.added c.loop-byte-test.true (same_get c.in-Some.rest.now c.loop-byte.byte-index c.loop-byte-test.true)
    (stopped_behind c.in_ok-write_comma.ensures c.in_err-write_byte-2.ensures.wrote)))

pub loop-byte-init : goal.loop-byte-init
loop-byte-init c = record {
  added = added_none c.write_byte.new.out;
  within = All-nil IsByteWithin;
}

pub loop-byte-preserved : goal.loop-byte-preserved
loop-byte-preserved c = record {
  added =
      added_more (further c.args.format c.in_ok-inner.inner (byte_written c.args.format c.in_ok-inner.inner)) c.in-Some.rest.now c.loop-byte.byte-index (get_or c.in-Some.rest.now c.loop-byte.byte-index 0)
      (take_more c.in-Some.rest.now c.loop-byte.byte-index (get_or c.in-Some.rest.now c.loop-byte.byte-index 0) c.loop-byte-test.true ∙ ap (λ x. take c.loop-byte.byte-index c.in-Some.rest.now ++ x ∷ []) (sym (same_get c.in-Some.rest.now c.loop-byte.byte-index c.loop-byte-test.true)))
      c.loop-byte.invariant.added (added_behind c.in_ok-write_comma.ensures c.in_ok-write_byte-2.ensures.wrote);
  within = all_more IsByteWithin c.in-Some.rest.now c.loop-byte.byte-index (get_or c.in-Some.rest.now c.loop-byte.byte-index 0) c.loop-byte-test.true (same_get c.in-Some.rest.now c.loop-byte.byte-index c.loop-byte-test.true) c.loop-byte.invariant.within c.in_ok-write_byte-2.ensures.within;
}

pub returns-clause-wrote : goal.returns-clause-wrote
returns-clause-wrote c =
    wrote_at c.write_closing.result c.args.out.now c.write_closing.new.out (bytes_at c.args.format c.args.column c.args.bytes.now) c.in_ok-inner.inner (c.args.column + 2) c.in_ok-inner.ensures.ok
    (wrote_collection c.write_closing.result c.write_closing.new.out c.args.format c.args.column c.in_ok-inner.inner 91 93 (byte_written c.args.format c.in_ok-inner.inner) c.args.bytes.now c.in-Some.rest.now c.in-Some.first.now c.loop-byte.byte-index c.in-Some.ensures.cases.0 c.in_ok-write_opening.ensures c.in_ok-write_byte.ensures.wrote
    c.loop-byte.invariant.added (take_all c.loop-byte.byte-index c.in-Some.rest.now c.loop-byte-test.false) c.write_closing.ensures)

pub returns-clause-within : goal.returns-clause-within
returns-clause-within c =
    on_ok_with c.write_closing.result
    (all_in IsByteWithin c.args.bytes.now c.in-Some.rest.now c.in-Some.first.now c.loop-byte.byte-index c.in-Some.ensures.cases.0 c.in_ok-write_byte.ensures.within
    c.loop-byte.invariant.within (take_all c.loop-byte.byte-index c.in-Some.rest.now c.loop-byte-test.false))
