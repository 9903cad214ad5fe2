use Rattle.snap_mask.proofs.Prelude.{◌≡◌, ◌++◌, length, refl, sym, ap, ◌∙◌, false, arith, line_read, LineEnd, Err}
use Rattle.snap_io_lines.proofs.Pieces.{spends_none, spends_then, an_error}
use Rattle.snap_mask.proofs.Runs.{so_far_start, leaves_error, leaves_stop, not_words_error, not_words_stop, length_done, length_error, length_stop, all_read, still_ahead, is_done, goes_on, record_of_read}
use Rattle.snap_mask.proofs.masking.mask_lines.Goals as goal

pub lines-init : goal.lines-init
lines-init g c = record {
  so_far = λ rules input w are e f. so_far_start rules input w _ _ _ c.new-held.ensures e f;
  ahead = λ input e. (input, record { rest = input; told = e; is = ap (λ h. h ++ input) (sym c.new-held.ensures) });
  spent = spends_none _ _ _ refl;
  some = omega arith;
  bound = omega (arith, ap length c.new-held.ensures);
  read_count = refl;
  write_count = refl;
}

pub returns-in-Err-clause-words : goal.returns-in-Err-clause-words
returns-in-Err-clause-words g c = rw c.status_of.ensures (not_words_error c.in-Err.error _)

pub returns-in-Err-write_record-clause-words : goal.returns-in-Err-write_record-clause-words
returns-in-Err-write_record-clause-words g c = rw c.refusal_of.ensures (not_words_stop c.in-Err-write_record.stop _)

pub returns-in-Err-clause-leaves : goal.returns-in-Err-clause-leaves
returns-in-Err-clause-leaves g c = λ rules are input w e f.
    let s = c.lines.invariant.so_far rules input w are e f in
    rw c.status_of.ensures (leaves_error c.in-Err.error rules input w _ _ _ c.lines.number s (λ is. c.in-Err.ensures.long (an_error c.in-Err.error _ is) s.rest s.ahead))

pub returns-in-Err-clause-length : goal.returns-in-Err-clause-length
returns-in-Err-clause-length g c =
    rw c.status_of.ensures (length_error LineEnd c.in-Err.error _ _ _ _ c.in-Err.ensures.left (spends_then _ _ _ _ _ _ c.lines.invariant.spent c.in-Err.ensures.spent))

pub returns-in-Err-write_record-clause-leaves : goal.returns-in-Err-write_record-clause-leaves
returns-in-Err-write_record-clause-leaves g c = λ rules are input w e f.
    let s = c.lines.invariant.so_far rules input w are e f in
    let read : c.line_read.result.now ≡ line_read c.in-Ok.end c.next_line.new.line.items = c.line_read.ensures ∙ ap (line_read c.in-Ok.end) c.as_slice.ensures.value in
    rw c.refusal_of.ensures (leaves_stop (Unit {0}) c.in-Ok.end c.in-Err-write_record.stop rules input w _ _ c.next_line.new.line.items _ _ _ _ c.lines.number s
    (record { taken = c.in-Ok.ensures.line s.rest s.ahead; unbroken = c.in-Ok.ensures.unbroken; within = c.in-Ok.ensures.within })
    (rw read at (c.in-Err-write_record.ensures.refused rules are))
    (record_of_read {T = Unit {0}} rules c.line_read.result.now (line_read c.in-Ok.end c.next_line.new.line.items) _ _ (Err c.in-Err-write_record.stop) read (λ v told. c.in-Err-write_record.ensures.written rules v are told)))

pub returns-in-Err-write_record-clause-length : goal.returns-in-Err-write_record-clause-length
returns-in-Err-write_record-clause-length g c =
    rw c.refusal_of.ensures (length_stop c.in-Err-write_record.stop _ _ _ _ c.in-Ok.ensures.left (spends_then _ _ _ _ _ _ c.lines.invariant.spent c.in-Ok.ensures.spent))

pub returns-in-Last-clause-leaves : goal.returns-in-Last-clause-leaves
returns-in-Last-clause-leaves g c = λ rules are input w e f.
    let s = c.lines.invariant.so_far rules input w are e f in
    let read : c.line_read.result.now ≡ line_read c.in-Ok.end c.next_line.new.line.items = c.line_read.ensures ∙ ap (line_read c.in-Ok.end) c.as_slice.ensures.value in
    is_done {T = Unit {0}} tt c.in-Ok.end rules input w _ _ c.next_line.new.line.items _ _ _ _ c.lines.number c.in-Last.is s
    (record { taken = c.in-Ok.ensures.line s.rest s.ahead; unbroken = c.in-Ok.ensures.unbroken; within = c.in-Ok.ensures.within })
    (λ v told. rw read at (c.in-Ok-write_record.ensures.written rules v are told))

pub returns-in-Last-clause-length : goal.returns-in-Last-clause-length
returns-in-Last-clause-length g c = length_done _ _ _ c.in-Ok.ensures.left (spends_then _ _ _ _ _ _ c.lines.invariant.spent c.in-Ok.ensures.spent) false refl

pub returns-in-Last-clause-end : goal.returns-in-Last-clause-end
returns-in-Last-clause-end g c = λ input told.
    let p = c.lines.invariant.ahead input told in
    all_read c.in-Ok.end _ _ _ _ c.in-Last.is (c.in-Ok.ensures.line p.0 p.1)

pub lines-preserved : goal.lines-preserved
lines-preserved g c =
    let read : c.line_read.result.now ≡ line_read c.in-Ok.end c.next_line.new.line.items = c.line_read.ensures ∙ ap (line_read c.in-Ok.end) c.as_slice.ensures.value in
    record {
      so_far = λ rules input w are e f.
          let s = c.lines.invariant.so_far rules input w are e f in
          goes_on {T = Unit {0}} tt c.in-Ok.end rules input w _ _ c.next_line.new.line.items _ _ _ _ c.lines.number c.in-Ended.is s
          (record { taken = c.in-Ok.ensures.line s.rest s.ahead; unbroken = c.in-Ok.ensures.unbroken; within = c.in-Ok.ensures.within })
          (λ v told. rw read at (c.in-Ok-write_record.ensures.written rules v are told));
      ahead = λ input told.
          let p = c.lines.invariant.ahead input told in
          still_ahead c.in-Ok.end _ _ _ _ c.in-Ended.is (c.in-Ok.ensures.line p.0 p.1);
      spent = spends_then _ _ _ _ _ _ c.lines.invariant.spent c.in-Ok.ensures.spent;
      some = c.in-Ok.ensures.left;
      bound = omega (arith, c.in-Ok.ensures.less c.in-Ended.is, c.lines.invariant.bound);
      read_count = c.in-Ok.ensures.cause ∙ c.lines.invariant.read_count;
      write_count = c.in-Ok-write_record.ensures.cause ∙ c.lines.invariant.write_count;
    }

pub lines-smaller : goal.lines-smaller
lines-smaller g c = omega (arith, c.in-Ok.ensures.less c.in-Ended.is)
