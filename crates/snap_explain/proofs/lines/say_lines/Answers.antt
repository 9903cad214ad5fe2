use Rattle.snap_explain.proofs.Prelude.{◌≡◌, [], length, refl, ap, ◌∙◌, arith, line_read, LineEnd, Ok, Err}
use Rattle.snap_io_lines.proofs.Pieces.{spends_none, spends_then, an_error}
use Rattle.snap_mask.proofs.Runs.{length_done}
use Rattle.snap_explain.proofs.Turns.{so_far_start, leaves_error, leaves_stop, is_done, goes_on, line_of_read}
use Rattle.snap_explain.proofs.Endings.{run_length, run_length_stop}
use Rattle.snap_explain.proofs.lines.say_lines.Goals as goal

pub lines-init : goal.lines-init
lines-init g c = record {
  so_far = λ rules input w are e f. so_far_start rules input w _ _ _ c.new-held.ensures e f;
  spent = spends_none _ _ _ refl;
  some = omega arith;
  bound = omega (arith, ap length c.new-held.ensures);
  read_count = refl;
  write_count = refl;
}

pub returns-in-Err-clause-leaves : goal.returns-in-Err-clause-leaves
returns-in-Err-clause-leaves g c = λ rules are input w e f.
    let s = c.lines.invariant.so_far rules input w are e f in
    rw c.run_at.ensures
    (leaves_error c.in-Err.error rules input w _ _ _ c.lines.number c.lines.found s (λ is. c.in-Err.ensures.long (an_error c.in-Err.error _ is) s.rest s.ahead))

pub returns-in-Err-clause-length : goal.returns-in-Err-clause-length
returns-in-Err-clause-length g c =
    rw c.run_at.ensures (run_length LineEnd c.in-Err.error _ _ _ _ c.in-Err.ensures.left (spends_then _ _ _ _ _ _ c.lines.invariant.spent c.in-Err.ensures.spent))

pub returns-in-Err-say_line-clause-leaves : goal.returns-in-Err-say_line-clause-leaves
returns-in-Err-say_line-clause-leaves g c = λ rules are input w e f.
    let s = c.lines.invariant.so_far rules input w are e f in
    let read : c.line_read.result.now ≡ line_read c.in-Ok.end c.next_line.new.line.items = c.line_read.ensures ∙ ap (line_read c.in-Ok.end) c.as_slice.ensures.value in
    rw c.run_of.ensures
    (leaves_stop c.in-Err-say_line.error c.in-Ok.end rules input w _ _ c.next_line.new.line.items _ _ _ _ c.lines.number c.lines.found s
    (record { taken = c.in-Ok.ensures.line s.rest s.ahead; unbroken = c.in-Ok.ensures.unbroken; within = c.in-Ok.ensures.within })
    (line_of_read rules _ c.line_read.result.now (line_read c.in-Ok.end c.next_line.new.line.items) _ _ (Err c.in-Err-say_line.error) read
    (λ v told. c.in-Err-say_line.ensures.said rules v are told)))

pub returns-in-Err-say_line-clause-length : goal.returns-in-Err-say_line-clause-length
returns-in-Err-say_line-clause-length g c =
    rw c.run_of.ensures (run_length_stop c.in-Err-say_line.error _ _ _ c.in-Ok.ensures.left (spends_then _ _ _ _ _ _ c.lines.invariant.spent c.in-Ok.ensures.spent))

pub returns-in-Last-clause-leaves : goal.returns-in-Last-clause-leaves
returns-in-Last-clause-leaves g c = λ rules are input w e f.
    let s = c.lines.invariant.so_far rules input w are e f in
    let read : c.line_read.result.now ≡ line_read c.in-Ok.end c.next_line.new.line.items = c.line_read.ensures ∙ ap (line_read c.in-Ok.end) c.as_slice.ensures.value in
    rw c.either-found.ensures
    (is_done c.in-Ok.end rules input w _ _ c.next_line.new.line.items _ _ _ _ c.lines.number c.lines.found c.in-Ok-say_line.said c.in-Last.is s
    (record { taken = c.in-Ok.ensures.line s.rest s.ahead; unbroken = c.in-Ok.ensures.unbroken; within = c.in-Ok.ensures.within })
    (line_of_read rules _ c.line_read.result.now (line_read c.in-Ok.end c.next_line.new.line.items) _ _ (Ok c.in-Ok-say_line.said) read
    (λ v told. c.in-Ok-say_line.ensures.said rules v are told)))

pub returns-in-Last-clause-length : goal.returns-in-Last-clause-length
returns-in-Last-clause-length g c = length_done _ _ _ c.in-Ok.ensures.left (spends_then _ _ _ _ _ _ c.lines.invariant.spent c.in-Ok.ensures.spent) _ refl

pub lines-preserved : goal.lines-preserved
lines-preserved g c =
    let read : c.line_read.result.now ≡ line_read c.in-Ok.end c.next_line.new.line.items = c.line_read.ensures ∙ ap (line_read c.in-Ok.end) c.as_slice.ensures.value in
    record {
      so_far = λ rules input w are e f.
          let s = c.lines.invariant.so_far rules input w are e f in
          rw c.either-found.ensures
          (goes_on c.in-Ok.end rules input w _ _ c.next_line.new.line.items _ _ _ _ c.lines.number c.lines.found c.in-Ok-say_line.said c.in-Ended.is s
          (record { taken = c.in-Ok.ensures.line s.rest s.ahead; unbroken = c.in-Ok.ensures.unbroken; within = c.in-Ok.ensures.within })
          (line_of_read rules _ c.line_read.result.now (line_read c.in-Ok.end c.next_line.new.line.items) _ _ (Ok c.in-Ok-say_line.said) read
          (λ v told. c.in-Ok-say_line.ensures.said rules v are told)));
      spent = spends_then _ _ _ _ _ _ c.lines.invariant.spent c.in-Ok.ensures.spent;
      some = c.in-Ok.ensures.left;
      bound = omega (arith, c.in-Ok.ensures.less c.in-Ended.is, c.lines.invariant.bound);
      read_count = c.in-Ok.ensures.cause ∙ c.lines.invariant.read_count;
      write_count = c.in-Ok-say_line.ensures.cause ∙ c.lines.invariant.write_count;
    }

pub lines-smaller : goal.lines-smaller
lines-smaller g c = omega (arith, c.in-Ok.ensures.less c.in-Ended.is)
