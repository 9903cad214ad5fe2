use Rattle.std.proofs.Common.{◌∙◌, arith}
use Rattle.std.proofs.lemmas.Result.{err_from_is_err_and}
use Rattle.snap_io_streams.proofs.Pieces.{more_read, all_read, part_room, whole_room, room_left, within_then, taken_then, fault_taken, taken_exactly}
use Rattle.snap_io_streams.proofs.streams.read_all.Goals as goal

pub returns-then-count-eq0-clause-all : goal.returns-then-count-eq0-clause-all
returns-then-count-eq0-clause-all g c = λ xs e.
    let room = part_room c.min-room.result 4096 c.loop-buffer.buffer c.loop-buffer.invariant.room (omega (arith, c.min-room.ensures, c.len-in-loop-buffer.ensures, c.len.ensures, c.loop-buffer-test.true)) (omega (arith, c.min-room.ensures)) in
    (all_read c.in_ok-count.count _ _ _ _ _ xs c.if-count-eq0.true c.in_ok-count.ensures.piece (c.in_ok-count.ensures.end c.if-count-eq0.true room) c.loop-buffer.invariant.read e).same

pub returns-then-count-eq0-clause-end : goal.returns-then-count-eq0-clause-end
returns-then-count-eq0-clause-end g c = λ xs e.
    let room = part_room c.min-room.result 4096 c.loop-buffer.buffer c.loop-buffer.invariant.room (omega (arith, c.min-room.ensures, c.len-in-loop-buffer.ensures, c.len.ensures, c.loop-buffer-test.true)) (omega (arith, c.min-room.ensures)) in
    (all_read c.in_ok-count.count _ _ _ _ _ xs c.if-count-eq0.true c.in_ok-count.ensures.piece (c.in_ok-count.ensures.end c.if-count-eq0.true room) c.loop-buffer.invariant.read e).nothing_left

pub loop-buffer-preserved : goal.loop-buffer-preserved
loop-buffer-preserved g c = record {
  read = more_read c.in_ok-count.count _ _ _ _ _ c.in_ok-count.ensures.piece c.loop-buffer.invariant.read;
  count = c.in_ok-count.ensures.cause ∙ c.loop-buffer.invariant.count;
  room = whole_room c.min-room.result 4096 c.loop-buffer.buffer c.read_piece.new.buffer c.loop-buffer.invariant.room (omega (arith, c.min-room.ensures)) c.read_piece.auto.buffer;
  within = within_then 67108865 c.in_ok-count.count _ _ _ _ _ c.in_ok-count.ensures.piece c.in_ok-count.ensures.within
      (room_left c.min-room.result 4096 67108865 c.loop-buffer.bytes.items c.loop-buffer.buffer c.loop-buffer.invariant.room (omega (arith, c.min-room.ensures))
      (omega (arith, c.min-room.ensures, c.len-in-loop-buffer.ensures, c.len.ensures, c.loop-buffer-test.true)));
}

pub returns-then-count-eq0-clause-taken : goal.returns-then-count-eq0-clause-taken
returns-then-count-eq0-clause-taken g c = taken_then 67108865 _ c.loop-buffer.bytes.items _ _ _ c.loop-buffer.invariant.read c.in_ok-count.ensures.taken
    (room_left c.min-room.result 4096 67108865 c.loop-buffer.bytes.items c.loop-buffer.buffer c.loop-buffer.invariant.room (omega (arith, c.min-room.ensures))
    (omega (arith, c.min-room.ensures, c.len-in-loop-buffer.ensures, c.len.ensures, c.loop-buffer-test.true)))

pub returns-in_err-count-clause-taken : goal.returns-in_err-count-clause-taken
returns-in_err-count-clause-taken g c = taken_then 67108865 _ c.loop-buffer.bytes.items _ _ _ c.loop-buffer.invariant.read c.in_err-count.ensures.taken
    (room_left c.min-room.result 4096 67108865 c.loop-buffer.bytes.items c.loop-buffer.buffer c.loop-buffer.invariant.room (omega (arith, c.min-room.ensures))
    (omega (arith, c.min-room.ensures, c.len-in-loop-buffer.ensures, c.len.ensures, c.loop-buffer-test.true)))

pub returns-clause-too_long : goal.returns-clause-too_long
returns-clause-too_long g c = λ is. taken_exactly 67108865 c.loop-buffer.bytes.items _ _ c.loop-buffer.invariant.read
    (omega (arith, c.loop-buffer.invariant.within, c.len.ensures, c.loop-buffer-test.false))

pub returns-in_err-count-clause-fault : goal.returns-in_err-count-clause-fault
returns-in_err-count-clause-fault g c = λ is.
    let told = err_from_is_err_and c.from_residual.result c.from_residual.ensures.1 in
    fault_taken 67108864 c.loop-buffer.bytes.items _ _ _ c.loop-buffer.invariant.read
    (c.in_err-count.ensures.kept (cc (told.1, told.2, is)))
    (omega (arith, c.len.ensures, c.loop-buffer-test.true))
